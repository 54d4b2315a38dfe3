-- What is folded over a list of entries is about the days that they name.
use Rattle.std.specs.Prelude.{◌≡◌, ℕ, zero, suc, ◌⊎◌, List, [], ◌∷◌, Some, None, fold, Option}
use Rattle.std.proofs.Common.{inl, inr}
use Rattle.message.specs.Tally.{entry}

-- some entry names the day
abbrev pub Named : List (Option ℕ) → ℕ → Type 0
Named xs v = (j : ℕ) × (entry xs j ≡ Some v)

-- an entry that names no day adds none
pub no_more : (N : ℕ → Type 0) (v : ℕ) → N v ⊎ (None ≡ Some v) → N v
no_more N v (inl n) = n
no_more N v (inr e) = absurd (cc)

-- `About N s` says that s is about just the days N. If one step takes one more entry in, a fold takes in all.
module _ {S : Type 0} (f : S → Option ℕ → S) (About : (ℕ → Type 0) → S → Type 0)
    (same : (N N' : ℕ → Type 0) (s : S) → ((v : ℕ) → N v → N' v) → ((v : ℕ) → N' v → N v) → About N s → About N' s)
    (step : (N : ℕ → Type 0) (s : S) (o : Option ℕ) → About N s → About (λ v. N v ⊎ (o ≡ Some v)) (f s o)) where
  pub about_all : (N : ℕ → Type 0) (s : S) (xs : List (Option ℕ)) → About N s → About (λ v. N v ⊎ Named xs v) (fold f s xs)
  about_all N s [] a = same N (λ v. N v ⊎ Named [] v) s (λ v n. inl n) none a
    where
      none : (v : ℕ) → N v ⊎ Named [] v → N v
      none v (inl n) = n
      none v (inr at) = let e = at.1 in absurd (cc)
  about_all N s (x ∷ xs) a =
      same (λ v. (N v ⊎ (x ≡ Some v)) ⊎ Named xs v) (λ v. N v ⊎ Named (x ∷ xs) v) (fold f (f s x) xs) to from
      (about_all (λ v. N v ⊎ (x ≡ Some v)) (f s x) xs (step N s x a))
    where
      to : (v : ℕ) → (N v ⊎ (x ≡ Some v)) ⊎ Named xs v → N v ⊎ Named (x ∷ xs) v
      to v (inl (inl n)) = inl n
      to v (inl (inr e)) = inr (0, e)
      to v (inr at) = inr (suc at.0, at.1)

      at_place : (v j : ℕ) → entry (x ∷ xs) j ≡ Some v → (N v ⊎ (x ≡ Some v)) ⊎ Named xs v
      at_place v zero e = inl (inr e)
      at_place v (suc j) e = inr (j, e)

      from : (v : ℕ) → N v ⊎ Named (x ∷ xs) v → (N v ⊎ (x ≡ Some v)) ⊎ Named xs v
      from v (inl n) = inl (inl n)
      from v (inr at) = at_place v at.0 at.1
