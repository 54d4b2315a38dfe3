-- Who is corrupt when: earlier is fewer, and whoever is outside the last set is honest all along.
use Rattle.std.proofs.Common.{◌≡◌, ℕ, zero, suc, ◌+◌, ◌-◌, ◌<◌, ◌≤◌, Bool, true, false, sym, ap, ◌∙◌, subst, arith}
use Rattle.std.proofs.lemmas.Bool.{both_ways, false_from_ne_true}
use Rattle.halving.specs.Theorems.{OnlyGrows}

module _ (corrupt : ℕ → ℕ → Bool) (grows : OnlyGrows corrupt) where
  later_by : (n t p : ℕ) → corrupt t p ≡ true → corrupt (n + t) p ≡ true
  later_by zero t p bad = subst (λ x. corrupt x p ≡ true) (omega arith) bad
  later_by (suc n) t p bad = subst (λ x. corrupt x p ≡ true) (omega arith) (grows (n + t) p (later_by n t p bad))

  later : (t t' p : ℕ) → t ≤ t' → corrupt t p ≡ true → corrupt t' p ≡ true
  later t t' p h bad = subst (λ x. corrupt x p ≡ true) (omega arith) (later_by (t' - t) t p bad)

  -- who is honest later is honest now
  pub was_honest : (t t' p : ℕ) → t ≤ t' → corrupt t' p ≡ false → corrupt t p ≡ false
  was_honest t t' p h good = false_from_ne_true (corrupt t p) (λ bad. both_ways (corrupt t' p) good (later t t' p h bad))

  -- at time t, whoever of s parties from lo on is corrupt is in F
  abbrev pub Within : (ℕ → Bool) → ℕ → ℕ → ℕ → Type 0
  Within F t lo s = (i : ℕ) → i < s → corrupt t (lo + i) ≡ true → F (lo + i) ≡ true

  module _ (F : ℕ → Bool) where
    pub earlier : (t t' lo s : ℕ) → t ≤ t' → Within F t' lo s → Within F t lo s
    earlier t t' lo s h all i hi bad = all i hi (later t t' (lo + i) h bad)

    -- a part of the parties
    pub part : (t lo s skip n half : ℕ) → half ≡ lo + skip → skip + n ≤ s → Within F t lo s → Within F t half n
    part t lo s skip n half at inside all i hi bad =
        let here : half + i ≡ lo + (skip + i) = omega (arith, at) in
        ap F here ∙ all (skip + i) (omega arith) (sym (ap (corrupt t) here) ∙ bad)

    pub outside : (t lo s i : ℕ) → Within F t lo s → i < s → F (lo + i) ≡ false → corrupt t (lo + i) ≡ false
    outside t lo s i all hi good = false_from_ne_true (corrupt t (lo + i)) (λ bad. both_ways (F (lo + i)) good (all i hi bad))
