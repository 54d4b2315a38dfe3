-- What has been seen under a topic: nothing, one day or several, of the days that were named.
use Rattle.std.specs.Prelude.{◌≡◌, ℕ, ◌⊎◌, List, Some, None, Option, ◌==◌, ◌≢◌, refl}
use Rattle.std.proofs.Common.{sym, ◌∙◌, ap, inl, inr}
use Rattle.std.proofs.lemmas.Bool.{cond_both, eqb-true, eqb-false}
use Rattle.base.specs.declared.relays.Seen.{Seen}
use Rattle.base.specs.declared.relays.Seen.TheVariants.{Nothing, One, Several}
use Rattle.base.specs.Relaying.{add, gather, only_day}
use Rattle.base.specs.Laws.Folding.{Named, no_more, about_all}

-- just the days N have been seen
abbrev pub Sees : (ℕ → Type 0) → Seen → Type 0
Sees N Nothing = (v : ℕ) → N v → ⊥
Sees N (One u) = N u × ((v : ℕ) → N v → v ≡ u)
Sees N Several = (u : ℕ) × (v : ℕ) × N u × N v × (u ≢ v)

pub sees_same : (N N' : ℕ → Type 0) (s : Seen) → ((v : ℕ) → N v → N' v) → ((v : ℕ) → N' v → N v) → Sees N s → Sees N' s
sees_same N N' Nothing to from none = λ v n. none v (from v n)
sees_same N N' (One u) to from one = (to u one.0, λ v n. one.1 v (from v n))
sees_same N N' Several to from two = (two.0, two.1, to two.0 two.2, to two.1 two.3, two.4)

-- one day more
sees_with : (N : ℕ → Type 0) (s : Seen) (o : Option ℕ) → Sees N s → Sees (λ v. N v ⊎ (o ≡ Some v)) (add s o)
sees_with N s None sees = sees_same N (λ v. N v ⊎ (None ≡ Some v)) s (λ v n. inl n) (no_more N) sees
sees_with N Nothing (Some w) none = (inr refl, only)
  where
    only : (v : ℕ) → N v ⊎ (Some w ≡ Some v) → v ≡ w
    only v (inl n) = absurd (none v n)
    only v (inr e) = cc
sees_with N (One u) (Some w) one =
    cond_both (u == w) (One u) Several (Sees (λ v. N v ⊎ (Some w ≡ Some v)))
    (λ e. (inl one.0, only (eqb-true u w e)))
    (λ e. (u, w, inl one.0, inr refl, eqb-false u w e))
  where
    only : u ≡ w → (v : ℕ) → N v ⊎ (Some w ≡ Some v) → v ≡ u
    only same v (inl n) = one.1 v n
    only same v (inr e) = cc
sees_with N Several (Some w) two = (two.0, two.1, inl two.2, inl two.3, two.4)

-- the days of a list more
pub sees_all : (N : ℕ → Type 0) (s : Seen) (xs : List (Option ℕ)) → Sees N s → Sees (λ v. N v ⊎ Named xs v) (gather s xs)
sees_all = about_all add Sees sees_same sees_with

-- what is seen depends on the days alone, not on how often or in which order they come
pub same_seen : (N : ℕ → Type 0) (s s' : Seen) → Sees N s → Sees N s' → s ≡ s'
same_seen N Nothing Nothing a b = refl
same_seen N Nothing (One u) a b = absurd (a u b.0)
same_seen N Nothing Several a b = absurd (a b.0 b.2)
same_seen N (One u) Nothing a b = absurd (b u a.0)
same_seen N (One u) (One v) a b = ap One (b.1 u a.0)
same_seen N (One u) Several a b = absurd (b.4 (a.1 b.0 b.2 ∙ sym (a.1 b.1 b.3)))
same_seen N Several Nothing a b = absurd (b a.0 a.2)
same_seen N Several (One u) a b = absurd (a.4 (b.1 a.0 a.2 ∙ sym (b.1 a.1 a.3)))
same_seen N Several Several a b = refl

-- the one day has been seen
pub only_seen : (N : ℕ → Type 0) (s : Seen) (v : ℕ) → Sees N s → only_day s ≡ Some v → N v
only_seen N Nothing v sees e = absurd (cc)
only_seen N (One u) v sees e = let same : u ≡ v = cc in rw (sym same) sees.0
only_seen N Several v sees e = absurd (cc)
