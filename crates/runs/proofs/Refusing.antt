-- The first check that says yes gives the least number that applies.
use Rattle.std.proofs.Common.{◌≡◌, ℕ, suc, ◌<◌, ◌≤◌, Bool, true, false, List, [], ◌∷◌, Some, None, arith}
use Rattle.runs.specs.Checking.{first_of}

-- the checks stand in the order of their numbers, and each says yes only if its number applies
pub data Rows (P : ℕ → Type 0) : ℕ → List (Bool × ℕ) → Type 0 where
  end : {lo : ℕ} → Rows P lo []
  row : {lo k : ℕ} {b : Bool} {cs : List (Bool × ℕ)} → lo ≤ k → (b ≡ true → P k) → Rows P (suc k) cs → Rows P lo ((b, k) ∷ cs)

-- a check with the number says yes
pub data Marked (k : ℕ) : List (Bool × ℕ) → Type 0 where
  this : {b : Bool} {cs : List (Bool × ℕ)} → b ≡ true → Marked k ((b, k) ∷ cs)
  later : {c : Bool × ℕ} {cs : List (Bool × ℕ)} → Marked k cs → Marked k (c ∷ cs)

module _ (P : ℕ → Type 0) where
  marked_above : {lo : ℕ} {cs : List (Bool × ℕ)} → Rows P lo cs → (k : ℕ) → Marked k cs → lo ≤ k
  marked_above end k on = elim on [ ]
  marked_above (row h _ rows) k (this _) = h
  marked_above (row h _ rows) k (later on) = let more = marked_above rows k on in omega (arith, h, more)

  -- the number that the checks give applies,
  pub first_applies : {lo : ℕ} {cs : List (Bool × ℕ)} → Rows P lo cs → (k : ℕ) → first_of cs ≡ Some k → P k
  unfolding first_of
  first_applies end k e = cc
  first_applies (row {k = n} {b = true} h applies rows) k e = grind arith
  first_applies (row {b = false} h applies rows) k e = first_applies rows k e

  -- and none below it is marked
  pub first_least : {lo : ℕ} {cs : List (Bool × ℕ)} → Rows P lo cs → (k : ℕ) → first_of cs ≡ Some k → (k' : ℕ) → Marked k' cs → k ≤ k'
  unfolding first_of
  first_least end k e k' on = elim on [ ]
  first_least (row {k = n} {b = true} h _ rows) k e k' (this _) = grind arith
  first_least (row {k = n} {b = true} h _ rows) k e k' (later on) =
      grind (arith, marked_above)
  first_least (row {b = false} h _ rows) k e k' (this says) = cc
  first_least (row {b = false} h _ rows) k e k' (later on) = first_least rows k e k' on

  -- so it is the least that applies, where a check says yes whenever its number applies;
  pub least_applies : {lo : ℕ} {cs : List (Bool × ℕ)} → Rows P lo cs → ((k : ℕ) → P k → Marked k cs) → (k : ℕ) → first_of cs ≡ Some k
      → P k × ((k' : ℕ) → k' < k → P k' → ⊥)
  least_applies rows marks k e = (first_applies rows k e, grind (arith, first_least))

-- if no check says yes, none is marked
pub none_marked : (cs : List (Bool × ℕ)) → first_of cs ≡ None → (k : ℕ) → Marked k cs → ⊥
unfolding first_of
none_marked ((true, n) ∷ cs) e k on = cc
none_marked ((false, n) ∷ cs) e k (this says) = cc
none_marked ((false, n) ∷ cs) e k (later on) = none_marked cs e k on
none_marked [] e k on = elim on [ ]
