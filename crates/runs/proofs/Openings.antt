-- An opening has exactly one outcome, and it is the computed one.
use Rattle.std.proofs.Common.{◌≡◌, ℕ, List, Some, None, Option, refl, arith}
use Rattle.protocol.specs.Grading.{Grading}
use Rattle.protocol.specs.Agreement.{Meaning}
use Rattle.runs.specs.Wire.{Slots}
use Rattle.runs.specs.Checking.{first_of}
use Rattle.runs.specs.Opening.{Prevents, no_parties, too_many, limit_above, not_each, short, Entry, Opening, denies, begins, opening_checks, entry_by, entry, left_by}
use Rattle.runs.proofs.Refusing.{Rows, end, row, Marked, this, later, least_applies, none_marked}

module _ {B G : Type 0} (a : Meaning B) (g : Grading G) (n b : ℕ) (inputs : List ℕ) (wire : Slots) where
  rows : Rows (Prevents n b inputs wire) 0 (opening_checks a g n b inputs wire)
  unfolding opening_checks
  rows =
      row (omega arith) (λ on. grind (arith, no_parties, too_many))
      (row (omega arith) (λ on. limit_above (grind arith))
      (row (omega arith) (λ on. not_each (grind arith))
      (row (omega arith) (λ on. short (grind arith)) end)))

  marks : (k : ℕ) → Prevents n b inputs wire k → Marked k (opening_checks a g n b inputs wire)
  unfolding opening_checks
  marks k on = grind (arith, this, later)

  pub opens_so : Opening a g n b inputs wire (entry a g n b inputs wire) (left_by a g n b inputs wire (entry a g n b inputs wire))
  unfolding entry
  opens_so = go (first_of (opening_checks a g n b inputs wire)) refl
    where
      go : (o : Option ℕ) → first_of (opening_checks a g n b inputs wire) ≡ o
          → Opening a g n b inputs wire (entry_by a g n b inputs wire o) (left_by a g n b inputs wire (entry_by a g n b inputs wire o))
      go None e = begins (λ k on. none_marked (opening_checks a g n b inputs wire) e k (marks k on))
      go (Some k) e = let least = least_applies (Prevents n b inputs wire) rows marks k e in denies least.0 least.1

  -- two outcomes are one
  pub one_opening : {x y : Entry B G} {v w : Slots} → Opening a g n b inputs wire x v → Opening a g n b inputs wire y w → (x ≡ y) × (v ≡ w)
  one_opening on on' = grind arith
