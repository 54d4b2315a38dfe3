-- Opening an execution, and when that is refused.
use Rattle.std.specs.Prelude.{◌≡◌, ℕ, ◌<◌, Bool, not, ◌||◌, ◌≢◌, List, [], ◌∷◌, length, Some, None, Option, ◌==◌, nat_lt}
use Rattle.message.specs.Members.{most_parties}
use Rattle.protocol.specs.Grading.{Grading}
use Rattle.protocol.specs.Agreement.{Meaning}
use Rattle.runs.specs.State.{State, room}
use Rattle.runs.specs.Wire.{Slots}
use Rattle.runs.specs.Checking.{first_of}
use Rattle.runs.specs.History.{opened}

-- When a number keeps an execution of n parties, of whom b may be corrupted, from being opened with these inputs on this wire:
pub data Prevents (n b : ℕ) (inputs : List ℕ) (wire : Slots) : ℕ → Type 0 where
  -- 1: there is no party, or there are too many
  no_parties : n ≡ 0 → Prevents n b inputs wire 1
  too_many : most_parties < n → Prevents n b inputs wire 1
  -- 2: more may be corrupted than there are
  limit_above : n < b → Prevents n b inputs wire 2
  -- 3: there is not an input for each
  not_each : length inputs ≢ n → Prevents n b inputs wire 3
  -- 4: the wire is too short
  short : length wire < room n → Prevents n b inputs wire 4

-- what an opening answers: a refusal's number, or an execution
pub data Entry (B G : Type 0) : Type 0 where
  denied : ℕ → Entry B G
  begun : State B G → Entry B G

module _ {B G : Type 0} (a : Meaning B) (g : Grading G) (n b : ℕ) (inputs : List ℕ) (wire : Slots) where
  -- The outcome of an opening, and the wire that it leaves: refused by the least number that prevents it, with the wire as it was; or opened, if
  -- none does.
  pub data Opening : Entry B G → Slots → Type 0 where
    denies : {k : ℕ} → Prevents n b inputs wire k → ((k' : ℕ) → k' < k → Prevents n b inputs wire k' → ⊥) → Opening (denied k) wire
    begins : ((k : ℕ) → Prevents n b inputs wire k → ⊥) → Opening (begun (opened a g n b inputs wire)) (opened a g n b inputs wire).wire

  -- the same computed: the checks in the order of their numbers
  unfoldable pub opening_checks : List (Bool × ℕ)
  opening_checks =
      (n == 0 || nat_lt most_parties n, 1) ∷ (nat_lt n b, 2) ∷ (not (length inputs == n), 3) ∷ (nat_lt (length wire) (room n), 4) ∷ []

  abbrev pub entry_by : Option ℕ → Entry B G
  entry_by (Some k) = denied k
  entry_by None = begun (opened a g n b inputs wire)

  unfoldable pub entry : Entry B G
  entry = entry_by (first_of opening_checks)

  abbrev pub left_by : Entry B G → Slots
  left_by (denied k) = wire
  left_by (begun s) = s.wire
