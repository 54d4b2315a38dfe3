-- The signatures that stand on the wire, and those that a history has sent.
use Rattle.std.specs.Prelude.{ℕ, ◌+◌, ◌*◌, List, Some, None, Option}
use Rattle.message.specs.declared.Message.{Message}
use Rattle.message.specs.Count.{sum}
use Rattle.protocol.specs.Cost.{on_one_copy}
use Rattle.protocol.specs.Grading.{Grading}
use Rattle.protocol.specs.Agreement.{Meaning}
use Rattle.committee.specs.declared.stages.Stage.{Stage}
use Rattle.runs.specs.State.{State, here}
use Rattle.runs.specs.Round.{work, topics_for, form_in}
use Rattle.runs.specs.Wire.{Slots, stands, to_seats}
use Rattle.runs.specs.Calls.{Call}
use Rattle.runs.specs.Rules.{Answer}
use Rattle.runs.specs.History.{History, begins, goes_on, closing_of}

module _ {B G : Type 0} (a : Meaning B) (g : Grading G) where
  -- the signatures on what stands in one slot, from seat i under topic t
  abbrev pub on_copy : Stage → ℕ → ℕ → Option Message → ℕ
  on_copy st t i None = 0
  on_copy st t i (Some m) = on_one_copy st.committee.size (form_in a g st t i m.signers.mask) m.signers.mask

  -- on all slots of the round: every receiver's copy counts, the sender's own too
  unfoldable pub on_wire : Stage → Slots → ℕ
  on_wire st wire =
      let s = st.committee.size in
      sum (λ t. sum (λ i. sum (λ j. on_copy st t i (to_seats st.committee.first (stands st wire t i j))) s) s) (topics_for (work st))

  abbrev pub standing_in : Option Stage → Slots → ℕ
  standing_in None wire = 0
  standing_in (Some st) wire = on_wire st wire

  -- the signatures that stand on the wire in a state
  abbrev pub standing : State B G → ℕ
  standing s = standing_in (here a g s) s.wire

  -- what stood on the wire right after the opening, and right after each accepted closing
  unfoldable pub sent : {from s : State B G} {events : List (Call × Answer)} → History a g from events s → ℕ
  sent {from = from} begins = standing from
  sent (goes_on {new = new} {c = c} {x = x} h _) = sent h + closing_of c x * standing new
