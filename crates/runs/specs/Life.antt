-- One party's way through an execution: what it holds is fixed by its input and by what it heard.
use Rattle.std.specs.Prelude.{ℕ, zero, suc, cond, List, [], ◌∷◌, length, Some, None, Option}
use Rattle.protocol.specs.Protocol.{Inbox}
use Rattle.protocol.specs.Grading.{Grading}
use Rattle.protocol.specs.Agreement.{Meaning}
use Rattle.committee.specs.declared.stages.Stage.{Stage}
use Rattle.committee.specs.Plan.{sits}
use Rattle.runs.specs.State.{Party, State, stage_at, here}
use Rattle.runs.specs.Round.{seat_of, ready, spoken}
use Rattle.runs.specs.Hearing.{hears_in}
use Rattle.runs.specs.Wire.{Slots, inbox_of}
use Rattle.runs.specs.Calls.{Call}
use Rattle.runs.specs.Rules.{Answer}
use Rattle.runs.specs.History.{beginner, History, begins, goes_on, closing_of}

module _ {B G : Type 0} (a : Meaning B) (g : Grading G) where
  -- party p when a round opens and when it closes; who does not sit in the round's committee goes on as before
  abbrev pub at_opening : ℕ → Option Stage → Party B G → Party B G
  at_opening p None x = x
  at_opening p (Some st) x = let said = spoken a g st (seat_of st p) (ready a g st (seat_of st p) x) in cond (sits st.committee p) said x

  abbrev pub at_closing : ℕ → Option Stage → Inbox → Party B G → Party B G
  at_closing p None box x = x
  at_closing p (Some st) box x = let heard = hears_in a g st (seat_of st p) x box in cond (sits st.committee p) heard x

  -- what party p of n holds that began with this input and has heard these inboxes, one in each closed round, the latest first
  unfoldable pub life : ℕ → ℕ → ℕ → List Inbox → Party B G
  life n p input [] = at_opening p (stage_at a g n 0) (beginner a g n p input)
  life n p input (box ∷ boxes) =
      at_opening p (stage_at a g n (suc (length boxes))) (at_closing p (stage_at a g n (length boxes)) box (life n p input boxes))

  -- what a closing brings to party p
  abbrev pub box_in : Option Stage → Slots → ℕ → Inbox
  box_in None wire p = []
  box_in (Some st) wire p = inbox_of a g st wire (seat_of st p)

  abbrev pub one_more_box : ℕ → Inbox → List Inbox → List Inbox
  one_more_box zero box boxes = boxes
  one_more_box (suc _) box boxes = box ∷ boxes

  -- what party p has heard in a history
  unfoldable pub heard : {from s : State B G} {events : List (Call × Answer)} → History a g from events s → ℕ → List Inbox
  heard begins p = []
  heard (goes_on {s = s} {c = c} {x = x} h _) p = one_more_box (closing_of c x) (box_in (here a g s) s.wire p) (heard h p)
