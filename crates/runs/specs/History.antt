-- Histories: what calls bring about, one after another, from an opened execution.
use Rattle.std.specs.Prelude.{ℕ, ◌+◌, false, List, [], ◌∷◌, map, replicate, None, Option, slice_index, slice_set}
use Rattle.std.specs.List.{range_with_len}
use Rattle.message.specs.declared.Message.{Message}
use Rattle.protocol.specs.Grading.{Grading}
use Rattle.protocol.specs.Agreement.{Meaning, base_topics}
use Rattle.runs.specs.State.{Party, State, here}
use Rattle.runs.specs.Hearing.{entered}
use Rattle.runs.specs.Calls.{Call, corrupts, injects, closes, reads_decision, reads_signatures, reads_closings}
use Rattle.runs.specs.Rules.{Answer, refused, done, reads, Outcome}
use Rattle.runs.specs.Machine.{going_on}

-- the depths that a tree of committees may have: at most 32 parties are halved five times
abbrev pub depths : ℕ
depths = 6

module _ {B G : Type 0} (a : Meaning B) (g : Grading G) where
  -- party p of n before the first round: it enters the committee of all with its input
  abbrev pub beginner : ℕ → ℕ → ℕ → Party B G
  beginner n p input = record {
    days = slice_set (replicate depths 0) 0 (entered a g n p input);
    sure = replicate depths false;
    graded = g.protocol.start 0 0 0;
    base = a.start 0 0 0;
    signed = replicate base_topics None;
  }

  -- before the first round
  unfoldable pub seated : ℕ → ℕ → List ℕ → List (Option Message) → State B G
  seated n b inputs wire = record {
    parties = n;
    limit = b;
    corrupt = 0;
    closings = 0;
    count = 0;
    held = map (λ p. beginner n p (slice_index inputs p)) (range_with_len 0 n);
    wire = wire;
  }

  -- An opened execution of n parties, of which b may be corrupted: the first round of the plan is open.
  unfoldable pub opened : ℕ → ℕ → List ℕ → List (Option Message) → State B G
  opened n b inputs wire = let s = seated n b inputs wire in going_on a g (here a g s) s

  -- A history from a state: calls with their answers, the latest first; each is an outcome in the state that those before it left.
  pub data History (from : State B G) : List (Call × Answer) → State B G → Type 0 where
    begins : History from [] from
    goes_on : {events : List (Call × Answer)} {s new : State B G} {c : Call} {x : Answer} → History from events s → Outcome a g s c x new
        → History from ((c, x) ∷ events) new

-- an answer that is no refusal
abbrev pub accepted : Answer → ℕ
accepted (refused k) = 0
accepted done = 1
accepted (reads n) = 1

-- an accepted closing
abbrev pub closing_of : Call → Answer → ℕ
closing_of (corrupts p) x = 0
closing_of (injects i j t day signers) x = 0
closing_of closes x = accepted x
closing_of (reads_decision p) x = 0
closing_of reads_signatures x = 0
closing_of reads_closings x = 0

-- how many closings were accepted
unfoldable pub accepted_closings : List (Call × Answer) → ℕ
accepted_closings [] = 0
accepted_closings (e ∷ es) = closing_of e.0 e.1 + accepted_closings es
