-- What holds of calls and histories, for every lawful base agreement.
use Rattle.std.specs.Prelude.{◌≡◌, ℕ, ◌<◌, ◌≤◌, true, false, List, length, Some, None, Option, slice_index, slice_index_or}
use Rattle.message.specs.declared.Message.{Message}
use Rattle.message.specs.Members.{member, size}
use Rattle.protocol.specs.Grading.{Grading}
use Rattle.protocol.specs.Agreement.{Meaning, Sized}
use Rattle.committee.specs.declared.stages.Stage.{Stage}
use Rattle.committee.specs.Tree.{committees}
use Rattle.committee.specs.Plan.{duration}
use Rattle.runs.specs.State.{State, room, here, party, day_at}
use Rattle.runs.specs.Round.{party_of, says_in}
use Rattle.runs.specs.Wire.{Place, stands, to_parties}
use Rattle.runs.specs.Calls.{Call, reads_decision, Over}
use Rattle.runs.specs.Rules.{Answer, reads, GoesOn, Outcome}
use Rattle.runs.specs.Machine.{after, answer}
use Rattle.runs.specs.History.{seated, opened, History, accepted_closings}
use Rattle.runs.specs.Opening.{Entry, Opening, entry, left_by}
use Rattle.runs.specs.Sent.{sent}
use Rattle.runs.specs.Fair.{Fair}
use Rattle.runs.specs.Life.{life, heard}

-- Every call has exactly one outcome in every state, and that is the computed one.
abbrev pub CallsHaveOneOutcome : Type 0 → Type 0 → Type 0
CallsHaveOneOutcome B G =
    (a : Meaning B) (g : Grading G) → Sized a → (s : State B G) (c : Call)
    → Outcome a g s c (answer a g s c) (after a g s c)
    × ((x : Answer) (new : State B G) → Outcome a g s c x new → (x ≡ answer a g s c) × (new ≡ after a g s c))

-- Every opening has exactly one outcome, and that is the computed one.
abbrev pub OpeningsHaveOneOutcome : Type 0 → Type 0 → Type 0
OpeningsHaveOneOutcome B G =
    (a : Meaning B) (g : Grading G) (n b : ℕ) (inputs : List ℕ) (wire : List (Option Message))
    → let x = entry a g n b inputs wire in
    Opening a g n b inputs wire x (left_by a g n b inputs wire x)
    × ((y : Entry B G) (w : List (Option Message)) → Opening a g n b inputs wire y w → (y ≡ x) × (w ≡ left_by a g n b inputs wire x))

-- What opening leaves is what the rules say of the next round, on every wire that is long enough, whatever it held.
abbrev pub OpeningsFollowTheRules : Type 0 → Type 0 → Type 0
OpeningsFollowTheRules B G =
    (a : Meaning B) (g : Grading G) → Sized a → (n b : ℕ) (inputs : List ℕ) (wire : List (Option Message)) → room n ≤ length wire
    → let s = seated a g n b inputs wire in GoesOn a g (here a g s) s (opened a g n b inputs wire)

-- the rounds of n parties
abbrev pub rounds_among : {B G : Type 0} → Meaning B → Grading G → ℕ → ℕ
rounds_among a g n = duration a.rounds g.protocol.rounds (committees a.most 0 n)

-- Over after the plan, in a state that a history of n parties has led to:
pub record OverAfter {B G : Type 0} (a : Meaning B) (g : Grading G) (n : ℕ) (events : List (Call × Answer)) (s : State B G) : Type 0 where
  -- the closings are those that were accepted, and never more than the plan has rounds;
  pub counted : s.closings ≡ accepted_closings events
  pub within : s.closings ≤ rounds_among a g n
  -- it is over exactly when they are as many;
  pub over : Over a g s → s.closings ≡ rounds_among a g n
  pub at_the_end : s.closings ≡ rounds_among a g n → Over a g s
  -- and then every honest party has a decision, which can be read.
  pub decided : Over a g s → (p : ℕ) → p < n → member p s.corrupt ≡ false
      → Outcome a g s (reads_decision p) (reads (day_at (party a g s p) 0)) s

abbrev pub OverAfterThePlan : Type 0 → Type 0 → Type 0
OverAfterThePlan B G =
    (a : Meaning B) (g : Grading G) (n b : ℕ) (inputs : List ℕ) (wire : List (Option Message))
    (events : List (Call × Answer)) (s : State B G) → History a g (opened a g n b inputs wire) events s → OverAfter a g n events s

-- What every history of n parties keeps to, at most b of them corrupt, on a lent wire:
pub record KeepsToItsRoom {B G : Type 0} (a : Meaning B) (g : Grading G) (n b : ℕ) (wire : List (Option Message)) (s : State B G) : Type 0 where
  pub parties : s.parties ≡ n
  pub limit : s.limit ≡ b
  -- who is corrupt is a party, and there are never more than may be;
  pub corrupt_parties : (p : ℕ) → member p s.corrupt ≡ true → p < n
  pub within_limit : size n s.corrupt ≤ b
  -- the wire keeps its length, and slots that do not belong to the execution keep what they held;
  pub long : length s.wire ≡ length wire
  pub untouched : (x : ℕ) → room n ≤ x → slice_index_or s.wire x None ≡ slice_index_or wire x None
  -- when it is over, those that belong to it are empty.
  pub empty : Over a g s → (x : ℕ) → x < room n → slice_index_or s.wire x None ≡ None

abbrev pub HistoriesKeepToTheirRoom : Type 0 → Type 0 → Type 0
HistoriesKeepToTheirRoom B G =
    (a : Meaning B) (g : Grading G) → Sized a → (n b : ℕ) (inputs : List ℕ) (wire : List (Option Message)) → room n ≤ length wire
    → (events : List (Call × Answer)) (s : State B G) → History a g (opened a g n b inputs wire) events s → KeepsToItsRoom a g n b wire s

-- Counts what was sent: in every history, closed to the end or not, the counter is the signatures that stood on the wire right after the
-- opening and right after each accepted closing.
abbrev pub CountsWhatWasSent : Type 0 → Type 0 → Type 0
CountsWhatWasSent B G =
    (a : Meaning B) (g : Grading G) → Sized a → (n b : ℕ) (inputs : List ℕ) (wire : List (Option Message)) → room n ≤ length wire
    → (events : List (Call × Answer)) (s : State B G) (h : History a g (opened a g n b inputs wire) events s) → s.count ≡ sent a g h

-- Sends as prescribed: whatever round is open in a history, its wire is fair; and what stands from an honest party is fixed by its input and by
-- what it heard.
abbrev pub SendsAsPrescribed : Type 0 → Type 0 → Type 0
SendsAsPrescribed B G =
    (a : Meaning B) (g : Grading G) → Sized a → (n b : ℕ) (inputs : List ℕ) (wire : List (Option Message)) → room n ≤ length wire
    → (events : List (Call × Answer)) (s : State B G) (h : History a g (opened a g n b inputs wire) events s)
    → (st : Stage) → here a g s ≡ Some st
    → Fair a g st s
    × ((t i j : ℕ) → Place st t i j → let p = party_of st i in member p s.corrupt ≡ false
    → stands st s.wire t i j ≡ to_parties st.committee.first (says_in a g st i (life a g n p (slice_index inputs p) (heard a g h p)) t))

-- Settles as prescribed: in every history and for every b, an honest party holds, day and grade at every depth and its records, what its input
-- and what it heard give; so do its decision and what it sends.
abbrev pub SettlesAsPrescribed : Type 0 → Type 0 → Type 0
SettlesAsPrescribed B G =
    (a : Meaning B) (g : Grading G) → Sized a → (n b : ℕ) (inputs : List ℕ) (wire : List (Option Message)) → room n ≤ length wire
    → (events : List (Call × Answer)) (s : State B G) (h : History a g (opened a g n b inputs wire) events s)
    → (p : ℕ) → p < n → member p s.corrupt ≡ false
    → (length (heard a g h p) ≡ s.closings) × (party a g s p ≡ life a g n p (slice_index inputs p) (heard a g h p))
