-- What the calls do: relations between the state before and the state after.
use Rattle.std.specs.Prelude.{◌≡◌, ℕ, suc, ◌+◌, ◌<◌, ◌≤◌, Bool, true, false, cond, ◌||◌, ◌≢◌, ◌⊎◌, List, length, Some, None, Option, ◌==◌, slice_index_or}
use Rattle.message.specs.declared.Message.{Message}
use Rattle.message.specs.Count.{sum}
use Rattle.message.specs.Members.{member, Holds}
use Rattle.protocol.specs.Cost.{cost}
use Rattle.protocol.specs.Grading.{Grading}
use Rattle.protocol.specs.Agreement.{Meaning}
use Rattle.committee.specs.declared.stages.Stage.{Stage}
use Rattle.committee.specs.Plan.{sits}
use Rattle.runs.specs.State.{Party, State, room, here, nobody, party, day_at}
use Rattle.runs.specs.Round.{work, topics_for, party_of, seat_of, form_in, says_in, ready, spoken}
use Rattle.runs.specs.Hearing.{hears_in}
use Rattle.runs.specs.Wire.{Place, stands, used, to_parties, inbox_of, ElsewhereSame}
use Rattle.runs.specs.Calls.{message, Call, corrupts, injects, closes, reads_decision, reads_signatures, reads_closings, Applies}

-- what a call answers: a refusal's number, that it is done, or the number that was read
pub data Answer : Type 0 where
  refused : ℕ → Answer
  done : Answer
  reads : ℕ → Answer

module _ {B G : Type 0} (a : Meaning B) (g : Grading G) where
  -- who speaks in a round: the honest parties of its committee
  abbrev pub speaks : Stage → ℕ → ℕ → Bool
  speaks st corrupt p = cond (member p corrupt) false (sits st.committee p)

  -- what seat i says under topic t, if its party is honest, and what it costs
  abbrev pub said_by : Stage → ℕ → List (Party B G) → ℕ → ℕ → Option Message
  said_by st corrupt held t i = cond (member (party_of st i) corrupt) None (says_in a g st i (slice_index_or held (party_of st i) (nobody a g)) t)

  abbrev pub price : Stage → ℕ → ℕ → Option Message → ℕ
  price st t i None = 0
  price st t i (Some m) = cost st.committee.size (form_in a g st t i m.signers.mask) m.signers.mask

  -- the signatures that are sent when the round opens
  unfoldable pub sent_in : Stage → ℕ → List (Party B G) → ℕ
  sent_in st corrupt held = sum (λ t. sum (λ i. price st t i (said_by st corrupt held t i)) st.committee.size) (topics_for (work st))

  -- A round opens: who speaks gets ready and says what it has to say to all seats, which is counted; nothing else stands in the first slots.
  pub record Opens (st : Stage) (old new : State B G) : Type 0 where
    pub parties : new.parties ≡ old.parties
    pub limit : new.limit ≡ old.limit
    pub corrupt : new.corrupt ≡ old.corrupt
    pub closings : new.closings ≡ old.closings
    pub everybody : length new.held ≡ length old.held
    pub speakers : (p : ℕ) → p < length old.held → speaks st old.corrupt p ≡ true
        → party a g new p ≡ spoken a g st (seat_of st p) (ready a g st (seat_of st p) (party a g old p))
    pub silent : (p : ℕ) → p < length old.held → speaks st old.corrupt p ≡ false → party a g new p ≡ party a g old p
    pub counted : new.count ≡ old.count + sent_in st old.corrupt new.held
    pub long : length new.wire ≡ length old.wire
    pub said : (t i j : ℕ) → Place st t i j → stands st new.wire t i j ≡ to_parties st.committee.first (said_by st old.corrupt new.held t i)
    pub nothing_else : (x : ℕ) → used st ≤ x → x < room old.parties → slice_index_or new.wire x None ≡ None
    pub untouched : (x : ℕ) → used st ≤ x → room old.parties ≤ x → slice_index_or new.wire x None ≡ slice_index_or old.wire x None

  -- After the last round the first slots are empty, and nothing else changes.
  pub record Ends (old new : State B G) : Type 0 where
    pub parties : new.parties ≡ old.parties
    pub limit : new.limit ≡ old.limit
    pub corrupt : new.corrupt ≡ old.corrupt
    pub closings : new.closings ≡ old.closings
    pub held : new.held ≡ old.held
    pub count : new.count ≡ old.count
    pub long : length new.wire ≡ length old.wire
    pub empty : (x : ℕ) → x < room old.parties → slice_index_or new.wire x None ≡ None
    pub untouched : (x : ℕ) → room old.parties ≤ x → slice_index_or new.wire x None ≡ slice_index_or old.wire x None

  -- the next round opens, if there is one
  abbrev pub GoesOn : Option Stage → State B G → State B G → Type 0
  GoesOn None old new = Ends old new
  GoesOn (Some st) old new = Opens st old new

  -- A party is corrupted: what it sends in this round is gone, and nothing else changes.
  pub record Corrupted (st : Stage) (p : ℕ) (old new : State B G) : Type 0 where
    pub parties : new.parties ≡ old.parties
    pub limit : new.limit ≡ old.limit
    pub closings : new.closings ≡ old.closings
    pub count : new.count ≡ old.count
    pub held : new.held ≡ old.held
    pub corrupt : Holds new.corrupt (λ q. (q == p) || member q old.corrupt)
    pub gone : (t i j : ℕ) → Place st t i j → party_of st i ≡ p → stands st new.wire t i j ≡ None
    pub others : (t i j : ℕ) → Place st t i j → party_of st i ≢ p → stands st new.wire t i j ≡ stands st old.wire t i j
    pub elsewhere : ElsewhereSame st old.wire new.wire

  -- A message is injected: it stands in its slot, and nothing else changes.
  pub record Injected (st : Stage) (i j t : ℕ) (m : Message) (old new : State B G) : Type 0 where
    pub parties : new.parties ≡ old.parties
    pub limit : new.limit ≡ old.limit
    pub corrupt : new.corrupt ≡ old.corrupt
    pub closings : new.closings ≡ old.closings
    pub count : new.count ≡ old.count
    pub held : new.held ≡ old.held
    pub there : stands st new.wire t (seat_of st i) (seat_of st j) ≡ Some m
    pub others : (t' i' j' : ℕ) → Place st t' i' j' → (t' ≢ t) ⊎ ((i' ≢ seat_of st i) ⊎ (j' ≢ seat_of st j))
        → stands st new.wire t' i' j' ≡ stands st old.wire t' i' j'
    pub elsewhere : ElsewhereSame st old.wire new.wire

  -- A round closes: every honest party of its committee hears what stands for it, all together; nobody else moves.
  pub record Heard (st : Stage) (old new : State B G) : Type 0 where
    pub parties : new.parties ≡ old.parties
    pub limit : new.limit ≡ old.limit
    pub corrupt : new.corrupt ≡ old.corrupt
    pub closings : new.closings ≡ suc old.closings
    pub count : new.count ≡ old.count
    pub wire : new.wire ≡ old.wire
    pub everybody : length new.held ≡ length old.held
    pub listeners : (p : ℕ) → p < length old.held → speaks st old.corrupt p ≡ true
        → party a g new p ≡ hears_in a g st (seat_of st p) (party a g old p) (inbox_of a g st old.wire (seat_of st p))
    pub away : (p : ℕ) → p < length old.held → speaks st old.corrupt p ≡ false → party a g new p ≡ party a g old p

  pub record Closed (st : Stage) (old new : State B G) : Type 0 where
    pub between : State B G
    pub heard : Heard st old between
    pub goes_on : GoesOn (here a g between) between new

  -- what an accepted call answers and does
  pub data Does (s : State B G) : Call → Answer → State B G → Type 0 where
    corrupted : {p : ℕ} {st : Stage} {new : State B G} → here a g s ≡ Some st → Corrupted st p s new → Does s (corrupts p) done new
    injected : {i j t day signers : ℕ} {st : Stage} {new : State B G} → here a g s ≡ Some st
        → Injected st i j t (message day signers) s new → Does s (injects i j t day signers) done new
    closed : {st : Stage} {new : State B G} → here a g s ≡ Some st → Closed st s new → Does s closes done new
    decision : {p : ℕ} → Does s (reads_decision p) (reads (day_at (party a g s p) 0)) s
    signatures : Does s reads_signatures (reads s.count) s
    closings : Does s reads_closings (reads s.closings) s

  -- The outcome of a call: refused by the least number that applies, with nothing moved; or accepted, if none applies.
  pub data Outcome (s : State B G) (c : Call) : Answer → State B G → Type 0 where
    refuses : {k : ℕ} → Applies a g s c k → ((k' : ℕ) → k' < k → Applies a g s c k' → ⊥) → Outcome s c (refused k) s
    accepts : {answer : Answer} {new : State B G} → ((k : ℕ) → Applies a g s c k → ⊥) → Does s c answer new → Outcome s c answer new
