-- The outcome of a call, computed: what it leaves and what it answers.
use Rattle.std.specs.Prelude.{ℕ, suc, ◌+◌, ◌/◌, ◌%◌, ◌^◌, cond, ◌&&◌, List, map, length, get_or, Some, None, Option, ◌==◌, bit_or, nat_lt, slice_index_or, slice_set}
use Rattle.std.specs.List.{range_with_len}
use Rattle.message.specs.declared.Message.{Message}
use Rattle.protocol.specs.Grading.{Grading}
use Rattle.protocol.specs.Agreement.{Meaning}
use Rattle.committee.specs.declared.stages.Stage.{Stage}
use Rattle.runs.specs.State.{Party, State, room, here, nobody, party, day_at}
use Rattle.runs.specs.Round.{party_of, seat_of, ready, spoken}
use Rattle.runs.specs.Hearing.{hears_in}
use Rattle.runs.specs.Wire.{Slots, slot, used, to_parties, inbox_of}
use Rattle.runs.specs.Calls.{message, Call, corrupts, injects, closes, reads_decision, reads_signatures, reads_closings}
use Rattle.runs.specs.Checking.{refusal}
use Rattle.runs.specs.Rules.{Answer, refused, done, reads, speaks, said_by, sent_in}

-- a wire, slot by slot
abbrev pub rewired : (ℕ → Option Message → Option Message) → Slots → Slots
rewired f wire = map (λ x. f x (slice_index_or wire x None)) (range_with_len 0 (length wire))

-- the topic, the sender and the receiver of a slot among s seats
abbrev pub topic_of : ℕ → ℕ → ℕ
topic_of s x = x / s / s

abbrev pub sender_of : ℕ → ℕ → ℕ
sender_of s x = x / s % s

module _ {B G : Type 0} (a : Meaning B) (g : Grading G) where
  abbrev pub with_wire : State B G → ℕ → Slots → State B G
  with_wire s corrupt wire = record {
    parties = s.parties;
    limit = s.limit;
    corrupt = corrupt;
    closings = s.closings;
    count = s.count;
    held = s.held;
    wire = wire;
  }

  -- the wire without what the party sends in this round
  unfoldable pub silenced : Stage → ℕ → Slots → Slots
  silenced st p wire = rewired (λ x o. cond (nat_lt x (used st) && party_of st (sender_of st.committee.size x) == p) None o) wire

  unfoldable pub after_corrupting : Stage → ℕ → State B G → State B G
  after_corrupting st p s = with_wire s (bit_or s.corrupt (2 ^ p)) (silenced st p s.wire)

  unfoldable pub after_injecting : Stage → ℕ → ℕ → ℕ → Message → State B G → State B G
  after_injecting st i j t m s = with_wire s s.corrupt (slice_set s.wire (slot st.committee.size t (seat_of st i) (seat_of st j)) (Some m))

  -- what everybody holds, if those who speak in the round change so
  abbrev pub moved : Stage → ℕ → (ℕ → Party B G → Party B G) → List (Party B G) → List (Party B G)
  moved st corrupt f held = map (λ p. let x = get_or held p (nobody a g) in cond (speaks a g st corrupt p) (f (seat_of st p) x) x) (range_with_len 0 (length held))

  unfoldable pub after_hearing : Stage → State B G → State B G
  after_hearing st s = record {
    parties = s.parties;
    limit = s.limit;
    corrupt = s.corrupt;
    closings = suc s.closings;
    count = s.count;
    held = moved st s.corrupt (λ i x. hears_in a g st i x (inbox_of a g st s.wire i)) s.held;
    wire = s.wire;
  }

  -- the wire when a round opens
  abbrev pub slot_filled : Stage → ℕ → List (Party B G) → ℕ → ℕ → Option Message → Option Message
  slot_filled st corrupt held n x o =
      let s = st.committee.size in
      let m = to_parties st.committee.first (said_by a g st corrupt held (topic_of s x) (sender_of s x)) in
      cond (nat_lt x (used st)) m (cond (nat_lt x (room n)) None o)

  unfoldable pub after_opening : Stage → State B G → State B G
  after_opening st s =
      let held = moved st s.corrupt (λ i x. spoken a g st i (ready a g st i x)) s.held in
      record {
        parties = s.parties;
        limit = s.limit;
        corrupt = s.corrupt;
        closings = s.closings;
        count = s.count + sent_in a g st s.corrupt held;
        held = held;
        wire = rewired (slot_filled st s.corrupt held s.parties) s.wire;
      }

  unfoldable pub after_ending : State B G → State B G
  after_ending s = with_wire s s.corrupt (rewired (λ x o. cond (nat_lt x (room s.parties)) None o) s.wire)

  unfoldable pub going_on : Option Stage → State B G → State B G
  going_on None s = after_ending s
  going_on (Some st) s = after_opening st s

  unfoldable pub after_closing : Stage → State B G → State B G
  after_closing st s = let between = after_hearing st s in going_on (here a g between) between

  -- what a call leaves in a stage, if it is accepted there
  unfoldable pub acted : Stage → State B G → Call → State B G
  acted st s (corrupts p) = after_corrupting st p s
  acted st s (injects i j t day signers) = after_injecting st i j t (message day signers) s
  acted st s closes = after_closing st s
  acted st s (reads_decision p) = s
  acted st s reads_signatures = s
  acted st s reads_closings = s

  abbrev pub acted_if_open : Option Stage → State B G → Call → State B G
  acted_if_open None s c = s
  acted_if_open (Some st) s c = acted st s c

  abbrev pub unless_refused : Option ℕ → State B G → Call → State B G
  unless_refused (Some k) s c = s
  unless_refused None s c = acted_if_open (here a g s) s c

  -- the state after a call
  unfoldable pub after : State B G → Call → State B G
  after s c = unless_refused (refusal a g s c) s c

  -- what a call answers
  abbrev pub says_of : State B G → Call → Answer
  says_of s (corrupts p) = done
  says_of s (injects i j t day signers) = done
  says_of s closes = done
  says_of s (reads_decision p) = reads (day_at (party a g s p) 0)
  says_of s reads_signatures = reads s.count
  says_of s reads_closings = reads s.closings

  abbrev pub answer_by : Option ℕ → State B G → Call → Answer
  answer_by (Some k) s c = refused k
  answer_by None s c = says_of s c

  unfoldable pub answer : State B G → Call → Answer
  answer s c = answer_by (refusal a g s c) s c
