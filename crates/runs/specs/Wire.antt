-- The wire: which message stands from whom to whom under which topic.
use Rattle.std.specs.Prelude.{◌≡◌, ℕ, ◌+◌, ◌*◌, ◌/◌, ◌%◌, ◌^◌, ◌<◌, ◌≤◌, cond, List, map, length, Some, None, Option, ◌==◌, slice_index_or}
use Rattle.std.specs.List.{range_with_len}
use Rattle.message.specs.declared.Message.{Message}
use Rattle.protocol.specs.Protocol.{Inbox}
use Rattle.protocol.specs.Grading.{Grading}
use Rattle.protocol.specs.Agreement.{Meaning}
use Rattle.committee.specs.declared.stages.Stage.{Stage}
use Rattle.runs.specs.Round.{work, topics_for}
use Rattle.runs.specs.Hearing.{formed}

-- a wire: the lent slots
abbrev pub Slots : Type 0
Slots = List (Option Message)

-- the slot from seat i to seat j under topic t, in a committee of s
abbrev pub slot : ℕ → ℕ → ℕ → ℕ → ℕ
slot s t i j = (t * s + i) * s + j

-- how many slots a round uses
abbrev pub used : Stage → ℕ
used st = topics_for (work st) * st.committee.size * st.committee.size

-- a place of the open round: a topic in use, and two seats of the committee
pub record Place (st : Stage) (t i j : ℕ) : Type 0 where
  pub a_topic : t < topics_for (work st)
  pub sender : i < st.committee.size
  pub receiver : j < st.committee.size

-- what stands from seat i to seat j under topic t
abbrev pub stands : Stage → Slots → ℕ → ℕ → ℕ → Option Message
stands st wire t i j = slice_index_or wire (slot st.committee.size t i j) None

-- On the wire signers are parties, and inside an agreement they are seats.
abbrev pub to_parties : ℕ → Option Message → Option Message
to_parties first None = None
to_parties first (Some m) = Some (record { day = m.day; signers = record { mask = m.signers.mask * 2 ^ first } })

-- a message with a signer before the committee's first party has no place in it
abbrev pub to_seats : ℕ → Option Message → Option Message
to_seats first None = None
to_seats first (Some m) =
    cond (m.signers.mask % 2 ^ first == 0) (Some (record { day = m.day; signers = record { mask = m.signers.mask / 2 ^ first } })) None

-- what arrives at seat j: its slots, with seats for signers, and nothing that has no form
unfoldable pub inbox_of : {B G : Type 0} → Meaning B → Grading G → Stage → Slots → ℕ → Inbox
inbox_of a g st wire j =
    let s = st.committee.size in
    map (λ x. formed a g st (x / s) (x % s) (to_seats st.committee.first (slice_index_or wire (x * s + j) None))) (range_with_len 0 (topics_for (work st) * s))

-- two wires differ at most in places of the open round
pub record ElsewhereSame (st : Stage) (old new : Slots) : Type 0 where
  pub long : length new ≡ length old
  pub same : (x : ℕ) → used st ≤ x → slice_index_or new x None ≡ slice_index_or old x None
