-- The calls, and when each is refused.
use Rattle.std.specs.Prelude.{◌≡◌, ℕ, ◌^◌, ◌<◌, ◌≤◌, true, false, ◌⊎◌, length, Some, None}
use Rattle.message.specs.declared.Message.{Message}
use Rattle.message.specs.Members.{member, size}
use Rattle.protocol.specs.declared.Form.{Form}
use Rattle.protocol.specs.Grading.{Grading}
use Rattle.protocol.specs.Agreement.{Meaning}
use Rattle.committee.specs.declared.stages.Stage.{Stage}
use Rattle.committee.specs.Plan.{senders_of, sits}
use Rattle.runs.specs.State.{State, room, here, party, signed_on}
use Rattle.runs.specs.Round.{work, topics_for, seat_of, form_in, kind_in}
use Rattle.runs.specs.Wire.{stands, to_seats}

-- a message by its day and its signers
abbrev pub message : ℕ → ℕ → Message
message day signers = record { day = day; signers = record { mask = signers } }

pub data Call : Type 0 where
  corrupts : (party : ℕ) → Call
  injects : (sender receiver topic day signers : ℕ) → Call
  closes : Call
  reads_decision : (party : ℕ) → Call
  reads_signatures : Call
  reads_closings : Call

module _ {B G : Type 0} (a : Meaning B) (g : Grading G) (s : State B G) where
  -- the execution is over: no stage is open
  abbrev pub Over : Type 0
  Over = here a g s ≡ None

  -- the party is corrupt
  abbrev pub Corrupt : ℕ → Type 0
  Corrupt p = member p s.corrupt ≡ true

  -- Party p's signature on a sentence of this kind and day exists: it is corrupt, or has signed that in this part.
  abbrev pub Exists : ℕ → ℕ → ℕ → Type 0
  Exists about day p = Corrupt p ⊎ (signed_on (party a g s p) about ≡ Some day)

  -- the message, with seats for signers, has a form in the stage
  abbrev pub Formed : Stage → ℕ → ℕ → ℕ → ℕ → Type 0
  Formed st sender topic day signers =
      (topic < topics_for (work st))
      × ((m : Message) × (f : Form) × (to_seats st.committee.first (Some (message day signers)) ≡ Some m)
      × (form_in a g st topic (seat_of st sender) m.signers.mask ≡ Some f))

  -- When a number applies to a call. Refusals from the input:
  pub data Applies : Call → ℕ → Type 0 where
    -- 4: the wire is too short
    short_corrupts : {p : ℕ} → length s.wire < room s.parties → Applies (corrupts p) 4
    short_injects : {i j t day signers : ℕ} → length s.wire < room s.parties → Applies (injects i j t day signers) 4
    short_closes : length s.wire < room s.parties → Applies closes 4
    -- 5: there is no such party
    no_party_corrupts : {p : ℕ} → s.parties ≤ p → Applies (corrupts p) 5
    no_party_injects : {i j t day signers : ℕ} → (s.parties ≤ i) ⊎ (s.parties ≤ j) → Applies (injects i j t day signers) 5
    no_party_reads : {p : ℕ} → s.parties ≤ p → Applies (reads_decision p) 5
    -- 6: there are no signers, or one that is no party
    bad_signers : {i j t day signers : ℕ} → (signers ≡ 0) ⊎ (2 ^ s.parties ≤ signers) → Applies (injects i j t day signers) 6
    -- From the state. 20: it is over
    over_corrupts : {p : ℕ} → Over → Applies (corrupts p) 20
    over_injects : {i j t day signers : ℕ} → Over → Applies (injects i j t day signers) 20
    over_closes : Over → Applies closes 20
    -- 21: the party is corrupt
    corrupt_corrupts : {p : ℕ} → Corrupt p → Applies (corrupts p) 21
    corrupt_reads : {p : ℕ} → Corrupt p → Applies (reads_decision p) 21
    -- 22: as many are corrupt as may be
    limit_reached : {p : ℕ} → s.limit ≤ size s.parties s.corrupt → Applies (corrupts p) 22
    -- 23: the sender is honest
    sender_honest : {i j t day signers : ℕ} → member i s.corrupt ≡ false → Applies (injects i j t day signers) 23
    -- 24: the sender does not send in this round, or the receiver does not hear
    not_seated : {i j t day signers : ℕ} {st : Stage} → here a g s ≡ Some st
        → (sits (senders_of st) i ≡ false) ⊎ (sits st.committee j ≡ false) → Applies (injects i j t day signers) 24
    -- 25: no form
    no_form : {i j t day signers : ℕ} {st : Stage} → here a g s ≡ Some st → (Formed st i t day signers → ⊥) → Applies (injects i j t day signers) 25
    -- 26: a signature that does not exist
    no_signature : {i j t day signers p : ℕ} {st : Stage} → here a g s ≡ Some st → p < s.parties → member p signers ≡ true
        → (Exists (kind_in a g st t) day p → ⊥) → Applies (injects i j t day signers) 26
    -- 27: the slot is filled
    filled : {i j t day signers : ℕ} {st : Stage} {m : Message} → here a g s ≡ Some st
        → stands st s.wire t (seat_of st i) (seat_of st j) ≡ Some m → Applies (injects i j t day signers) 27
    -- 28: it is not over
    not_over : {p : ℕ} {st : Stage} → here a g s ≡ Some st → Applies (reads_decision p) 28
