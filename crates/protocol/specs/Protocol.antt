-- What a protocol among k seats is: rounds in which every seat says the same to all, and hears what the others say.
use Rattle.std.specs.Prelude.{◌≡◌, ℕ, ◌+◌, ◌*◌, ◌^◌, ◌<◌, ◌≤◌, List, Some, None, Option, slice_index_or}
use Rattle.message.specs.declared.Message.{Message}
use Rattle.message.specs.Members.{size, quorum}
use Rattle.protocol.specs.declared.Form.{Form}
use Rattle.protocol.specs.declared.Form.TheVariants.{Certificate}

-- what arrives at one seat of k in one round: what seat i says under topic t stands at place t * k + i
abbrev pub Inbox : Type 0
Inbox = List (Option Message)

-- what arrived under topic t from seat i
unfoldable pub arrived : ℕ → Inbox → ℕ → ℕ → Option Message
arrived k inbox t i = slice_index_or inbox (t * k + i) None

-- R is what one seat keeps from round to round. Rounds count from 1, seats and topics from 0. A set of signers is given by its mask.
pub record Protocol (R : Type 0) : Type 0 where
  -- how many rounds it takes, by the number of seats
  pub rounds : ℕ → ℕ
  -- how many topics are in use
  pub topics : ℕ
  -- what a seat keeps at first: by the number of seats, its own seat and its input
  pub start : ℕ → ℕ → ℕ → R
  -- what a seat says in a round under a topic: one message for all seats, or nothing
  pub send : R → ℕ → ℕ → Option Message
  -- what a seat keeps after a round, by what arrived in it
  pub hear : R → ℕ → Inbox → R
  -- whether a message may stand at all, and as what: by the number of seats, round, topic, sender and signers
  pub form : ℕ → ℕ → ℕ → ℕ → ℕ → Option Form
  -- what a message of a round under a topic is about; with the day, this is the sentence that is signed
  pub kind : ℕ → ℕ → ℕ

-- Whoever signs a message that has a form sits in the committee, and a certificate has a quorum of signers.
pub record WellFormed {R : Type 0} (p : Protocol R) (k : ℕ) : Type 0 where
  pub by_seats : (r t i signers : ℕ) (f : Form) → i < k → p.form k r t i signers ≡ Some f → signers < 2 ^ k
  pub by_quorum : (r t i signers : ℕ) → i < k → p.form k r t i signers ≡ Some Certificate → quorum k ≤ size k signers
