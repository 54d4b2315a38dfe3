-- Base agreements, by which small committees agree: what one means, and the laws that each must obey.
use Rattle.std.specs.Prelude.{◌≡◌, ℕ, ◌+◌, ◌*◌, ◌<◌, ◌≤◌, Option}
use Rattle.message.specs.declared.Message.{Message}
use Rattle.message.specs.Tally.{Day}
use Rattle.protocol.specs.declared.Form.{Form}
use Rattle.protocol.specs.Protocol.{Inbox, Protocol, WellFormed}
use Rattle.protocol.specs.Play.{Trace, Play, final, EndsHonest, FewerThanOneIn}
use Rattle.protocol.specs.Cost.{signatures}
use Rattle.protocol.specs.Discipline.{Disciplined}

-- what a base agreement does, over the record R that one seat keeps
pub record Meaning (R : Type 0) : Type 0 where
  -- the most seats that it is for
  pub most : ℕ
  -- how many rounds it takes, by the number of seats
  pub rounds : ℕ → ℕ
  -- a seat's record at first: by the number of seats, its own seat and its input
  pub start : ℕ → ℕ → ℕ → R
  -- what a seat says in a round under a topic, to all seats
  pub send : R → ℕ → ℕ → Option Message
  -- a seat's record after a round, by what arrived in it
  pub hear : R → ℕ → Inbox → R
  -- the form of a message: by the number of seats, round, topic, sender and signers
  pub form : ℕ → ℕ → ℕ → ℕ → ℕ → Option Form
  -- the day that a seat answers after the last round
  pub day : R → ℕ

-- topics 0 to 7 are a base agreement's
abbrev pub base_topics : ℕ
base_topics = 8

-- a base agreement as a protocol: what a sentence is about is its topic
abbrev pub protocol_of : {R : Type 0} → Meaning R → Protocol R
protocol_of a = record {
  rounds = a.rounds;
  topics = base_topics;
  start = a.start;
  send = a.send;
  hear = a.hear;
  form = a.form;
  kind = λ _ t. t;
}

-- the most signatures that k seats may send
abbrev pub WithinBound : ℕ → ℕ → Type 0
WithinBound k spent = spent + 11 ≤ 22 * (k * k)

module _ {R : Type 0} (a : Meaning R) where
  -- the sizes that it is for
  abbrev pub Seats : ℕ → Type 0
  Seats k = (1 ≤ k) × (k ≤ a.most)

  -- the day that seat i answers
  abbrev pub answer : ℕ → Trace → ℕ → ℕ
  answer k tr i = a.day (final (protocol_of a) k tr i)

  -- It is for one to four seats, takes at most 16 rounds, and its forms are signed by seats, certificates by a quorum.
  pub record Sized : Type 0 where
    pub some : 1 ≤ a.most
    pub few : a.most ≤ 4
    pub short : (k : ℕ) → Seats k → a.rounds k ≤ 16
    pub forms : (k : ℕ) → Seats k → WellFormed (protocol_of a) k

  -- Agreement. In every play honest seats answer days; and with fewer than half of the seats corrupt at the end,
  pub record Agrees : Type 0 where
    pub a_day : (k : ℕ) (tr : Trace) → Seats k → Play (protocol_of a) k tr
        → (i : ℕ) → i < k → EndsHonest (protocol_of a) k tr i → Day (answer k tr i)
    -- any two of them answer the same,
    pub one : (k : ℕ) (tr : Trace) → Seats k → Play (protocol_of a) k tr → FewerThanOneIn (protocol_of a) k tr 2
        → (i j : ℕ) → i < k → j < k → EndsHonest (protocol_of a) k tr i → EndsHonest (protocol_of a) k tr j
        → answer k tr i ≡ answer k tr j
    -- and their common input, if they have one.
    pub common : (k : ℕ) (tr : Trace) → Seats k → Play (protocol_of a) k tr → FewerThanOneIn (protocol_of a) k tr 2
        → (v : ℕ) → ((i : ℕ) → i < k → EndsHonest (protocol_of a) k tr i → tr.input i ≡ v)
        → (i : ℕ) → i < k → EndsHonest (protocol_of a) k tr i → answer k tr i ≡ v

  -- Cost. In every play honest seats send at most so many signatures, whoever is corrupt.
  abbrev pub StaysWithinBound : Type 0
  StaysWithinBound = (k : ℕ) (tr : Trace) → Seats k → Play (protocol_of a) k tr → WithinBound k (signatures (protocol_of a) k tr)

  -- Discipline. In every play honest seats say only what they may.
  abbrev pub KeepsDiscipline : Type 0
  KeepsDiscipline = (k : ℕ) → Seats k → Disciplined (protocol_of a) k
