-- Figure 2 of Momose and Ren, said of what arrives: a seat's messages and what it leaves with are fixed by its input and its inboxes.
use Rattle.std.specs.Prelude.{◌≡◌, ℕ, ◌^◌, ◌≤◌, true, ◌↔◌, List, Some, None, Option}
use Rattle.message.specs.declared.Message.{Message}
use Rattle.message.specs.Members.{Holds, quorum}
use Rattle.message.specs.Tally.{before, names, entry, tally}
use Rattle.protocol.specs.Protocol.{Inbox}
use Rattle.protocol.specs.Inboxes.{under, days}
use Rattle.graded.specs.declared.seats.Seat.{Seat}
use Rattle.graded.specs.Roles.{role_at}
use Rattle.graded.specs.Steps.{start, send, hear, outcome}

-- the message has the signature of this seat alone
abbrev pub SignedAlone : ℕ → Message → Type 0
SignedAlone own m = m.signers.mask ≡ 2 ^ own

-- a quorum of k named the day of the message, and exactly those who named it have signed it
pub record Certified (k : ℕ) (named : List (Option ℕ)) (m : Message) : Type 0 where
  pub by_quorum : quorum k ≤ tally named m.day
  pub by_all : Holds m.signers.mask (λ i. names m.day (entry named i))

-- Seat `own` of k has this input, and these are its inboxes in rounds 1 to 4.
module _ (k own input : ℕ) (first second third fourth : Inbox) where
  -- what it keeps after each round
  abbrev pub after_1 : Seat
  after_1 = hear (start k own input) 1 first

  abbrev pub after_2 : Seat
  after_2 = hear after_1 2 second

  abbrev pub after_3 : Seat
  after_3 = hear after_2 3 third

  abbrev pub after_4 : Seat
  after_4 = hear after_3 4 fourth

  -- the days that arrive: in echoes, in certificates of echoes, in votes, in certificates of votes and in second votes
  abbrev pub echoes : List (Option ℕ)
  echoes = days (under k 0 first)

  abbrev pub echo_certificates : List (Option ℕ)
  echo_certificates = days (under k 0 second)

  abbrev pub votes : List (Option ℕ)
  votes = days (under k 0 third)

  abbrev pub vote_certificates : List (Option ℕ)
  vote_certificates = days (under k 0 fourth)

  abbrev pub second_votes : List (Option ℕ)
  second_votes = days (under k 1 fourth)

  pub record Figure2 : Type 0 where
    -- In round 1 it echoes its input.
    pub round_1 : (m : Message) → (send (start k own input) 1 0 ≡ Some m) ↔ ((m.day ≡ input) × SignedAlone own m)
    -- In round 2 it shows a certificate exactly of what a quorum of echoes named.
    pub round_2 : (m : Message) → (send after_1 2 0 ≡ Some m) ↔ Certified k echoes m
    -- In round 3 it votes exactly for the day whose certificate it showed, if no certificate of another day arrived.
    pub round_3 : (m : Message)
        → (send after_2 3 0 ≡ Some m)
        ↔ ((quorum k ≤ tally echoes m.day) × ((j u : ℕ) → entry echo_certificates j ≡ Some u → u ≡ m.day) × SignedAlone own m)
    -- In round 4 it shows a certificate exactly of what a quorum voted for, and votes for that a second time.
    pub round_4 : (m : Message) → (send after_3 4 0 ≡ Some m) ↔ Certified k votes m
    pub again : (m : Message) → (send after_3 4 1 ≡ Some m) ↔ ((quorum k ≤ tally votes m.day) × SignedAlone own m)
    -- It says nothing else.
    pub silence : (s : Seat) (r t : ℕ) → role_at r t ≡ None → send s r t ≡ None
    -- It leaves with the lowest day of which a certificate of votes arrived,
    pub takes : (v : ℕ) → 1 ≤ tally vote_certificates v → ((u : ℕ) → before u v ≡ true → tally vote_certificates u ≡ 0) → (outcome after_4).0 ≡ v
    -- or else with its input;
    pub keeps : ((u : ℕ) → tally vote_certificates u ≡ 0) → (outcome after_4).0 ≡ input
    -- at grade 1 exactly if a quorum voted a second time for one day.
    pub grade : ((outcome after_4).1 ≡ true) ↔ ((v : ℕ) × (quorum k ≤ tally second_votes v))

-- so it is for every seat, input and inboxes
abbrev pub FollowsFigure2 : Type 0
FollowsFigure2 = (k own input : ℕ) (first second third fourth : Inbox) → Figure2 k own input first second third fourth
