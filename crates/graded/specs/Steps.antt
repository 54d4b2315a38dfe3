-- One seat's steps, as they are computed.
use Rattle.std.specs.Prelude.{ℕ, zero, suc, ◌^◌, Bool, false, cond, List, length, is_some, Some, None, Option, ◌==◌}
use Rattle.std.specs.Option.{unwrap_or}
use Rattle.message.specs.declared.Message.{Message}
use Rattle.message.specs.Members.{gathered, quorum}
use Rattle.message.specs.Tally.{slot_day, names, entry, others, reaching}
use Rattle.protocol.specs.Protocol.{Inbox}
use Rattle.protocol.specs.Inboxes.{under, days}
use Rattle.protocol.specs.Grading.{Grading}
use Rattle.graded.specs.declared.seats.Seat.{Seat}
use Rattle.graded.specs.declared.table.Role.{Role}
use Rattle.graded.specs.declared.table.Role.TheVariants.{Echo, EchoCertificate, Vote, VoteCertificate, SecondVote}
use Rattle.graded.specs.Roles.{rounds, topics, role_at, form, kind}

-- a message on a day, by those who sign for it; none where there is no day
abbrev pub signed_by : (ℕ → ℕ) → Option ℕ → Option Message
signed_by who None = None
signed_by who (Some v) = Some (record { day = v; signers = record { mask = who v } })

-- a seat's own word on a day
abbrev pub word : ℕ → Option ℕ → Option Message
word own o = signed_by (λ _. 2 ^ own) o

-- who names a day
abbrev pub who_named : List (Option ℕ) → ℕ → ℕ
who_named named v = gathered (λ i. names v (entry named i)) (length named)

-- the certificate that a quorum of k words on one day makes; all who said it sign it
unfoldable pub certificate : ℕ → List (Option ℕ) → Option Message
certificate k named = signed_by (who_named named) (reaching (quorum k) named)

-- a day, unless another is named
abbrev pub unless_disputed : List (Option ℕ) → Option ℕ → Option ℕ
unless_disputed named None = None
unless_disputed named (Some v) = cond (others named v == 0) (Some v) None

abbrev pub start : ℕ → ℕ → ℕ → Seat
start k own day = record { seats = k; own = own; day = day; grade = false; echoes = None; vote = None; votes = None }

-- what a seat says in each role
abbrev pub says : Seat → Role → Option Message
says s Echo = word s.own (Some s.day)
says s EchoCertificate = s.echoes
says s Vote = word s.own s.vote
says s VoteCertificate = s.votes
says s SecondVote = word s.own (slot_day s.votes)

abbrev pub says_at : Seat → Option Role → Option Message
says_at s None = None
says_at s (Some x) = says s x

abbrev pub send : Seat → ℕ → ℕ → Option Message
send s r t = says_at s (role_at r t)

-- what a seat keeps of the echoes, of the certificates of echoes and of the votes that arrive
abbrev pub hear_echoes : Seat → Inbox → Seat
hear_echoes s slots = record {
  seats = s.seats;
  own = s.own;
  day = s.day;
  grade = s.grade;
  echoes = certificate s.seats (days slots);
  vote = s.vote;
  votes = s.votes;
}

abbrev pub hear_echo_certificates : Seat → Inbox → Seat
hear_echo_certificates s slots = record {
  seats = s.seats;
  own = s.own;
  day = s.day;
  grade = s.grade;
  echoes = s.echoes;
  vote = unless_disputed (days slots) (slot_day s.echoes);
  votes = s.votes;
}

abbrev pub hear_votes : Seat → Inbox → Seat
hear_votes s slots = record {
  seats = s.seats;
  own = s.own;
  day = s.day;
  grade = s.grade;
  echoes = s.echoes;
  vote = s.vote;
  votes = certificate s.seats (days slots);
}

-- at last: the lowest day of which a certificate of votes arrived, or else its own; and whether a quorum voted a second time for one day
abbrev pub hear_last : Seat → Inbox → Inbox → Seat
hear_last s certificates seconds = record {
  seats = s.seats;
  own = s.own;
  day = unwrap_or (reaching 1 (days certificates)) s.day;
  grade = is_some (reaching (quorum s.seats) (days seconds));
  echoes = s.echoes;
  vote = s.vote;
  votes = s.votes;
}

abbrev pub hear : Seat → ℕ → Inbox → Seat
hear s zero x = s
hear s (suc zero) x = hear_echoes s (under s.seats 0 x)
hear s (suc (suc zero)) x = hear_echo_certificates s (under s.seats 0 x)
hear s (suc (suc (suc zero))) x = hear_votes s (under s.seats 0 x)
hear s (suc (suc (suc (suc zero)))) x = hear_last s (under s.seats 0 x) (under s.seats 1 x)
hear s (suc (suc (suc (suc (suc r))))) x = s

abbrev pub outcome : Seat → ℕ × Bool
outcome s = (s.day, s.grade)

-- the graded agreement, as a protocol with its outcome
abbrev pub four_rounds : Grading Seat
four_rounds = record {
  protocol = record { rounds = λ _. rounds; topics = topics; start = start; send = send; hear = hear; form = form; kind = kind };
  outcome = outcome;
}
