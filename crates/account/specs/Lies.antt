-- What the liar tells whom.
use Rattle.std.specs.Prelude.{ℕ, cond, Some, None, Option, ◌==◌}
use Rattle.graded.specs.declared.seats.Seat.{Seat}
use Rattle.graded.specs.declared.table.Role.{Role}
use Rattle.graded.specs.declared.table.Role.TheVariants.{Echo, EchoCertificate, Vote, VoteCertificate, SecondVote}

-- the party that lies
abbrev pub liar : ℕ
liar = 4

-- to each peer it echoes and votes for the peer's own input; party 2 alone gets a second vote, and nobody a certificate
abbrev pub told : Role → Seat → Option ℕ
told Echo peer = Some peer.day
told EchoCertificate peer = None
told Vote peer = Some peer.day
told VoteCertificate peer = None
told SecondVote peer = cond (peer.own == 2) (Some 7) None
