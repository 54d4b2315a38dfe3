-- The law of agreement bounds the rounds from below.
use Rattle.std.proofs.Common.{arith}
use Rattle.protocol.proofs.Listening.{takes_a_round}
use Rattle.protocol.proofs.agreement.rounds_among.Goals as goal

pub returns-clause-some : goal.returns-clause-some
returns-clause-some g c two =
    omega (arith, takes_a_round g.A.BaseAgreement.meaning g.met.A.BaseAgreement.agreement c.args.seats two c.requires.1, c.rounds.ensures)
