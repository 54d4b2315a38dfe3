use Rattle.protocol.proofs.Listening.{takes_a_round}
use Rattle.protocol.proofs.facts.agreeing_takes_a_round.Goals as goal

pub returns : goal.returns
returns g c = takes_a_round
