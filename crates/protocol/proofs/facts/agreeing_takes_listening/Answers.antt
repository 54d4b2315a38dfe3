use Rattle.protocol.proofs.Listening.{takes_listening}
use Rattle.protocol.proofs.facts.agreeing_takes_listening.Goals as goal

pub returns : goal.returns
returns g c = takes_listening
