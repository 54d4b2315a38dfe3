use Rattle.protocol.proofs.Listening.{takes_messages}
use Rattle.protocol.proofs.facts.agreeing_takes_messages.Goals as goal

pub returns : goal.returns
returns g c = takes_messages
