use Rattle.protocol.proofs.Continuing.{go_on}
use Rattle.protocol.proofs.facts.beginnings_go_on.Goals as goal

pub returns : goal.returns
returns g c = go_on
