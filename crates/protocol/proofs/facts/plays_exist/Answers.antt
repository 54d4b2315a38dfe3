use Rattle.protocol.proofs.Continuing.{exist}
use Rattle.protocol.proofs.facts.plays_exist.Goals as goal

pub returns : goal.returns
returns g c = exist
