use Rattle.halving.proofs.Freezing.{freeze}
use Rattle.halving.proofs.plays_freeze.Goals as goal

pub returns : goal.returns
returns g c = freeze
