use Rattle.halving.proofs.Halves.{agree}
use Rattle.halving.proofs.halves_agree.Goals as goal

pub returns : goal.returns
returns g c = agree
