use Rattle.halving.proofs.Spending.{stays_within_bound}
use Rattle.halving.proofs.halving_stays_within_bound.Goals as goal

pub returns : goal.returns
returns g c = stays_within_bound
