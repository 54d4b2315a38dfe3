use Rattle.halving.proofs.Surely.{end_sure}
use Rattle.halving.proofs.honest_executions_end_sure.Goals as goal

pub returns : goal.returns
returns g c = end_sure
