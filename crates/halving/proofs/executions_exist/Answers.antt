use Rattle.halving.proofs.Existing.{executions}
use Rattle.halving.proofs.executions_exist.Goals as goal

pub returns : goal.returns
returns g c = executions
