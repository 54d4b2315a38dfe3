use Rattle.runs.proofs.Outcomes.{computed_outcome}
use Rattle.runs.proofs.Unique.{one_outcome}
use Rattle.runs.proofs.calls_have_one_outcome.Goals as goal

pub returns : goal.returns
returns _ _ a g sized s c = (computed_outcome a g sized s c, λ x new on. one_outcome a g s c on (computed_outcome a g sized s c))
