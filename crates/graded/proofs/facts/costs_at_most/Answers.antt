use Rattle.graded.proofs.Spending.{costs_at_most}
use Rattle.graded.proofs.facts.costs_at_most.Goals as goal

pub returns : goal.returns
returns c = costs_at_most
