use Rattle.runs.proofs.Histories.{over_after}
use Rattle.runs.proofs.over_after_the_plan.Goals as goal

pub returns : goal.returns
returns _ _ a g n b inputs wire events s h = over_after a g n b inputs wire events s h
