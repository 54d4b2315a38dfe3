use Rattle.runs.proofs.Acting.{opens}
use Rattle.runs.proofs.openings_follow_the_rules.Goals as goal

pub returns : goal.returns
returns _ _ a g sized n b inputs wire long = opens a g sized n b inputs wire long
