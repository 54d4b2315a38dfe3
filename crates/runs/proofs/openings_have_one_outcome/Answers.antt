use Rattle.runs.proofs.Openings.{opens_so, one_opening}
use Rattle.runs.proofs.openings_have_one_outcome.Goals as goal

pub returns : goal.returns
returns _ _ a g n b inputs wire = (opens_so a g n b inputs wire, λ y w on. one_opening a g n b inputs wire on (opens_so a g n b inputs wire))
