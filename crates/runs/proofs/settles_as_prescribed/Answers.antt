use Rattle.runs.proofs.Living.{settles_as_prescribed}
use Rattle.runs.proofs.settles_as_prescribed.Goals as goal

pub returns : goal.returns
returns _ _ a g sized n b inputs wire long events s h p below honest = settles_as_prescribed a g sized n b inputs wire long p below h honest
