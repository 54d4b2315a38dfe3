use Rattle.runs.proofs.Fairness.{history_fair}
use Rattle.runs.proofs.Living.{sends_as_lived}
use Rattle.runs.proofs.sends_as_prescribed.Goals as goal

pub returns : goal.returns
returns _ _ a g sized n b inputs wire long events s h st now =
    (history_fair a g sized n b inputs wire long h st now, sends_as_lived a g sized n b inputs wire long h st now)
