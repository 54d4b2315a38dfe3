use Rattle.runs.proofs.Sending.{history_counts}
use Rattle.runs.proofs.counts_what_was_sent.Goals as goal

pub returns : goal.returns
returns _ _ a g sized n b inputs wire long events s h = history_counts a g sized n b inputs wire long h
