use Rattle.runs.proofs.Room.{history_keeps}
use Rattle.runs.proofs.histories_keep_to_their_room.Goals as goal

pub returns : goal.returns
returns _ _ a g sized n b inputs wire long events s h = history_keeps a g sized n b inputs wire long events s h
