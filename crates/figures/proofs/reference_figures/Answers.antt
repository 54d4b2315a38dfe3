use Rattle.figures.proofs.Drawn.{drawn}
use Rattle.figures.proofs.reference_figures.Goals as goal

pub returns : goal.returns
returns _ = drawn
