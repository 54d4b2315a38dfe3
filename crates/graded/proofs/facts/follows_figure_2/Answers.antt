use Rattle.graded.proofs.Figures.{follows}
use Rattle.graded.proofs.facts.follows_figure_2.Goals as goal

pub returns : goal.returns
returns c = follows
