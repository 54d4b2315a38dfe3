use Rattle.graded.proofs.Hearing.{graded}
use Rattle.graded.proofs.facts.grades_below_half.Goals as goal

pub returns : goal.returns
returns c = graded
