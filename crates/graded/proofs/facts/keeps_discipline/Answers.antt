use Rattle.graded.proofs.Discipline.{keeps_discipline}
use Rattle.graded.proofs.facts.keeps_discipline.Goals as goal

pub returns : goal.returns
returns c = keeps_discipline
