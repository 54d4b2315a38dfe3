-- What holds of the graded agreement in every play.
use Rattle.std.specs.Prelude.{ℕ, ◌*◌, ◌≤◌}
use Rattle.protocol.specs.Protocol.{WellFormed}
use Rattle.protocol.specs.Play.{Trace, Play}
use Rattle.protocol.specs.Cost.{signatures}
use Rattle.protocol.specs.Discipline.{Disciplined}
use Rattle.protocol.specs.Grading.{Graded, LeavesWithDays}
use Rattle.graded.specs.Steps.{four_rounds}

-- with fewer than half of the seats corrupt at the end, grade 1 fixes the day, and a common input comes out at grade 1
abbrev pub GradesBelowHalf : Type 0
GradesBelowHalf = Graded 2 four_rounds

-- forms are signed by seats, certificates by a quorum
abbrev pub FormsAreSigned : Type 0
FormsAreSigned = (k : ℕ) → WellFormed four_rounds.protocol k

-- honest seats say what has a form, under signatures that are theirs or that reached them, and one day of each kind; they leave with days
pub record KeepsDiscipline : Type 0 where
  pub says : (k : ℕ) → Disciplined four_rounds.protocol k
  pub leaves : LeavesWithDays four_rounds

-- however many are corrupt, honest seats send at most 5k² signatures
abbrev pub CostsAtMost : Type 0
CostsAtMost = (k : ℕ) (tr : Trace) → Play four_rounds.protocol k tr → signatures four_rounds.protocol k tr ≤ 5 * (k * k)
