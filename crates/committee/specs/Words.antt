-- What is printed for the parts of a committee's work.
use Rattle.std.specs.Prelude.{ℕ, List, codes}
use Rattle.committee.specs.declared.stages.Part.{Part}
use Rattle.committee.specs.declared.stages.Part.TheVariants.{FirstGraded, FirstReport, SecondGraded, SecondReport, Base}

abbrev pub words_of : Part → List ℕ
words_of FirstGraded = codes "first graded agreement"
words_of FirstReport = codes "first report"
words_of SecondGraded = codes "second graded agreement"
words_of SecondReport = codes "second report"
words_of Base = codes "base agreement"
