use Rattle.graded.proofs.Speech.{well_formed}
use Rattle.graded.proofs.facts.forms_are_signed.Goals as goal

pub returns : goal.returns
returns c = well_formed
