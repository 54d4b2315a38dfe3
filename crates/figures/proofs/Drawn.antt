-- Each figure is what the rules compute to.
use Rattle.std.proofs.Common.{refl}
use Rattle.message.specs.Count.{count, sum}
use Rattle.message.specs.Members.{member, gathered}
use Rattle.message.specs.Tally.{tally, others, lowest, reaching}
use Rattle.protocol.specs.Protocol.{arrived}
use Rattle.graded.specs.Steps.{certificate}
use Rattle.committee.specs.Tree.{build}
use Rattle.committee.specs.Plan.{plan, duration}
use Rattle.runs.specs.State.{stage_at}
use Rattle.runs.specs.Round.{form_in, kind_in, says_in, ready, noted, spoken}
use Rattle.runs.specs.Hearing.{hears_in}
use Rattle.runs.specs.Wire.{inbox_of}
use Rattle.runs.specs.Rules.{sent_in}
use Rattle.runs.specs.Machine.{silenced, after_corrupting, after_injecting, after_hearing, after_opening, after_ending, going_on, after_closing, acted, after, answer}
use Rattle.runs.specs.Checking.{first_of, checks}
use Rattle.runs.specs.History.{seated, opened}
use Rattle.figures.specs.Figures.{made, ReferenceFigures}

pub drawn : ReferenceFigures
unfolding made opened seated after answer acted first_of checks silenced after_corrupting after_injecting after_hearing after_opening after_ending going_on after_closing inbox_of hears_in sent_in says_in form_in kind_in ready spoken noted stage_at plan duration build count sum member gathered certificate arrived tally others lowest reaching
drawn = record {
  quorums = refl;
  rounds_alone = refl;
  rounds_relayed = refl;
  two_alike = (refl, refl);
  two_apart = (refl, refl);
  three_alone = (refl, refl);
  four_relayed = (refl, refl);
  five_relayed = (refl, refl);
  two_days = (refl, refl);
  two_days_echoed = (refl, refl);
  certificate_stands = refl;
  echo_missing = refl;
  no_quorum = refl;
  one_alone = refl;
}
