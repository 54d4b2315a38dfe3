-- One seat agrees with itself, at no cost, and says nothing that could break discipline.
use Rattle.std.proofs.Common.{ap, arith, rules}
use Rattle.std.specs.Prelude.{ℕ, zero, suc, ◌*◌, ◌≤◌}
use Rattle.message.specs.Count.{sum}
use Rattle.protocol.specs.Play.{state}
use Rattle.protocol.specs.Cost.{signatures}
use Rattle.protocol.specs.Agreement.{Sized, Agrees, StaysWithinBound, KeepsDiscipline}
use Rattle.base.specs.Alone.{lone}

pub sized : Sized lone
sized = search rules

pub keeps_discipline : KeepsDiscipline lone
keeps_discipline = search rules

pub agrees : Agrees lone
unfolding state
agrees = record {
  a_day = λ k tr _ play i hi good. play.days i hi good;
  one = λ k tr seats play few i j hi hj _ _. ap tr.input (omega arith);
  common = λ k tr _ play few v same i hi good. same i hi good;
}

-- a seat's share of the bound
some_share : (k : ℕ) → 1 ≤ k → 11 ≤ 22 * (k * k)
some_share zero h = absurd (omega arith)
some_share (suc k) h = omega arith

pub stays_within_bound : StaysWithinBound lone
unfolding signatures sum
stays_within_bound k tr seats play = some_share k seats.0
