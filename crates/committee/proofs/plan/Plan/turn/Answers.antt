-- The first turn comes first, and the second behind it; the numbers of both halves stay small.
use Rattle.std.proofs.Common.{◌+◌, ap, sym, subst, arith}
use Rattle.committee.specs.Numbers.{total_of, Fits}
use Rattle.committee.proofs.Descent.{halvable, first_fits, second_fits, in_first_turn, in_second_turn}
use Rattle.committee.proofs.Totals.{total_large}
use Rattle.committee.proofs.plan.Plan.turn.Goals as goal

pub first_half-first-requires : goal.first_half-first-requires
first_half-first-requires c = halvable c.args.self.now.committee c.args.self.now.fits (omega (arith, c.args.self.now.sizes.some))

pub invariant_of-result : goal.invariant_of-result
invariant_of-result c = record {
  fits = subst Fits (sym c.first_half-first.ensures) (first_fits c.args.self.now.committee c.args.self.now.fits (omega (arith, c.args.self.now.sizes.some)));
}

pub invariant_of-result-2 : goal.invariant_of-result-2
invariant_of-result-2 c = record {
  fits = subst Fits (sym c.second_half-second.ensures) (second_fits c.args.self.now.committee c.args.self.now.fits (omega (arith, c.args.self.now.sizes.some)));
}

pub returns-then-closed-length-clause-is : goal.returns-then-closed-length-clause-is
returns-then-closed-length-clause-is c =
    let z = c.args.self.now.sizes in
    in_first_turn z c.args.self.now.committee c.requires.larger c.first_half-first.result c.first_half-first.ensures
    (z.graded + c.total-rounds.result + 1) (omega (arith, c.total-rounds.ensures.is))
    c.args.closed c.if-closed-length.true

pub returns-clause-is : goal.returns-clause-is
returns-clause-is c =
    let z = c.args.self.now.sizes in
    in_second_turn z c.args.self.now.committee c.requires.larger c.first_half-first.result c.first_half-first.ensures
    (z.graded + c.total-rounds.result + 1) (omega (arith, c.total-rounds.ensures.is))
    c.second_half-second.result c.second_half-second.ensures c.args.closed c.if-closed-length.false

pub returns-clause-within : goal.returns-clause-within
returns-clause-within c =
    let z = c.args.self.now.sizes in
    omega (
      arith,
      c.requires.within,
      total_large z c.args.self.now.committee.size c.requires.larger,
      c.total-rounds.ensures.is,
      ap (λ k. total_of z k.size) c.first_half-first.ensures,
      c.total.ensures.is,
      ap (λ k. total_of z k.size) c.second_half-second.ensures,
    )
