-- A small committee may send what its base agreement may, a larger one what its halves may and 11s² more.
use Rattle.std.proofs.Common.{sym, mul-le-mul_left, arith}
use Rattle.committee.proofs.Trees.{bound_small}
use Rattle.committee.proofs.Totals.{bound_step, bound_few}
use Rattle.committee.proofs.sizes.Sizes.+bound.Goals as goal

pub overflow_sub-result : goal.overflow_sub-result
overflow_sub-result t c = omega (arith, mul-le-mul_left c.args.size c.requires.0)

pub returns-then-size-self : goal.returns-then-size-self
returns-then-size-self t c = record {
  is = sym (bound_small c.args.self.now.most c.args.self.now.some 0 c.args.size c.if-size-self.true);
  few = omega (arith, mul-le-mul_left c.args.size c.requires.0);
}

pub returns : goal.returns
returns t c = record {
  is = bound_step c.args.self.now c.args.size c.bound.result c.bound-2.result c.if-size-self.false c.bound.ensures.is c.bound-2.ensures.is;
  few = bound_few c.args.size c.bound.result c.bound-2.result c.bound.ensures.few c.bound-2.ensures.few;
}
