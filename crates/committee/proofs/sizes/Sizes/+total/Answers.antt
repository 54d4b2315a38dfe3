-- A small committee takes its base agreement's rounds, a larger one what its halves take and ten rounds more.
use Rattle.std.proofs.Common.{◌-◌, sym, arith}
use Rattle.committee.proofs.Totals.{total_small, total_step}
use Rattle.committee.proofs.sizes.Sizes.+total.Goals as goal

pub returns-then-size-self : goal.returns-then-size-self
returns-then-size-self t c = record {
  is = sym (total_small c.args.self.now c.args.size c.if-size-self.true);
  few = omega (arith, c.args.self.now.short (c.args.size - 1), c.requires);
}

pub returns : goal.returns
returns t c = record {
  is = total_step c.args.self.now c.args.size c.total.result c.total-2.result c.if-size-self.false c.total.ensures.is c.total-2.ensures.is;
  few = omega (arith, c.args.self.now.quick, c.total.ensures.few, c.total-2.ensures.few);
}
