-- After the last round there is no stage.
use Rattle.std.proofs.Common.{sym, arith}
use Rattle.std.proofs.lemmas.Option.{slice_get_past}
use Rattle.committee.specs.Numbers.{plan_of}
use Rattle.committee.proofs.Descent.{plan_total}
use Rattle.committee.proofs.plan.Plan.stage.Goals as goal

pub returns-else-closed-total : goal.returns-else-closed-total
returns-else-closed-total c =
    let z = c.args.self.now.sizes in
    let k = c.args.self.now.committee in
    sym (slice_get_past (plan_of z k) c.args.closed (omega (arith, c.if-closed-total.false, plan_total z k, c.total.ensures.is)))
