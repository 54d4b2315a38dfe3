use Rattle.std.proofs.Common.{rules, arith, ◌≢◌}
use Rattle.base.specs.Laws.Placing.{two_together}
use Rattle.base.proofs.relays.signers_due.Goals as goal

pub returns-in-2 : goal.returns-in-2
returns-in-2 c =
    let off : c.args.spot.topic ≢ c.args.sender.own = omega arith in
    let two = two_together c.args.spot.topic c.args.sender.own c.only-in-2.result c.with.result off c.only-in-2.ensures.is c.with.ensures in
    search (rules, two)
