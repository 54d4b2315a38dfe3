-- Each way of finding a stage, by the stretch of the plan that the round lies in.
use Rattle.std.proofs.Common.{◌-◌, ap, ◌∙◌, sym, arith}
use Rattle.std.specs.List.{slice_get}
use Rattle.committee.specs.Numbers.{plan_of}
use Rattle.committee.proofs.Descent.{found_base, in_graded, in_report, in_half}
use Rattle.committee.proofs.Totals.{total_small}
use Rattle.committee.proofs.plan.Plan.+find.Goals as goal

pub overflow_add-result : goal.overflow_add-result
overflow_add-result t c =
    let z = c.args.self.now.sizes in
    let size = c.args.self.now.committee.size in
    omega (arith, c.requires, total_small z size c.if-committee-self.true, z.short (size - 1))

pub returns-then-committee-self : goal.returns-then-committee-self
returns-then-committee-self t c = found_base c.args.self.now.sizes c.args.self.now.committee c.args.closed c.if-committee-self.true c.requires

pub returns-then-closed-self : goal.returns-then-closed-self
returns-then-closed-self t c =
    let turn = c.turn-graded.result in
    c.turn-graded.ensures.is ∙ in_graded c.args.self.now.sizes c.args.self.now.committee turn.half.committee turn.graded turn.report turn.closed c.if-closed-self.true

pub returns-then-own-rounds : goal.returns-then-own-rounds
returns-then-own-rounds t c =
    let turn = c.turn-graded.result in
    c.turn-graded.ensures.is
    ∙ in_half c.args.self.now.sizes c.args.self.now.committee turn.half.committee turn.graded turn.report turn.closed
    c.if-closed-self.false (λ e. omega (arith, e, c.turn-graded.ensures.own, c.if-own-rounds.true))
    ∙ ap (λ z. slice_get (plan_of z turn.half.committee) (turn.closed - c.args.self.now.sizes.graded)) (sym c.turn-graded.ensures.same)
    ∙ c.find.ensures

pub returns : goal.returns
returns t c =
    let turn = c.turn-graded.result in
    c.turn-graded.ensures.is
    ∙ in_report c.args.self.now.sizes c.args.self.now.committee turn.half.committee turn.graded turn.report turn.closed
    (omega (arith, c.turn-graded.ensures.own, c.turn-graded.ensures.within, c.if-own-rounds.false, c.if-closed-self.false))
