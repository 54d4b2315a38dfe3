-- The earliest of the days that are named and reach the mark.
use Rattle.std.proofs.Common.{◌<◌, map, sym, ap, ◌∙◌, subst, rules, arith, Some, None}
use Rattle.std.proofs.lemmas.Iterator.{YieldsList-from_slice}
use Rattle.std.proofs.lemmas.Iterator.Consumers.{YieldsList-at, YieldsList-from_filter, YieldsList-from_filter_map, fold_from_yields_List}
use Rattle.message.specs.Tally.{earlier, reaches, reaching, LowestReaching}
use Rattle.message.proofs.Tallying.{earliest_is_least, lowest_is_least, reaching_means, reaching_nought}
use Rattle.message.proofs.entries.reaching.Goals as goal

pub returns-then-mark-eq0-clause-is : goal.returns-then-mark-eq0-clause-is
returns-then-mark-eq0-clause-is g c =
    let days = map g.T.NamesDay.named c.args.entries.now in
    sym (ap (λ mark. reaching mark days) c.if-mark-eq0.true ∙ reaching_nought days)

pub returns : goal.returns
unfolding reaching
returns g c =
    let some : 0 < c.args.mark = omega (arith, c.if-mark-eq0.false) in
    let f = g.T.NamesDay.named in
    let mark = c.args.mark in
    let xs = c.args.entries.now in
    let is =
    fold_from_yields_List _ (λ best u. earlier (Some u) best) None c.fold.result c.fold.ensures.ran
    (YieldsList-from_filter _ (reaches mark (map f xs))
    (YieldsList-at c.filter.ensures.source
    (YieldsList-from_filter_map _ f (YieldsList-at c.filter_map.ensures.source (YieldsList-from_slice xs cc))
    c.filter_map.ensures.closure (λ x r q k. search rules)))
    c.filter.ensures.closure (λ x b q k. search rules))
    (λ a x b q k. search rules)
    ∙ earliest_is_least _
    ∙ lowest_is_least f (reaches mark (map f xs)) xs in
    record { is = is; means = subst (LowestReaching mark (map f xs)) (sym is) (reaching_means mark (map f xs)) }
