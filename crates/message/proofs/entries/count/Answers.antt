-- Each entry that names the day adds one; there are no more of them than entries, so the sum fits.
use Rattle.std.proofs.Common.{◌∙◌, cond, rules, arith}
use Rattle.std.proofs.lemmas.Iterator.{YieldsList-from_slice, YieldsList-from_map}
use Rattle.std.proofs.lemmas.Iterator.Consumers.{YieldsList-at, sum_by_from_yields_List, fits_by_from_yields_list}
use Rattle.std.proofs.lemmas.List.Sums.{count_by-le-length}
use Rattle.message.specs.Tally.{names}
use Rattle.message.proofs.Tallying.{tally_counts}
use Rattle.message.proofs.entries.count.Goals as goal

pub sum-requires-clause-fits : goal.sum-requires-clause-fits
sum-requires-clause-fits g c =
    let xs = c.args.entries.now in
    let few = count_by-le-length (λ x. names c.args.day (g.T.NamesDay.named x)) xs in
    fits_by_from_yields_list (λ x. cond (names c.args.day (g.T.NamesDay.named x)) 1 0) xs c.map.result _
    (YieldsList-from_map _ (λ x. cond (names c.args.day (g.T.NamesDay.named x)) 1 0) (YieldsList-at c.map.ensures.source (YieldsList-from_slice xs cc)) c.map.ensures.closure (λ x b q k. search rules))
    (omega (arith, few))

pub returns : goal.returns
returns g c =
    let xs = c.args.entries.now in
    let added =
    sum_by_from_yields_List (λ x. cond (names c.args.day (g.T.NamesDay.named x)) 1 0) xs c.map.result c.sum.result c.sum.ensures.ran
    (YieldsList-from_map _ (λ x. cond (names c.args.day (g.T.NamesDay.named x)) 1 0) (YieldsList-at c.map.ensures.source (YieldsList-from_slice xs cc)) c.map.ensures.closure (λ x b q k. search rules))
    ∙ tally_counts g.T.NamesDay.named c.args.day xs in
    omega (arith, added)
