-- The fold is the definition, which means that.
use Rattle.std.proofs.Common.{rules, None, ◌≡◌, sym, subst}
use Rattle.std.proofs.lemmas.Iterator.{YieldsList-from_slice}
use Rattle.std.proofs.lemmas.Iterator.Consumers.{fold_from_yields_List}
use Rattle.base.specs.Relaying.{leader, most_named, MostNamed}
use Rattle.base.specs.Laws.Leading.{most_named_means}
use Rattle.base.proofs.most.most_named.Goals as goal

pub returns : goal.returns
returns c =
    let entries = c.args.entries.now in
    let is : c.fold.result ≡ most_named entries = fold_from_yields_List _ (leader entries) None c.fold.result c.fold.ensures.ran (YieldsList-from_slice entries (cc)) (λ a x b q k. search rules) in
    record { is = is; means = subst (MostNamed entries) (sym is) (most_named_means entries) }
