-- The search stops at an entry that names another day, if there is one.
use Rattle.std.proofs.Common.{rules}
use Rattle.std.proofs.lemmas.Iterator.{YieldsList-from_slice}
use Rattle.std.proofs.lemmas.Iterator.Search.{any_from_yields_List}
use Rattle.message.specs.Tally.{differs}
use Rattle.message.proofs.Tallying.{dispute_told}
use Rattle.message.proofs.entries.disputed.Goals as goal

pub returns : goal.returns
returns g c =
    let found =
    any_from_yields_List (λ x. differs c.args.day (g.T.NamesDay.named x)) _ _ _ c.any.ensures.ran (YieldsList-from_slice c.args.entries.now cc)
    (λ x b q k. search rules) in
    rw found (dispute_told g.T.NamesDay.named c.args.day c.args.entries.now)
