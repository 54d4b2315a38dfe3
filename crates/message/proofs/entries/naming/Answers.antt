-- Each entry that names the day puts its place into the set.
use Rattle.std.proofs.Common.{◌≡◌, ℕ, Bool, map, length, ap, ◌∙◌, arith}
use Rattle.message.specs.Members.{gathered}
use Rattle.message.specs.Tally.{names, entry}
use Rattle.message.proofs.Masks.{gathered_is}
use Rattle.message.proofs.entries.naming.Goals as goal

pub returns : goal.returns
returns g c =
    let f : ℕ → Bool = λ i. names c.args.day (entry (map g.T.NamesDay.named c.args.entries.now) i) in
    let all : c.loop-i.i ≡ length c.args.entries.now = omega arith in
    gathered_is f c.loop-i.i c.loop-i.set.mask c.loop-i.invariant ∙ ap (gathered f) all
