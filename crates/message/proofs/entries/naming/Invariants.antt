-- So far the set has the places of those that were read and name the day.
use Rattle.std.proofs.Common.{◌&&◌, ltb, map}
use Rattle.message.specs.Members.{Holds}
use Rattle.message.specs.Tally.{names, entry}
use Rattle.message.proofs.entries.naming.Given as goal

abbrev pub invariant-loop-i : goal.invariant-loop-i
invariant-loop-i g l = Holds l.set.mask (λ j. ltb j l.i && names l.day (entry (map g.T.NamesDay.named l.entries) j))
