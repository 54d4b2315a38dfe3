use Rattle.committee.proofs.sizes.Sizes.+bound.Given as goal

abbrev pub decreases-bound : goal.decreases-bound
decreases-bound l = l.size
