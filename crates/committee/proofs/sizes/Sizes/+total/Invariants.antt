use Rattle.committee.proofs.sizes.Sizes.+total.Given as goal

abbrev pub decreases-total : goal.decreases-total
decreases-total l = l.size
