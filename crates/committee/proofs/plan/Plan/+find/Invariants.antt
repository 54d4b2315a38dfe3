use Rattle.committee.proofs.plan.Plan.+find.Given as goal

abbrev pub decreases-find : goal.decreases-find
decreases-find l = l.self.now.committee.size
