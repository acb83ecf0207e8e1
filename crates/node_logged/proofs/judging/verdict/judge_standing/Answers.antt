use Rattle.node_logged.proofs.judging.verdict.judge_standing.Goals as goal

pub merge_fitting-requires : goal.merge_fitting-requires
merge_fitting-requires c = rw c.deref.ensures.value c.requires.standing.fit
