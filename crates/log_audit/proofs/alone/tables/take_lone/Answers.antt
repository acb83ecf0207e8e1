use Rattle.log_audit.proofs.alone.tables.take_lone.Goals as goal

pub returns-in-Made : goal.returns-in-Made
returns-in-Made c = λ routes. rw c.in-Made.is (c.take_node.ensures routes)
