use Rattle.std.proofs.lemmas.Result.{on_ok_weaker}
use Rattle.input_text.proofs.Joining.{lists_join}
use Rattle.log_audit.proofs.alone.lines.put_lone.Goals as goal

pub returns-in-Made : goal.returns-in-Made
returns-in-Made c = λ routes. rw c.in-Made.is
    (on_ok_weaker c.put_made.result
    (λ last. lists_join c.args.out.now.items c.put_log.new.text.items c.put_made.new.out.items _ _ c.in_ok-put_log.ensures
    (lists_join c.put_log.new.text.items c.put_before.new.out.items c.put_made.new.out.items _ _ c.in_ok-put_before.ensures last))
    (c.put_made.ensures routes))
