use Rattle.std.proofs.Common.{arith}
use Rattle.std.proofs.lemmas.List.{drop_all}
use Rattle.world_report.proofs.Lines.{done_text}
use Rattle.world_report.proofs.heads.write_done.Goals as goal

pub returns-clause-written : goal.returns-clause-written
returns-clause-written c =
    done_text c.args.event c.args.packet _ _ _ _ _ _ _ _ (drop_all 45 c.args.text.now (omega arith)) c.byte_before-end.ensures.written c.digits_before-number.ensures.written
    c.byte_before-space.ensures.written c.byte_before-second.ensures.written c.byte_before-first.ensures.written c.byte_before-word.ensures.written c.digits_before.ensures.written
