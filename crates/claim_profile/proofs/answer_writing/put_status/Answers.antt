use Rattle.claim_profile.proofs.AnswerTexts.{on_ok, status_written}
use Rattle.claim_profile.proofs.answer_writing.put_status.Goals as goal

pub returns : goal.returns
returns c =
    on_ok c.extend_from_slice-2.result _ _ _ _ c.extend_from_slice-2.ensures.items
    (rw (c.in_ok-extend_from_slice.ensures.items, c.digits.ensures) (status_written c.args.text.now.items c.args.status c.args.auth))
