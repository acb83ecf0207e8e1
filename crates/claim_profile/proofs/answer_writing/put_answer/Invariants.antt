use Rattle.std.proofs.Common.{◌≡◌, ◌++◌, take}
use Rattle.d0_header.specs.Response.{response_text, answer_to}
use Rattle.d0_segments.specs.Texts.{groups_text}
use Rattle.claim_profile.specs.Answer.{status_byte_of, ruling_groups}
use Rattle.claim_profile.proofs.answer_writing.put_answer.Given as goal

abbrev pub invariant-loop-ruling : goal.invariant-loop-ruling
invariant-loop-ruling l =
    l.text.items ≡ (l.fn.text.items ++ response_text (answer_to l.header (status_byte_of l.fn.status))) ++ groups_text (ruling_groups (take l.ruling-index l.rulings))
