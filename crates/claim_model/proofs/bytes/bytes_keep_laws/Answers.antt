-- Each law is one of the crates below.
use Rattle.std.proofs.Common.{refl}
use Rattle.claim_profile.specs.Ruling.{answer_of, advice_of}
use Rattle.claim_model.proofs.BytesLaws.{bytes_laws}
use Rattle.claim_model.proofs.AnswersBack.{answers_back, carried_back}
use Rattle.claim_model.proofs.Sayings.{speaks_well}
use Rattle.claim_model.proofs.Advices.{advised_so}
use Rattle.claim_model.proofs.bytes.bytes_keep_laws.Goals as goal

pub returns : goal.returns
returns c = λ routes.
    bytes_laws c.envelope_reads_back.ensures c.number_in_range.ensures c.amount_in_range.ensures routes
    (answers_back c.carrying_laws.ensures.short c.carrying_laws.ensures.reads_back c.readable_laws.ensures routes)
    (carried_back c.carrying_laws.ensures.again c.carrying_laws.ensures.kept c.readable_laws.ensures routes)
    (λ bytes a e. speaks_well c.amount_in_range.ensures _ bytes (answer_of bytes) a refl e)
    (λ bytes a e. speaks_well c.amount_in_range.ensures _ bytes (advice_of bytes) a refl e)
    (λ bytes a e. advised_so c.advice_laws.ensures bytes (answer_of bytes) a refl e)
    c.number_laws.ensures.led
