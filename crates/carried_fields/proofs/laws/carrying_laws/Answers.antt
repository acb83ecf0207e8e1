use Rattle.carried_fields.proofs.CarriedTexts.{plain_without, carrying_carried, carrying_short, carrying_reads, carrying_again, carrying_kept}
use Rattle.carried_fields.proofs.laws.carrying_laws.Goals as goal

pub returns-clause-carried : goal.returns-clause-carried
returns-clause-carried c = carrying_carried c.response_laws.ensures.again c.response_text_laws.ensures.answers c.answer_laws.ensures.short c.answer_laws.ensures.reads_back c.advice_laws.ensures

pub returns-clause-short : goal.returns-clause-short
returns-clause-short c = carrying_short c.response_laws.ensures.again c.response_text_laws.ensures.answers c.answer_laws.ensures.short c.answer_laws.ensures.reads_back c.advice_laws.ensures

pub returns-clause-reads_back : goal.returns-clause-reads_back
returns-clause-reads_back c = carrying_reads c.response_laws.ensures.again c.response_text_laws.ensures.answers c.answer_laws.ensures.short c.answer_laws.ensures.reads_back c.advice_laws.ensures

pub returns-clause-plain : goal.returns-clause-plain
returns-clause-plain c = plain_without

pub returns-clause-again : goal.returns-clause-again
returns-clause-again c = carrying_again c.response_laws.ensures.again c.response_text_laws.ensures.answers c.answer_laws.ensures.short c.answer_laws.ensures.reads_back c.advice_laws.ensures

pub returns-clause-kept : goal.returns-clause-kept
returns-clause-kept c = carrying_kept c.response_laws.ensures.again c.response_text_laws.ensures.answers c.answer_laws.ensures.short c.answer_laws.ensures.reads_back c.advice_laws.ensures
