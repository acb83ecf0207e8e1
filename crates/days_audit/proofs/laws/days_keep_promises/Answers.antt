-- States that agree, and all that vouched calls lead to from them.
use Rattle.claim_model.specs.Promises.{AnswersAreDecided, AnswersAreWhole, CountedPaymentsStand, OneAnswer, OneStandingPayment, RequestsAreSubmitted, ReversedByOwner, StandingAreCounted}
use Rattle.world_setup.specs.Seen.{settings_seen}
use Rattle.days_audit.specs.Promised.{reading_of}
use Rattle.days_audit.proofs.DaysPromised.{kept_by_days, kept_over_days, ends_agree}
use Rattle.days_audit.proofs.laws.days_keep_promises.Goals as goal

pub returns-clause-one_standing : goal.returns-clause-one_standing
returns-clause-one_standing c = kept_by_days c.kept_rows_follow_rules.ensures.only c.bytes_keep_laws.ensures OneStandingPayment c.agreeing_states_keep_promises.ensures.one_standing

pub returns-clause-counted : goal.returns-clause-counted
returns-clause-counted c = kept_by_days c.kept_rows_follow_rules.ensures.only c.bytes_keep_laws.ensures CountedPaymentsStand c.agreeing_states_keep_promises.ensures.counted

pub returns-clause-in_full : goal.returns-clause-in_full
returns-clause-in_full c = kept_by_days c.kept_rows_follow_rules.ensures.only c.bytes_keep_laws.ensures StandingAreCounted c.agreeing_states_keep_promises.ensures.in_full

pub returns-clause-reversed : goal.returns-clause-reversed
returns-clause-reversed c = kept_by_days c.kept_rows_follow_rules.ensures.only c.bytes_keep_laws.ensures ReversedByOwner c.agreeing_states_keep_promises.ensures.reversed

pub returns-clause-requests : goal.returns-clause-requests
returns-clause-requests c = kept_by_days c.kept_rows_follow_rules.ensures.only c.bytes_keep_laws.ensures RequestsAreSubmitted c.agreeing_states_keep_promises.ensures.requests

pub returns-clause-answers : goal.returns-clause-answers
returns-clause-answers c = kept_by_days c.kept_rows_follow_rules.ensures.only c.bytes_keep_laws.ensures AnswersAreDecided c.agreeing_states_keep_promises.ensures.answers

pub returns-clause-whole : goal.returns-clause-whole
returns-clause-whole c = kept_by_days c.kept_rows_follow_rules.ensures.only c.bytes_keep_laws.ensures AnswersAreWhole c.agreeing_states_keep_promises.ensures.whole

pub returns-clause-one_answer : goal.returns-clause-one_answer
returns-clause-one_answer c = kept_over_days c.kept_rows_follow_rules.ensures.only c.bytes_keep_laws.ensures OneAnswer c.agreeing_states_keep_promises.ensures.one_answer

pub returns-clause-agree : goal.returns-clause-agree
returns-clause-agree c = ends_agree c.kept_rows_follow_rules.ensures.only c.bytes_keep_laws.ensures (λ s. c.vouched_states_agree.ensures.on (reading_of s) (settings_seen s))
