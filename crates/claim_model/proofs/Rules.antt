-- By which rule of retries a pharmacy goes after a call: by that of before, or by one that it took.
use Rattle.std.proofs.Common.{◌≡◌, true, List, [], map, Result, Ok, Err, refl, sym, subst, inl, inr}
use Rattle.claim_model.specs.Words.{Envelope, EnvelopeFault}
use Rattle.claim_model.specs.Context.{Context}
use Rattle.claim_model.specs.Journal.{Journal, JournalAtRest, submitted, ticked, due, heard, stopped, started, is_rule, ruled_anew}
use Rattle.claim_model.specs.Node.{Power, Up, AtRest, Sent, Call, Submit, Tick, Take, Stop, Start, Revise, OfPlan, OfRule, OfCap, Adjudicate, Done, to_switch, pharmacy_takes, pharmacy_step}
use Rattle.claim_model.specs.Held.{journal_in}
use Rattle.claim_model.proofs.Journals.{submitted_is, heard_is, ticked_same, started_same, ruled_same}
use Rattle.claim_model.proofs.PharmacyStep.{done_same, rule_taken, after_submit_done, after_hearing_done}
use Rattle.claim_model.proofs.Phases.{HasRule}

-- the settings and the rule are those of before, or the rule is one that a pharmacy takes
pub data RuleMoves (ctx : Context) (j after : JournalAtRest) : Type 0 where
  Stays : after.settings ≡ j.settings → after.rule ≡ j.rule → RuleMoves ctx j after
  Comes : is_rule ctx.switches after.rule ≡ true → RuleMoves ctx j after

same_rule : (ctx : Context) (j after : JournalAtRest) → after ≡ j → RuleMoves ctx j after
same_rule ctx j after e = subst (RuleMoves ctx j) (sym e) (Stays refl refl)

takes_rule : (ctx : Context) (j : Journal) (r : Result Envelope EnvelopeFault) (next : Power Journal JournalAtRest) (sent : List Sent) → pharmacy_takes ctx j r ≡ Done next sent → RuleMoves ctx (stopped j) (journal_in next)
unfolding stopped
takes_rule ctx j (Err f) next sent e = absurd cc
takes_rule ctx j (Ok env) next sent e =
    let d = after_hearing_done (heard ctx j env) next sent e in
    let h = heard_is ctx j env d.0 d.1 in
    subst (λ y. RuleMoves ctx (stopped j) (journal_in y)) (sym d.2)
    (subst (λ (after : Journal). RuleMoves ctx (stopped j) (stopped after)) (sym h.1) (Stays refl refl))

pub rule_moves : (ctx : Context) (s next : Power Journal JournalAtRest) (call : Call) (sent : List Sent) → pharmacy_step ctx s call ≡ Done next sent → RuleMoves ctx (journal_in s) (journal_in next)
unfolding stopped
rule_moves ctx (Up j) next (Submit text) sent e =
    let d = after_submit_done (submitted ctx j text) next sent e in
    subst (λ y. RuleMoves ctx (stopped j) (journal_in y)) (sym d.2)
    (subst (λ (after : Journal). RuleMoves ctx (stopped j) (stopped after)) (sym (submitted_is ctx j text d.0 d.1)) (Stays refl refl))
rule_moves ctx (Up j) next Tick sent e =
    let d = done_same (Up (ticked j)) next (map to_switch (due ctx (ticked j))) sent e in
    subst (λ y. RuleMoves ctx (stopped j) (journal_in y)) d.0 (same_rule ctx (stopped j) (stopped (ticked j)) (ticked_same j))
rule_moves ctx (Up j) next (Take from bytes) sent e = takes_rule ctx j (ctx.read_envelope bytes) next sent e
rule_moves ctx (Up j) next Stop sent e = subst (λ y. RuleMoves ctx (stopped j) (journal_in y)) (done_same (AtRest (stopped j)) next [] sent e).0 (Stays refl refl)
rule_moves ctx (Up j) next (Revise (OfRule rule)) sent e =
    let d = rule_taken (is_rule ctx.switches rule) (Up (ruled_anew rule j)) next [] sent e in
    subst (λ y. RuleMoves ctx (stopped j) (journal_in y)) d.1 (subst (RuleMoves ctx (stopped j)) (sym (ruled_same rule j)) (Comes d.0))
rule_moves ctx (Up j) next (Revise (OfCap most)) sent e = absurd cc
rule_moves ctx (AtRest j) next Start sent e = subst (λ y. RuleMoves ctx j (journal_in y)) (done_same (Up (started j)) next [] sent e).0 (same_rule ctx j (stopped (started j)) (started_same j))
rule_moves ctx (Up j) next Start sent e = absurd cc
rule_moves ctx (Up j) next (Revise (OfPlan change)) sent e = absurd cc
rule_moves ctx (Up j) next (Adjudicate from bytes advice) sent e = absurd cc
rule_moves ctx (AtRest j) next (Submit text) sent e = absurd cc
rule_moves ctx (AtRest j) next Tick sent e = absurd cc
rule_moves ctx (AtRest j) next (Take from bytes) sent e = absurd cc
rule_moves ctx (AtRest j) next Stop sent e = absurd cc
rule_moves ctx (AtRest j) next (Revise (OfPlan change)) sent e = absurd cc
rule_moves ctx (AtRest j) next (Revise (OfRule rule)) sent e = absurd cc
rule_moves ctx (AtRest j) next (Revise (OfCap most)) sent e = absurd cc
rule_moves ctx (AtRest j) next (Adjudicate from bytes advice) sent e = absurd cc

has_moved : (ctx : Context) (j after : JournalAtRest) → RuleMoves ctx j after → HasRule ctx j → HasRule ctx after
has_moved ctx j after (Comes taken) h = inr taken
has_moved ctx j after (Stays settings rule) (inl as_opened) = inl (rw (settings, rule) as_opened)
has_moved ctx j after (Stays settings rule) (inr taken) = inr (rw rule taken)

-- a pharmacy's call leaves it with a rule of its settings, or with one that it took
pub keeps_rule : (ctx : Context) (s next : Power Journal JournalAtRest) (call : Call) (sent : List Sent) → pharmacy_step ctx s call ≡ Done next sent → HasRule ctx (journal_in s) → HasRule ctx (journal_in next)
keeps_rule ctx s next call sent e h = has_moved ctx (journal_in s) (journal_in next) (rule_moves ctx s next call sent e) h
