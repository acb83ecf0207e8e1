use Rattle.std.proofs.Common.{◌≡◌, List, [], map, ap, ◌∙◌, subst}
use Rattle.claim_model.specs.Journal.{RetryRule, Journal}
use Rattle.claim_model.specs.Node.{Up, Done}
use Rattle.pharmacy_journal.specs.Settings.{rule_of}
use Rattle.pharmacy_journal.specs.Timetable.{Rounds}
use Rattle.pharmacy_journal.specs.Resting.{restarted_phase}
use Rattle.pharmacy_journal.specs.declared.slot.Slot.{Slot}
use Rattle.pharmacy_journal.specs.Ruling.{after_rule}
use Rattle.pharmacy_journal.proofs.Standing.{seen}
use Rattle.pharmacy_journal.proofs.StopStart.{IsUp-started}
use Rattle.pharmacy_journal.proofs.AnotherRule.{names_one, IsAtRest-ruled, ruled-seen}
use Rattle.pharmacy_journal.proofs.pharmacy.Pharmacy.change_rule.Goals as goal

pub invariant_of-self : goal.invariant_of-self
invariant_of-self c =
    let p = c.self.inside in
    let rule = c.in_ok-rule.rule in
    let made = c.in_ok-timetable.ensures ∙ ap (λ (xs : List Slot). let t : Rounds = record { rule = rule_of rule; phases = map (restarted_phase (rule_of rule)) xs } in t) c.deref.ensures.value in
    let going = rw c.rule.view_is at c.rule.invariant in
    IsUp-started p.number p.settings rule c.in_ok-timetable.timetable p.slots.items
    (IsAtRest-ruled p.number p.settings p.rule rule p.slots.items c.self.invariant.kept (names_one c.args.switches rule c.in_ok-rule.ensures.ok.1) going) made

pub returns-clause-ok : goal.returns-clause-ok
returns-clause-ok c =
    let p = c.self.inside in
    let rule = c.in_ok-rule.rule in
    let made = c.in_ok-timetable.ensures ∙ ap (λ (xs : List Slot). let t : Rounds = record { rule = rule_of rule; phases = map (restarted_phase (rule_of rule)) xs } in t) c.deref.ensures.value in
    let after : Journal = seen p.number p.settings rule c.in_ok-timetable.timetable p.slots.items in
    let by_rule : after_rule c.args.switches rule c.args.self.now ≡ Done (Up after) [] =
    rw (← c.self.view_is) (ruled-seen c.args.switches p.number p.settings p.rule rule p.timetable c.in_ok-timetable.timetable p.slots.items c.in_ok-rule.ensures.ok.1 made) in
    subst (λ (r : RetryRule). after_rule c.args.switches r c.args.self.now ≡ Done (Up after) []) c.in_ok-rule.ensures.ok.0 by_rule
