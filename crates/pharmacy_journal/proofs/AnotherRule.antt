-- Another rule of retries: what it makes of a journal that is up.
use Rattle.std.proofs.Common.{◌≡◌, ℕ, ◌<◌, suc, Bool, true, not, ◌&&◌, cond, ◌==◌, List, [], ◌∷◌, map, length, refl, sym, ap, ◌∙◌, arith, eqb-true}
use Rattle.std.specs.Prelude.{nat_le}
use Rattle.std.specs.List.{list_all}
use Rattle.std.proofs.lemmas.Bool.{false_from_ne_true, and_parts}
use Rattle.claim_model.specs.Journal.{PharmacySettings, RetryRule, Journal, JournalAtRest, stopped, started, is_empty, is_switch, have_switches, is_rounds, most_nodes, is_rule, with_rule, ruled_anew}
use Rattle.claim_model.specs.Node.{Power, Up, Outcome, Done, Refused}
use Rattle.claim_model.specs.declared.refusal.Refusal.TheVariants.{BadRule}
use Rattle.pharmacy_journal.specs.Settings.{IsGoing, rule_of}
use Rattle.pharmacy_journal.specs.Timetable.{Rounds}
use Rattle.pharmacy_journal.specs.Entries.{IsAtRest}
use Rattle.pharmacy_journal.specs.Resting.{restarted_phase}
use Rattle.pharmacy_journal.specs.Ruling.{after_rule}
use Rattle.pharmacy_journal.specs.declared.slot.Slot.{Slot}
use Rattle.pharmacy_journal.proofs.Standing.{seen}
use Rattle.pharmacy_journal.proofs.StopStart.{stopped-seen, started-seen}

pub empty_by_length : {A : Type 0} (xs : List A) → (length xs == 0) ≡ is_empty xs
empty_by_length [] = refl
empty_by_length (x ∷ xs) = false_from_ne_true (suc (length xs) == 0) (λ t. let e : suc (length xs) ≡ 0 = eqb-true (suc (length xs)) 0 t in omega arith)

some_by : {A : Type 0} (xs : List A) → not (is_empty xs) ≡ true → 0 < length xs
some_by [] e = absurd (Rattle.std.proofs.lemmas.Bool.false≢true e)
some_by (x ∷ xs) e = omega arith

-- a rule that is taken names a switch
pub names_one : (switches : ℕ) (r : RetryRule) → is_rule switches r ≡ true → 0 < length r.nodes
names_one switches r e =
    let a = and_parts (is_rounds r.again) (is_rounds r.tries && (have_switches switches r.nodes && nat_le (length r.nodes) most_nodes)) e in
    let b = and_parts (is_rounds r.tries) (have_switches switches r.nodes && nat_le (length r.nodes) most_nodes) a.1 in
    let c = and_parts (have_switches switches r.nodes) (nat_le (length r.nodes) most_nodes) b.1 in
    some_by r.nodes (and_parts (not (is_empty r.nodes)) (list_all (is_switch switches) r.nodes) c.0).0

-- a journal at rest may go by it
pub IsAtRest-ruled : (number : ℕ) (s : PharmacySettings) (old rule : RetryRule) (slots : List Slot) → IsAtRest number s old slots → 0 < length rule.nodes → IsGoing rule → IsAtRest number s rule slots
IsAtRest-ruled number s old rule slots rest some going =
    record { some_number = rest.some_number; some_node = rest.some_node; settings = rest.settings; some_switch = some; going = going; entries = rest.entries; in_limit = rest.in_limit }

-- and one that is up starts with it
pub ruled-seen : (switches number : ℕ) (s : PharmacySettings) (old rule : RetryRule) (t t' : Rounds) (slots : List Slot) → is_rule switches rule ≡ true
    → t' ≡ record { rule = rule_of rule; phases = map (restarted_phase (rule_of rule)) slots } → after_rule switches rule (seen number s old t slots) ≡ Done (Up (seen number s rule t' slots)) []
unfolding ruled_anew
ruled-seen switches number s old rule t t' slots taken e =
    ap (λ (b : Bool). let o : Outcome (Power Journal JournalAtRest) = cond b (Done (Up (ruled_anew rule (seen number s old t slots))) []) (Refused BadRule) in o) taken
    ∙ (ap (λ (j : JournalAtRest). let o : Outcome (Power Journal JournalAtRest) = Done (Up (started (with_rule rule j))) [] in o) (sym (stopped-seen number s old t slots))
    ∙ ap (λ (j : Journal). let o : Outcome (Power Journal JournalAtRest) = Done (Up j) [] in o) (sym (started-seen number s rule t' slots e)))
