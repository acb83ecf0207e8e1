-- Stopping and starting.
use Rattle.std.proofs.Common.{◌≡◌, ℕ, ◌+◌, ◌-◌, ◌<◌, ◌≤◌, true, false, List, [], ◌∷◌, ◌++◌, length, map, Option, Some, None, is_some, ltb, refl, sym, ap, ◌∙◌, arith, subst, length-append}
use Rattle.std.proofs.lemmas.Bool.{and_from, and_parts, ltb-true, lt-ltb, le-leb}
use Rattle.std.proofs.lemmas.List.{append-nil, append_assoc}
use Rattle.claim_model.specs.Words.{TxnId}
use Rattle.claim_model.specs.Journal.{PharmacySettings, RetryRule, Journal, JournalAtRest, Entry, Kept, kept_entry, stopped, started, started_state}
use Rattle.pharmacy_journal.specs.Retry.{Rule, phases_of}
use Rattle.pharmacy_journal.specs.Timetable.{Rounds}
use Rattle.pharmacy_journal.specs.Settings.{rule_of}
use Rattle.pharmacy_journal.specs.Entries.{entry_of, entries_of, kept_of, is_waiting, IsEntry, AreEntries, IsAtRest, IsUp}
use Rattle.pharmacy_journal.specs.Resting.{restarted_phase, added, added_all, is_row}
use Rattle.pharmacy_journal.specs.declared.slot.Slot.{Slot}
use Rattle.pharmacy_journal.specs.declared.slot.Slot.TheVariants.{Waiting, Settled}
use Rattle.pharmacy_journal.proofs.Entering.{AreEntries-push}
use Rattle.pharmacy_journal.proofs.Standing.{seen}

kept_one : (slot : Slot) (p : Option ℕ) → kept_of slot ≡ kept_entry (entry_of slot p)
kept_one (Waiting t) p = refl
kept_one (Settled t) p = refl

kept_all : (slots : List Slot) (phases : List (Option ℕ)) → map kept_of slots ≡ map kept_entry (entries_of slots phases)
kept_all [] phases = refl
kept_all (s ∷ slots) [] = ap (λ (k : Kept). k ∷ map kept_of slots) (kept_one s None) ∙ ap (λ (ks : List Kept). kept_entry (entry_of s None) ∷ ks) (kept_all slots [])
kept_all (s ∷ slots) (p ∷ phases) = ap (λ (k : Kept). k ∷ map kept_of slots) (kept_one s p) ∙ ap (λ (ks : List Kept). kept_entry (entry_of s p) ∷ ks) (kept_all slots phases)

abbrev pub seen_at_rest : ℕ → PharmacySettings → RetryRule → List Slot → JournalAtRest
seen_at_rest number s rule slots = record { number = number; settings = s; rule = rule; entries = map kept_of slots }

-- what a stop keeps
pub stopped-seen : (number : ℕ) (s : PharmacySettings) (rule : RetryRule) (t : Rounds) (slots : List Slot) → seen_at_rest number s rule slots ≡ stopped (seen number s rule t slots)
unfolding stopped
stopped-seen number s rule t slots = ap (λ (ks : List Kept). let j : JournalAtRest = record { number = number; settings = s; rule = rule; entries = ks } in j) (kept_all slots t.phases)

started_one : (r : Rule) (slot : Slot) → entry_of slot (restarted_phase r slot) ≡ record { request = (kept_of slot).request; state = started_state (phases_of r - r.again) (kept_of slot).answer }
started_one r (Waiting t) = refl
started_one r (Settled t) = refl

started_all : (r : Rule) (slots : List Slot) → entries_of slots (map (restarted_phase r) slots) ≡ map (λ (k : Kept). let e : Entry = record { request = k.request; state = started_state (phases_of r - r.again) k.answer } in e) (map kept_of slots)
started_all r [] = refl
started_all r (s ∷ slots) = rw (started_one r s, started_all r slots) refl

-- what a start makes
pub started-seen : (number : ℕ) (s : PharmacySettings) (rule : RetryRule) (t : Rounds) (slots : List Slot) → t ≡ record { rule = rule_of rule; phases = map (restarted_phase (rule_of rule)) slots } → seen number s rule t slots ≡ started (seen_at_rest number s rule slots)
unfolding started
started-seen number s rule t slots e = rw e (ap (λ (es : List Entry). let j : Journal = record { number = number; settings = s; rule = rule; entries = es } in j) (started_all (rule_of rule) slots))

waiting_one : (r : Rule) (slot : Slot) → is_waiting slot ≡ is_some (restarted_phase r slot)
waiting_one r (Waiting t) = refl
waiting_one r (Settled t) = refl

waiting_all : (r : Rule) (slots : List Slot) → map is_waiting slots ≡ map is_some (map (restarted_phase r) slots)
waiting_all r [] = refl
waiting_all r (s ∷ slots) = rw (waiting_one r s, waiting_all r slots) refl

pub IsUp-started : (number : ℕ) (s : PharmacySettings) (rule : RetryRule) (t : Rounds) (slots : List Slot) → IsAtRest number s rule slots → t ≡ record { rule = rule_of rule; phases = map (restarted_phase (rule_of rule)) slots } → IsUp number s rule t slots
IsUp-started number s rule t slots kept e = rw e (record { kept = kept; by_rule = refl; phases = waiting_all (rule_of rule) slots })

-- ---- entries added at rest

pub IsAtRest-push : (number : ℕ) (s : PharmacySettings) (rule : RetryRule) (slots slots' : List Slot) (slot : Slot) → IsAtRest number s rule slots → slots' ≡ slots ++ slot ∷ [] → IsEntry s (record { pharmacy = number; number = length slots + 1 }) slot → length slots < s.cap → IsAtRest number s rule slots'
IsAtRest-push number s rule slots slots' slot rest e one room =
    let comm : length slots + 1 ≡ 1 + length slots = omega arith in
    let longer : length (slots ++ slot ∷ []) ≡ length slots + 1 = length-append slots (slot ∷ []) in
    rw e (record {
      some_number = rest.some_number;
      some_node = rest.some_node;
      settings = rest.settings;
      some_switch = rest.some_switch;
      going = rest.going;
      entries = AreEntries-push s number 1 slots slot rest.entries (subst (λ (n : ℕ). IsEntry s (record { pharmacy = number; number = n }) slot) comm one);
      in_limit = omega (arith, longer);
    })

-- what may be added
pub added-row : (j : JournalAtRest) (request : List ℕ) (answer : Option (List ℕ)) → is_row j request answer ≡ true → added j request answer ≡ Some (record { number = j.number; settings = j.settings; rule = j.rule; entries = j.entries ++ record { request = request; answer = answer } ∷ [] })
unfolding added
added-row j request answer e = rw e refl

pub added-none : (j : JournalAtRest) (request : List ℕ) (answer : Option (List ℕ)) → is_row j request answer ≡ false → added j request answer ≡ None
unfolding added
added-none j request answer e = rw e refl

pub row_room : (j : JournalAtRest) (request : List ℕ) (answer : Option (List ℕ)) → is_row j request answer ≡ true → length j.entries < j.settings.cap
row_room j request answer e = ltb-true _ _ (and_parts (ltb (length j.entries) j.settings.cap) _ e).0

is_row-entry : (j : JournalAtRest) (id : TxnId) (slot : Slot) → length j.entries < j.settings.cap → IsEntry j.settings id slot → is_row j (kept_of slot).request (kept_of slot).answer ≡ true
is_row-entry j id (Waiting t) room e = and_from _ _ (lt-ltb _ _ room) (and_from _ _ e.1 refl)
is_row-entry j id (Settled t) room e = and_from _ _ (lt-ltb _ _ room) (and_from _ _ e.1 (and_from _ _ e.2 (le-leb _ _ e.3)))

added_entries : (number : ℕ) (s : PharmacySettings) (rule : RetryRule) (before : List Kept) (n : ℕ) (slots : List Slot) → AreEntries s number n slots → length before + length slots ≤ s.cap →
    added_all (Some (record { number = number; settings = s; rule = rule; entries = before })) (map kept_of slots) ≡ Some (record { number = number; settings = s; rule = rule; entries = before ++ map kept_of slots })
added_entries number s rule before n [] all limit = ap (λ (ks : List Kept). let j : JournalAtRest = record { number = number; settings = s; rule = rule; entries = ks } in Some j) (sym (append-nil before))
added_entries number s rule before n (slot ∷ slots) all limit =
    let j : JournalAtRest = record { number = number; settings = s; rule = rule; entries = before } in
    let one = added-row j (kept_of slot).request (kept_of slot).answer (is_row-entry j _ slot (omega (arith, limit)) all.0) in
    let longer : length (before ++ kept_of slot ∷ []) ≡ length before + 1 = length-append before (kept_of slot ∷ []) in
    ap (λ (o : Option JournalAtRest). added_all o (map kept_of slots)) one
    ∙ added_entries number s rule (before ++ kept_of slot ∷ []) (n + 1) slots all.1 (omega (arith, limit, longer))
    ∙ ap (λ (ks : List Kept). let j : JournalAtRest = record { number = number; settings = s; rule = rule; entries = ks } in Some j) (append_assoc before (kept_of slot ∷ []) (map kept_of slots))

-- every journal at rest is made by adding its entries
pub made_by_adding : (number : ℕ) (s : PharmacySettings) (rule : RetryRule) (slots : List Slot) → IsAtRest number s rule slots → added_all (Some (record { number = number; settings = s; rule = rule; entries = [] })) (map kept_of slots) ≡ Some (seen_at_rest number s rule slots)
made_by_adding number s rule slots rest = added_entries number s rule [] 1 slots rest.entries (omega (arith, rest.in_limit))

pub made_of : (number : ℕ) (s : PharmacySettings) (rule : RetryRule) (slots : List Slot) (j : JournalAtRest) → IsAtRest number s rule slots → seen_at_rest number s rule slots ≡ j → added_all (Some (record { number = number; settings = s; rule = rule; entries = [] })) j.entries ≡ Some j
made_of number s rule slots j rest e =
    ap (λ (j : JournalAtRest). added_all (Some (record { number = number; settings = s; rule = rule; entries = [] })) j.entries) (sym e) ∙ made_by_adding number s rule slots rest ∙ ap (λ (j : JournalAtRest). Some j) e
