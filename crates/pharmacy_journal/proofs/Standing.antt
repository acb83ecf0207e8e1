-- A journal that is up stays one.
use Rattle.std.proofs.Common.{◌≡◌, ℕ, zero, suc, ◌+◌, ◌*◌, ◌/◌, ◌<◌, ◌≤◌, true, false, List, [], ◌∷◌, ◌++◌, length, map, set, get_or, Option, Some, None, option_map, is_some, refl, sym, ap, ◌∙◌, arith, subst, length-append, ⊎_elim}
use Rattle.std.specs.List.{slice_get, AllByRecursion, filter, flat_map}
use Rattle.std.proofs.lemmas.Bool.{cases_Bool}
use Rattle.std.proofs.lemmas.List.{map-append}
use Rattle.std.proofs.lemmas.Option.{get_or_from_slice_get}
use Rattle.std.specs.Prelude.{slice_index}
use Rattle.claim_model.specs.Words.{TxnId}
use Rattle.claim_model.specs.Journal.{PharmacySettings, RetryRule, Journal, Entry, State, Waits, Has, Sending, ticked, circle}
use Rattle.pharmacy_journal.specs.Retry.{Rule, phases_of, next_phase, node_of}
use Rattle.pharmacy_journal.specs.Places.{places_from}
use Rattle.pharmacy_journal.specs.Timetable.{Rounds, ticked_phases, ticked_rounds, due_next, is_open}
use Rattle.pharmacy_journal.specs.Entries.{entry_of, entries_of, is_waiting, IsEntry, IsUp}
use Rattle.pharmacy_journal.specs.Sendings.{packet_by, packet_at, is_due_entry, due_places}
use Rattle.envelope.specs.Envelope.{envelope_text}
use Rattle.claim_model.specs.Words.{Request}
use Rattle.pharmacy_journal.specs.Transactions.{Submission}
use Rattle.pharmacy_journal.specs.Hearing.{settled_at, IsAnsweredBy}
use Rattle.pharmacy_journal.specs.declared.slot.Slot.{Slot}
use Rattle.pharmacy_journal.specs.declared.slot.Slot.TheVariants.{Waiting, Settled}
use Rattle.pharmacy_journal.proofs.Entering.{length-phases, AreEntries-push, AreEntries-at, AreEntries-settled, phase-at, entries_of-at, length-settled_at, waiting-settled_at, entries_of-ticked, is_some-next, due-entries_of}

-- how a journal's parts are seen
abbrev pub seen : ℕ → PharmacySettings → RetryRule → Rounds → List Slot → Journal
seen number s rule t slots = record { number = number; settings = s; rule = rule; entries = entries_of slots t.phases }

-- there is a phase
pub some_phase : (again tries nodes : ℕ) → 0 < again → 0 < tries → 0 < nodes → 0 < again * tries * nodes
some_phase again tries nodes a t n = Rattle.std.proofs.Math.Nat.mul-pos (Rattle.std.proofs.Math.Nat.mul-pos a t) n

-- one entry more
pub IsUp-push : (number : ℕ) (s : PharmacySettings) (rule : RetryRule) (t t' : Rounds) (slots slots' : List Slot) (slot : Slot) → IsUp number s rule t slots → t' ≡ record { rule = t.rule; phases = t.phases ++ Some 0 ∷ [] } → slots' ≡ slots ++ slot ∷ [] → is_waiting slot ≡ true →
    IsEntry s (record { pharmacy = number; number = length slots + 1 }) slot → length slots < s.cap → IsUp number s rule t' slots'
IsUp-push number s rule t t' slots slots' slot up e f w one room =
    let comm : length slots + 1 ≡ 1 + length slots = omega arith in
    let longer : length (slots ++ slot ∷ []) ≡ length slots + 1 = length-append slots (slot ∷ []) in
    rw (e, f) (record {
      kept = record {
        some_number = up.kept.some_number;
        some_node = up.kept.some_node;
        settings = up.kept.settings;
        some_switch = up.kept.some_switch;
        going = up.kept.going;
        entries = AreEntries-push s number 1 slots slot up.kept.entries (subst (λ (n : ℕ). IsEntry s (record { pharmacy = number; number = n }) slot) comm one);
        in_limit = omega (arith, longer);
      };
      by_rule = up.by_rule;
      phases = map-append is_waiting slots (slot ∷ []) ∙ ap (λ bs. bs ++ is_waiting slot ∷ []) up.phases ∙ ap (λ b. map is_some t.phases ++ b ∷ []) w ∙ sym (map-append is_some t.phases (Some 0 ∷ []));
    })

-- an entry settled
pub IsUp-settled : (number : ℕ) (s : PharmacySettings) (rule : RetryRule) (t t' : Rounds) (slots slots' : List Slot) (place : ℕ) (slot : Slot) (answer : List ℕ) → IsUp number s rule t slots → t' ≡ record { rule = t.rule; phases = set t.phases place None } → slots' ≡ settled_at slots place answer →
    slice_get slots place ≡ Some slot → IsAnsweredBy slot answer → length answer ≤ 32768 → IsUp number s rule t' slots'
IsUp-settled number s rule t t' slots slots' place slot answer up e f is h short =
    rw (e, f) (record {
      kept = record {
        some_number = up.kept.some_number;
        some_node = up.kept.some_node;
        settings = up.kept.settings;
        some_switch = up.kept.some_switch;
        going = up.kept.going;
        entries = AreEntries-settled s number 1 slots place slot answer up.kept.entries is h short;
        in_limit = rw (length-settled_at slots place answer) up.kept.in_limit;
      };
      by_rule = up.by_rule;
      phases = waiting-settled_at slots t.phases place answer up.phases;
    })

-- a tick
pub IsUp-ticked : (number : ℕ) (s : PharmacySettings) (rule : RetryRule) (t t' : Rounds) (slots : List Slot) → IsUp number s rule t slots → t' ≡ ticked_rounds t → IsUp number s rule t' slots
IsUp-ticked number s rule t t' slots up e =
    rw e (record { kept = up.kept; by_rule = up.by_rule; phases = up.phases ∙ sym (is_some-next (next_phase t.rule) t.phases) })

-- is the model's tick
pub seen-ticked : (number : ℕ) (s : PharmacySettings) (rule : RetryRule) (t : Rounds) (slots : List Slot) → IsUp number s rule t slots → seen number s rule (ticked_rounds t) slots ≡ ticked (seen number s rule t slots)
unfolding ticked
seen-ticked number s rule t slots up =
    ap (λ (es : List Entry). let j : Journal = record { number = number; settings = s; rule = rule; entries = es } in j)
    (entries_of-ticked t.rule slots t.phases up.phases ∙ ap (λ (r : Rule). map (λ (e : Entry). let x : Entry = record { request = e.request; state = Rattle.claim_model.specs.Journal.ticked_state (phases_of r) e.state } in x) (entries_of slots t.phases)) up.by_rule)

-- the places that are due by their phases
pub due_next-places : (number : ℕ) (s : PharmacySettings) (rule : RetryRule) (t : Rounds) (slots : List Slot) → IsUp number s rule t slots → due_next t ≡ due_places (ticked (seen number s rule t slots))
due_next-places number s rule t slots up =
    let waiting : map is_waiting slots ≡ map is_some (ticked_phases t) = up.phases ∙ sym (is_some-next (next_phase t.rule) t.phases) in
    due-entries_of t.rule 0 slots (ticked_phases t) waiting
    ∙ ap (λ (r : Rule). places_from (is_due_entry r.again) 0 (entries_of slots (ticked_phases t))) up.by_rule
    ∙ ap (λ (j : Journal). due_places j) (seen-ticked number s rule t slots up)

-- what the entry at a place sends after a tick
pub packet_at-ticked : (number : ℕ) (s : PharmacySettings) (rule : RetryRule) (t : Rounds) (slots : List Slot) (place : ℕ) (slot : Slot) → IsUp number s rule t slots → slice_get slots place ≡ Some slot →
    (p : Option ℕ) × (get_or (ticked_phases t) place None ≡ p) × (is_waiting slot ≡ is_some p) × (packet_at (ticked (seen number s rule t slots)) place ≡ packet_by (ticked (seen number s rule t slots)) (place + 1) (Some (entry_of slot p)))
packet_at-ticked number s rule t slots place slot up is =
    let waiting : map is_waiting slots ≡ map is_some (ticked_phases t) = up.phases ∙ sym (is_some-next (next_phase t.rule) t.phases) in
    let at = phase-at slots (ticked_phases t) place slot waiting is in
    let entry : slice_get (ticked (seen number s rule t slots)).entries place ≡ Some (entry_of slot at.0) =
    ap (λ (j : Journal). slice_get j.entries place) (sym (seen-ticked number s rule t slots up)) ∙ entries_of-at slots (ticked_phases t) place slot at.0 is at.1 in
    (at.0, get_or_from_slice_get (ticked_phases t) place at.0 None at.1, at.2, ap (packet_by (ticked (seen number s rule t slots)) (place + 1)) entry)

settled_sends : (j : Journal) (n : ℕ) (slot : Slot) (p : Option ℕ) → is_waiting slot ≡ false → packet_by j n (Some (entry_of slot p)) ≡ []
settled_sends j n (Waiting t) p e = absurd cc
settled_sends j n (Settled t) p e = refl

-- nothing, where it has no phase
pub packet_at-none : (number : ℕ) (s : PharmacySettings) (rule : RetryRule) (t : Rounds) (slots : List Slot) (place : ℕ) (slot : Slot) → IsUp number s rule t slots → slice_get slots place ≡ Some slot → None ≡ option_map (node_of t.rule) (get_or (ticked_phases t) place None) →
    packet_at (ticked (seen number s rule t slots)) place ≡ []
packet_at-none number s rule t slots place slot up is none =
    let at = packet_at-ticked number s rule t slots place slot up is in
    at.3 ∙ settled_sends (ticked (seen number s rule t slots)) (place + 1) slot at.0 (at.2 ∙ no_phase t.rule at.0 (none ∙ ap (option_map (node_of t.rule)) at.1))
  where
    no_phase : (r : Rule) (p : Option ℕ) → None ≡ option_map (node_of r) p → is_some p ≡ false
    no_phase r None e = refl
    no_phase r (Some p) e = absurd cc

-- nothing, where it is settled
pub packet_at-settled : (number : ℕ) (s : PharmacySettings) (rule : RetryRule) (t : Rounds) (slots : List Slot) (place : ℕ) (slot : Slot) → IsUp number s rule t slots → slice_get slots place ≡ Some slot → is_waiting slot ≡ false → packet_at (ticked (seen number s rule t slots)) place ≡ []
packet_at-settled number s rule t slots place slot up is settled =
    let at = packet_at-ticked number s rule t slots place slot up is in
    at.3 ∙ settled_sends (ticked (seen number s rule t slots)) (place + 1) slot at.0 settled

some_node : (r : Rule) (p : Option ℕ) (node : ℕ) → Some node ≡ option_map (node_of r) p → (phase : ℕ) × (p ≡ Some phase) × (node ≡ node_of r phase)
some_node r None node e = absurd cc
some_node r (Some phase) node e = (phase, refl, cc)

-- its packet, where it is open
pub packet_at-open : (number : ℕ) (s : PharmacySettings) (rule : RetryRule) (t : Rounds) (slots : List Slot) (place : ℕ) (x : Submission) (node : ℕ) → IsUp number s rule t slots → slice_get slots place ≡ Some (Waiting x) → Some node ≡ option_map (node_of t.rule) (get_or (ticked_phases t) place None) →
    packet_at (ticked (seen number s rule t slots)) place ≡ record { switch = slice_index rule.nodes node; bytes = envelope_text Request x.id x.request } ∷ []
unfolding ticked
packet_at-open number s rule t slots place x node up is some =
    let at = packet_at-ticked number s rule t slots place (Waiting x) up is in
    let phase = some_node t.rule at.0 node (some ∙ ap (option_map (node_of t.rule)) at.1) in
    let id : x.id ≡ record { pharmacy = number; number = 1 + place } = (AreEntries-at s number 1 slots place (Waiting x) up.kept.entries is).0 in
    let comm : 1 + place ≡ place + 1 = omega arith in
    let to : slice_index rule.nodes (phase.0 / (rule.again * rule.tries)) ≡ slice_index rule.nodes node = ap (λ (r : Rule). slice_index rule.nodes (node_of r phase.0)) (sym up.by_rule) ∙ ap (slice_index rule.nodes) (sym phase.2) in
    at.3
    ∙ ap (λ (p : Option ℕ). packet_by (ticked (seen number s rule t slots)) (place + 1) (Some (entry_of (Waiting x) p))) phase.1
    ∙ ap (λ (n : ℕ). let p : Sending = record { switch = slice_index rule.nodes (phase.0 / (rule.again * rule.tries)); bytes = envelope_text Request (record { pharmacy = number; number = n }) x.request } in p ∷ []) (sym comm)
    ∙ ap (λ (i : TxnId). let p : Sending = record { switch = slice_index rule.nodes (phase.0 / (rule.again * rule.tries)); bytes = envelope_text Request i x.request } in p ∷ []) (sym id)
    ∙ ap (λ (n : ℕ). let p : Sending = record { switch = n; bytes = envelope_text Request x.id x.request } in p ∷ []) to

-- there is an entry at each place
pub exists_at : {A : Type 0} (xs : List A) (k : ℕ) → k < length xs → (x : A) × (slice_get xs k ≡ Some x)
exists_at [] k lt = absurd (omega (arith, lt))
exists_at (x ∷ xs) zero lt = (x, refl)
exists_at (x ∷ xs) (suc k) lt = exists_at xs k (omega (arith, lt))

-- places of phases are places of entries
pub in_entries : (slots : List Slot) (phases : List (Option ℕ)) (ks : List ℕ) → map is_waiting slots ≡ map is_some phases → AllByRecursion (λ k. k < length phases) ks → AllByRecursion (λ k. k < length slots) ks
in_entries slots phases ks e h = subst (λ (n : ℕ). AllByRecursion (λ k. k < n) ks) (length-phases slots phases e) h

-- a hole sends nothing
hole_sends : (number : ℕ) (s : PharmacySettings) (rule : RetryRule) (t : Rounds) (slots : List Slot) (k : ℕ) → IsUp number s rule t slots → k < length slots → is_open t.phases k ≡ false → packet_at (ticked (seen number s rule t slots)) k ≡ []
hole_sends number s rule t slots k up lt closed =
    let slot = exists_at slots k lt in
    let at = phase-at slots t.phases k slot.0 up.phases slot.1 in
    packet_at-settled number s rule t slots k slot.0 up slot.1 (at.2 ∙ ap is_some (sym (get_or_from_slice_get t.phases k at.0 None at.1)) ∙ closed)

-- so a bucket sends what its open places send
pub packets_of_open : (number : ℕ) (s : PharmacySettings) (rule : RetryRule) (t : Rounds) (slots : List Slot) (ks : List ℕ) → IsUp number s rule t slots → AllByRecursion (λ k. k < length slots) ks →
    flat_map (packet_at (ticked (seen number s rule t slots))) ks ≡ flat_map (packet_at (ticked (seen number s rule t slots))) (filter (is_open t.phases) ks)
packets_of_open number s rule t slots [] up h = refl
packets_of_open number s rule t slots (k ∷ ks) up h =
    let ih = packets_of_open number s rule t slots ks up h.1 in
    ⊎_elim
    (λ (e : is_open t.phases k ≡ true). rw e (ap (λ (ps : List Sending). packet_at (ticked (seen number s rule t slots)) k ++ ps) ih))
    (λ (e : is_open t.phases k ≡ false). rw (e, hole_sends number s rule t slots k up h.0 e) ih)
    (cases_Bool (is_open t.phases k))
