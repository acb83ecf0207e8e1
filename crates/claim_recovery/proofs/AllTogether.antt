-- One recovery after another, until no entry is open.
use Rattle.std.proofs.Common.{◌≡◌, ℕ, zero, suc, ◌+◌, ◌≤◌, List, [], ◌∷◌, ◌++◌, length, Option, Some, None, slice_get, refl, sym, ap, ◌∙◌, subst, ◌⊎◌, inl, inr, arith, length-append}
use Rattle.std.specs.Prelude.{sum_by, nat_eq, option_and_then, option_map}
use Rattle.std.specs.List.{AllByRecursion}
use Rattle.std.proofs.lemmas.Bool.{cases_eq}
use Rattle.std.proofs.lemmas.List.Sums.{sum_by-cons}
use Rattle.claim_model.specs.Words.{TxnId}
use Rattle.claim_model.specs.Context.{Context}
use Rattle.claim_model.specs.Numbered.{numbered}
use Rattle.claim_model.specs.Journal.{RetryRule, Journal, JournalAtRest, Kept}
use Rattle.claim_model.specs.Node.{Pharmacy, Power}
use Rattle.claim_model.specs.World.{World, Event, Submission, Ticking, Delivery, Stopping, Starting, Revising, Adjudication, run}
use Rattle.claim_model.specs.Settings.{WorldSettings}
use Rattle.claim_model.specs.Held.{journal_in, journal_at, entry_of, held}
use Rattle.claim_model.specs.Promises.{Reached}
use Rattle.claim_model.proofs.Lists.{all_append, all_weaker}
use Rattle.claim_model.proofs.Options.{map_some, then_some}
use Rattle.claim_model.proofs.Tests.{nat_self}
use Rattle.claim_model.proofs.Held.{journal_sound}
use Rattle.claim_model.proofs.Stays.{stays_decided}
use Rattle.claim_model.proofs.Runs.{reached_sound}
use Rattle.claim_recovery.specs.Help.{Timely, AllDone, Helps, HelpsOne, is_tick, is_delivery, is_start, how_many}
use Rattle.claim_recovery.specs.Recovered.{rule_at, IsOpen, Recovered, LeavesOthers, RecoveredAlone}
use Rattle.claim_recovery.specs.Everyone.{open_at, open_from, open_in, open_ids, RoomForAll, again_in, cost, IsSettled, AllRecovered}
use Rattle.claim_recovery.proofs.Paths.{run_append, done_append, run_grows, reached_on}
use Rattle.claim_recovery.proofs.Recoveries.{held_own, recovered_alone}
use Rattle.claim_recovery.proofs.Needs.{entry_same, room_first, room_rest, room_after}
use Rattle.claim_model.proofs.Walking.{all_left, all_right}
use Rattle.claim_recovery.proofs.Still.{none_some}

-- ---- what a list of events costs

length_is : (old n : ℕ) (events : List Event) → AllByRecursion (HelpsOne old n) events → length events ≡ how_many is_tick events + how_many is_delivery events + how_many is_start events
length_is old n [] all = refl
length_is old n (Submission m text ∷ events) all = absurd all.0
length_is old n (Ticking m ∷ events) all = let r = length_is old n events all.1 in omega (arith, r)
length_is old n (Delivery k ∷ events) all = let r = length_is old n events all.1 in omega (arith, r)
length_is old n (Stopping node ∷ events) all = absurd all.0
length_is old n (Starting node ∷ events) all = let r = length_is old n events all.1 in omega (arith, r)
length_is old n (Revising m change ∷ events) all = absurd all.0
length_is old n (Adjudication k advice ∷ events) all = let r = length_is old n events all.1 in omega (arith, r)

-- help of one pharmacy, later, is help
helps_by : (old new n : ℕ) → old ≤ new → (event : Event) → HelpsOne new n event → Helps old event
helps_by old new n le (Submission m text) h = h
helps_by old new n le (Ticking m) h = tt
helps_by old new n le (Delivery k) h = omega (arith, le, h)
helps_by old new n le (Stopping node) h = h
helps_by old new n le (Starting node) h = tt
helps_by old new n le (Revising m change) h = h
helps_by old new n le (Adjudication k advice) h = omega (arith, le, h)

-- ---- entries that are not open

abbrev pub NotOpen : World → TxnId → Type 0
NotOpen w id = (request : List ℕ) → IsOpen w id request → ⊥

same_entry : (a b : Kept) → ◌≡◌ {A = Option Kept} (Some a) (Some b) → a ≡ b
same_entry a b h = cc

not_open_some : (w : World) (id : TxnId) (entry : Kept) (answer : List ℕ) → entry_of w id ≡ Some entry → entry.answer ≡ Some answer → NotOpen w id
not_open_some w id entry answer is has = λ request o.
    let same : entry ≡ record { request = request; answer = None } = same_entry entry (record { request = request; answer = None }) (sym is ∙ o) in
    none_some (sym (ap (λ (k : Kept). k.answer) same) ∙ has)

-- what a pharmacy holds is no open entry
held_not_open : (ctx : Context) (w : World) (id : TxnId) (answer : List ℕ) → held ctx w (Pharmacy id.pharmacy) id ≡ Some answer → NotOpen w id
unfolding held
held_not_open ctx w id answer e =
    let own : option_and_then (λ (k : Kept). k.answer) (entry_of w id) ≡ Some answer = sym (held_own (nat_eq id.pharmacy id.pharmacy) (option_and_then (λ (k : Kept). k.answer) (entry_of w id)) (nat_self id.pharmacy)) ∙ e in
    let k = then_some (λ (k : Kept). k.answer) (entry_of w id) answer own in
    not_open_some w id k.0 answer k.1 k.2

-- an entry is open, or it is not
is_open_by : (w : World) (id : TxnId) (o : Option Kept) → entry_of w id ≡ o → ((request : List ℕ) × IsOpen w id request) ⊎ NotOpen w id
is_open_by w id None is = inr (λ request o. absurd (none_kept (sym is ∙ o)))
  where
    none_kept : {a : Kept} → ◌≡◌ {A = Option Kept} None (Some a) → ⊥
    none_kept h = cc
is_open_by w id (Some k) is = by_answer k.answer refl
  where
    by_answer : (o : Option (List ℕ)) → k.answer ≡ o → ((request : List ℕ) × IsOpen w id request) ⊎ NotOpen w id
    by_answer None e = inl (k.request, is ∙ ap (λ (a : Option (List ℕ)). Some (record { request = k.request; answer = a })) e)
    by_answer (Some a) e = inr (not_open_some w id k a is e)

-- ---- one after another

-- events after which none of these ids is open, and no entry is open that was not
record Settled (ctx : Context) (start w : World) (old : ℕ) (ids : List TxnId) : Type 0 where
  events : List Event
  done : AllDone ctx w events
  help : AllByRecursion (Helps old) events
  few : length events ≤ sum_by (cost start) ids
  these : AllByRecursion (NotOpen (run ctx w events)) ids
  others : (id : TxnId) → NotOpen w id → NotOpen (run ctx w events) id

-- an id that needs nothing
settled_also : (ctx : Context) (start w : World) (old : ℕ) (id : TxnId) (ids : List TxnId) → NotOpen w id → Settled ctx start w old ids → Settled ctx start w old (id ∷ ids)
settled_also ctx start w old id ids not_open s =
    let few = s.few in
    record { events = s.events; done = s.done; help = s.help; few = omega (arith, few, sum_by-cons (cost start) id ids); these = (s.others id not_open, s.these); others = s.others }

-- every pharmacy goes by the rule that it had at the start
abbrev SameRules : World → World → Type 0
SameRules start w = (n : ℕ) → rule_at w n ≡ rule_at start n

again_then : (start w : World) (id : TxnId) (journal : JournalAtRest) → SameRules start w → journal_at w id.pharmacy ≡ Some journal → cost start id ≡ journal.rule.again + 7
again_then start w id journal same there =
    ap (λ (o : Option RetryRule). again_in o + 7) (sym (same id.pharmacy) ∙ ap (option_map (λ (j : JournalAtRest). j.rule)) there)

-- after a recovery too
rules_on : (ctx : Context) (start w v : World) (id : TxnId) (request : List ℕ) → LeavesOthers ctx w v id request → SameRules start w → SameRules start v
rules_on ctx start w v id request others same n =
    elim (cases_eq n id.pharmacy) [
      | inl e ↦ subst (λ (m : ℕ). rule_at v m ≡ rule_at w m) (sym e) others.rule ∙ same n
      | inr d ↦ ap (λ (o : Option (Power Journal JournalAtRest)). option_map (λ (j : JournalAtRest). j.rule) (option_map journal_in o)) (others.pharmacies n d) ∙ same n
    ]

-- one recovery, and then the others
settled_then : (ctx : Context) (start w : World) (old : ℕ) (id : TxnId) (request : List ℕ) (ids : List TxnId) (journal : JournalAtRest) → SameRules start w → old ≤ length w.packets → journal_at w id.pharmacy ≡ Some journal
    → (a : RecoveredAlone ctx w journal id request) → Settled ctx start (run ctx w a.recovered.events) old ids → Settled ctx start w old (id ∷ ids)
settled_then ctx start w old id request ids journal rules before there a s =
    let x : Recovered ctx w journal id = a.recovered in
    let v : World = run ctx w x.events in
    let now : NotOpen v id = held_not_open ctx v id x.answer x.settled in
    let whole : run ctx w (x.events ++ s.events) ≡ run ctx v s.events = run_append ctx w x.events s.events in
    let count = length_is (length w.packets) id.pharmacy x.events x.help in
    let t = x.ticks_few in
    let d = x.deliveries_few in
    let b = x.starts_few in
    let c = again_then start w id journal rules there in
    let few = s.few in
    record {
      events = x.events ++ s.events;
      done = done_append ctx w x.events s.events x.done s.done;
      help = all_append (Helps old) x.events s.events (all_weaker (HelpsOne (length w.packets) id.pharmacy) (Helps old) (helps_by old (length w.packets) id.pharmacy before) x.events x.help) s.help;
      few = omega (arith, count, t, d, b, c, few, length-append x.events s.events, sum_by-cons (cost start) id ids);
      these = subst (λ (u : World). AllByRecursion (NotOpen u) (id ∷ ids)) (sym whole) (s.others id now, s.these);
      others = λ other not_open. subst (λ (u : World). NotOpen u other) (sym whole) (s.others other (elim (entry_same ctx w v id request a.others other) [
        | inl same ↦ λ q o. not_open q (sym same ∙ o)
        | inr same ↦ subst (NotOpen v) (sym same) now
      ]));
    }

settled_open : (ctx : Context) (given : WorldSettings) (start w : World) (old : ℕ) (id : TxnId) (request : List ℕ) (ids : List TxnId) → Reached ctx given w → Timely given → SameRules start w → old ≤ length w.packets → IsOpen w id request → RoomForAll ctx w (id ∷ ids)
    → ((v : World) → Reached ctx given v → SameRules start v → old ≤ length v.packets → RoomForAll ctx v ids → Settled ctx start v old ids) → Settled ctx start w old (id ∷ ids)
settled_open ctx given start w old id request ids r timely rules before o room rest =
    let j = then_some (λ (q : JournalAtRest). numbered q.entries id.number) (journal_at w id.pharmacy) (record { request = request; answer = None }) o in
    let a : RecoveredAlone ctx w j.0 id request = recovered_alone ctx given w id request j.0 r timely j.1 o (room_first ctx given w id request ids r o room) in
    let v : World = run ctx w a.recovered.events in
    let rv : Reached ctx given v = reached_on ctx given w v a.recovered.events r refl in
    let grown = run_grows ctx w a.recovered.events in
    settled_then ctx start w old id request ids j.0 rules before j.1 a (rest v rv (rules_on ctx start w v id request a.others rules) (omega (arith, before, grown)) (room_after ctx w v id request ids r.laws o a.others room))

settle_all : (ctx : Context) (given : WorldSettings) (start w : World) (old : ℕ) (ids : List TxnId) → Reached ctx given w → Timely given → SameRules start w → old ≤ length w.packets → RoomForAll ctx w ids → Settled ctx start w old ids
settle_all ctx given start w old [] r timely rules before room = record { events = []; done = tt; help = tt; few = omega arith; these = tt; others = λ id not_open. not_open }
settle_all ctx given start w old (id ∷ ids) r timely rules before room =
    elim (is_open_by w id (entry_of w id) refl) [
      | inl o ↦ settled_open ctx given start w old id o.0 ids r timely rules before o.1 room (λ v rv same later left. settle_all ctx given start v old ids rv timely same later left)
      | inr not_open ↦ settled_also ctx start w old id ids not_open (settle_all ctx given start w old ids r timely rules before (room_rest ctx w id ids room))
    ]

-- ---- every open entry is in the list

open_entry_listed : (P : TxnId → Type 0) (pharmacy number k : ℕ) (request : List ℕ) (es : List Kept) → AllByRecursion P (open_from pharmacy number es) → slice_get es k ≡ Some (record { request = request; answer = None }) → P (record { pharmacy = pharmacy; number = number + k })
open_entry_listed P pharmacy number k request [] all e = absurd cc
open_entry_listed P pharmacy number zero request (x ∷ es) all e =
    let same : x ≡ record { request = request; answer = None } = cc in
    let n : number + 0 ≡ number = omega arith in
    let all' : AllByRecursion P (open_at (record { pharmacy = pharmacy; number = number }) None) =
    subst (λ (o : Option (List ℕ)). AllByRecursion P (open_at (record { pharmacy = pharmacy; number = number }) o)) (ap (λ (y : Kept). y.answer) same) (all_left P (open_at (record { pharmacy = pharmacy; number = number }) x.answer) (open_from pharmacy (number + 1) es) all) in
    subst (λ (m : ℕ). P (record { pharmacy = pharmacy; number = m })) (sym n) all'.0
open_entry_listed P pharmacy number (suc k) request (x ∷ es) all e =
    let n : number + 1 + k ≡ number + suc k = omega arith in
    subst (λ (m : ℕ). P (record { pharmacy = pharmacy; number = m })) n
    (open_entry_listed P pharmacy (number + 1) k request es (all_right P (open_at (record { pharmacy = pharmacy; number = number }) x.answer) (open_from pharmacy (number + 1) es) all) e)

entry_listed : (P : TxnId → Type 0) (pharmacy number : ℕ) (request : List ℕ) (es : List Kept) → AllByRecursion P (open_from pharmacy 1 es) → numbered es number ≡ Some (record { request = request; answer = None }) → P (record { pharmacy = pharmacy; number = number })
entry_listed P pharmacy zero request es all e = absurd cc
entry_listed P pharmacy (suc k) request es all e =
    let n : 1 + k ≡ suc k = omega arith in subst (λ (m : ℕ). P (record { pharmacy = pharmacy; number = m })) n (open_entry_listed P pharmacy 1 k request es all e)

journal_listed : (P : TxnId → Type 0) (pharmacy k number : ℕ) (request : List ℕ) (ps : List (Power Journal JournalAtRest)) (s : Power Journal JournalAtRest) → AllByRecursion P (open_in pharmacy ps) → slice_get ps k ≡ Some s
    → numbered (journal_in s).entries number ≡ Some (record { request = request; answer = None }) → P (record { pharmacy = pharmacy + k; number = number })
journal_listed P pharmacy k number request [] s all at e = absurd cc
journal_listed P pharmacy zero number request (p ∷ ps) s all at e =
    let same : p ≡ s = cc in
    let n : pharmacy + 0 ≡ pharmacy = omega arith in
    subst (λ (m : ℕ). P (record { pharmacy = m; number = number })) (sym n)
    (entry_listed P pharmacy number request (journal_in s).entries (subst (λ (x : Power Journal JournalAtRest). AllByRecursion P (open_from pharmacy 1 (journal_in x).entries)) same (all_left P (open_from pharmacy 1 (journal_in p).entries) (open_in (pharmacy + 1) ps) all)) e)
journal_listed P pharmacy (suc k) number request (p ∷ ps) s all at e =
    let n : pharmacy + 1 + k ≡ pharmacy + suc k = omega arith in
    subst (λ (m : ℕ). P (record { pharmacy = m; number = number })) n
    (journal_listed P (pharmacy + 1) k number request ps s (all_right P (open_from pharmacy 1 (journal_in p).entries) (open_in (pharmacy + 1) ps) all) at e)

pharmacy_listed : (P : TxnId → Type 0) (n number : ℕ) (request : List ℕ) (ps : List (Power Journal JournalAtRest)) (s : Power Journal JournalAtRest) → AllByRecursion P (open_in 1 ps) → numbered ps n ≡ Some s
    → numbered (journal_in s).entries number ≡ Some (record { request = request; answer = None }) → P (record { pharmacy = n; number = number })
pharmacy_listed P zero number request ps s all at e = absurd cc
pharmacy_listed P (suc k) number request ps s all at e =
    let n : 1 + k ≡ suc k = omega arith in subst (λ (m : ℕ). P (record { pharmacy = m; number = number })) n (journal_listed P 1 k number request ps s all at e)

-- what holds of the listed ids holds of each open one
listed : (P : TxnId → Type 0) (w : World) (id : TxnId) (request : List ℕ) → AllByRecursion P (open_ids w) → IsOpen w id request → P id
listed P w id request all o =
    let j = then_some (λ (q : JournalAtRest). numbered q.entries id.number) (journal_at w id.pharmacy) (record { request = request; answer = None }) o in
    let s = map_some journal_in (numbered w.pharmacies id.pharmacy) j.0 j.1 in
    pharmacy_listed P id.pharmacy id.number request w.pharmacies s.0 all s.1 (subst (λ (q : JournalAtRest). numbered q.entries id.number ≡ Some (record { request = request; answer = None })) (sym s.2) j.2)

-- so after all of them none is open
none_open : (ctx : Context) (w : World) (s : Settled ctx w w (length w.packets) (open_ids w)) (id : TxnId) → NotOpen (run ctx w s.events) id
none_open ctx w s id =
    elim (is_open_by w id (entry_of w id) refl) [
      | inl o ↦ listed (NotOpen (run ctx w s.events)) w id o.0 s.these o.1
      | inr not_open ↦ s.others id not_open
    ]

-- an entry that was open stands, and has an answer once it is not open
settled_by : (ctx : Context) (v : World) (id : TxnId) (entry : Kept) (o : Option (List ℕ)) → NotOpen v id → entry_of v id ≡ Some entry → entry.answer ≡ o → IsSettled ctx v id
unfolding held
settled_by ctx v id entry None not_open is e = absurd (not_open entry.request (is ∙ ap (λ (a : Option (List ℕ)). Some (record { request = entry.request; answer = a })) e))
settled_by ctx v id entry (Some a) not_open is e =
    record {
      answer = a;
      settled =
          held_own (nat_eq id.pharmacy id.pharmacy) (option_and_then (λ (k : Kept). k.answer) (entry_of v id)) (nat_self id.pharmacy)
          ∙ (ap (option_and_then (λ (k : Kept). k.answer)) is ∙ e);
    }

settled_after : (ctx : Context) (w : World) (events : List Event) (id : TxnId) (request : List ℕ) → IsOpen w id request → NotOpen (run ctx w events) id → IsSettled ctx (run ctx w events) id
settled_after ctx w events id request o not_open =
    let v : World = run ctx w events in
    let j = then_some (λ (q : JournalAtRest). numbered q.entries id.number) (journal_at w id.pharmacy) (record { request = request; answer = None }) o in
    let s = (stays_decided ctx w events).journals id.pharmacy j.0 j.1 in
    let e = s.entries id.number (record { request = request; answer = None }) j.2 in
    let is : entry_of v id ≡ Some e.entry = ap (option_and_then (λ (q : JournalAtRest). numbered q.entries id.number)) s.there ∙ e.stands in
    settled_by ctx v id e.entry e.entry.answer not_open is refl

pub all_recovered : (ctx : Context) (given : WorldSettings) (w : World) → Reached ctx given w → Timely given → RoomForAll ctx w (open_ids w) → AllRecovered ctx w
all_recovered ctx given w r timely room =
    let s = settle_all ctx given w w (length w.packets) (open_ids w) r timely (λ n. refl) (omega arith) room in
    record {
      events = s.events;
      done = s.done;
      help = s.help;
      few = s.few;
      settled = λ id request o. settled_after ctx w s.events id request o (none_open ctx w s id);
      none_open = none_open ctx w s;
    }
