-- What is read from a record says by itself all that a node keeps: it is read entry by entry, and row by row.
use Rattle.std.proofs.Common.{◌≡◌, ℕ, zero, suc, ◌+◌, ◌-◌, ◌<◌, ◌≤◌, Bool, true, false, ◌&&◌, ◌==◌, cond, nat_lt, List, [], ◌∷◌, ◌++◌, length, Option, Some, None, Result, Ok, Err, refl, sym, ap, ◌∙◌, subst, arith, ltb-true, length-append}
use Rattle.std.specs.Prelude.{if◌then◌else◌}
use Rattle.std.specs.List.{AllByRecursion}
use Rattle.std.proofs.lemmas.Bool.{and_parts}
use Rattle.bin_routes.specs.Table.{RouteMaps}
use Rattle.plan_rules.specs.Terms.{Terms}
use Rattle.claim_profile.specs.Readable.{readable_header}
use Rattle.claim_model.specs.Words.{TxnId, RequestHeader}
use Rattle.claim_model.specs.Laws.{Laws}
use Rattle.claim_model.specs.Bytes.{bytes_with}
use Rattle.claim_model.specs.Rows.{BookSettings, Book}
use Rattle.claim_model.specs.Journal.{PharmacySettings, RetryRule, JournalAtRest, Kept, with_rule}
use Rattle.claim_model.proofs.BytesLaws.{readable_alike}
use Rattle.claim_model.proofs.Lists.{all_append}
use Rattle.claim_model.proofs.Written.{MayPay}
use Rattle.pharmacy_journal.specs.Reading.{is_own_header, is_own_request}
use Rattle.pharmacy_journal.specs.Resting.{is_kept_answer, is_row}
use Rattle.pharmacy_journal.specs.Resting as journal
use Rattle.payer_book.specs.Added.{KeptRow, added}
use Rattle.payer_book.specs.Following.{RowStands}
use Rattle.kept_records.specs.declared.fault.RecordFault.{RecordFault}
use Rattle.kept_records.specs.declared.fault.RecordFault.TheVariants.{BadRecord, NumberOrder}
use Rattle.kept_records.specs.Entries.{entry_codec}
use Rattle.kept_records.specs.Versions.{fits_version}
use Rattle.kept_records.specs.Rows.{row_codec}
use Rattle.kept_records.specs.Plans.{listed}
use Rattle.kept_records.specs.Faults.{◌>>=◌, some_or, when_or, each_in, ended}
use Rattle.kept_records.specs.Journals.{empty_journal, head_in, ruled_in, entry_in, entries_in, journal_in}
use Rattle.kept_records.specs.Rules.{rule_at}
use Rattle.kept_records.specs.Books.{first_plan, first_book, is_id, book_head_in, row_in, rows_in, book_in}
use Rattle.vouched_runs.specs.Agreeing.{IsOwnEntry, AreNextRows}
use Rattle.days_audit.proofs.NextRows.{stands_next}

-- ---- one step after another

then_ok : {A B : Type 0} (r : Result A RecordFault) (f : A → Result B RecordFault) (y : B) → (r >>= f) ≡ Ok y → (x : A) × (r ≡ Ok x) × (f x ≡ Ok y)
then_ok (Ok x) f y h = (x, refl, h)
then_ok (Err fault) f y h = absurd cc

kept_so : {A : Type 0} (fault : RecordFault) (t : Bool) (a x : A) → when_or fault t a ≡ Ok x → a ≡ x
kept_so fault true a x h = cc
kept_so fault false a x h = absurd cc

ok_same : {A : Type 0} (x y : A) → ◌≡◌ {A = Result A RecordFault} (Ok x) (Ok y) → x ≡ y
ok_same x y h = cc

-- what each step of a reading keeps, the whole keeps

module _ {S : Type 0} (P : S → Type 0) (one : ℕ → S → List ℕ → Result (S × List ℕ) RecordFault) (keep : (place : ℕ) (s : S) (bytes : List ℕ) (next : S × List ℕ) → P s → one place s bytes ≡ Ok next → P next.0) where
  each_read : (total left : ℕ) (s : S) (bytes : List ℕ) (after : S × List ℕ) → each_in one total left s bytes ≡ Ok after → P s → P after.0
  unfolding each_in
  each_read total zero s bytes after e p = subst (λ (x : S × List ℕ). P x.0) (ok_same (s, bytes) after e) p
  each_read total (suc left) s bytes after e p =
      let next = then_ok (one (total - length bytes) s bytes) (λ (n : S × List ℕ). each_in one total left n.0 n.1) after e in
      each_read total left next.0.0 next.0.1 after next.2 (keep (total - length bytes) s bytes next.0 p next.1)

  all_read : (total left : ℕ) (s : S) (bytes : List ℕ) (after : S) → (each_in one total left s bytes >>= ended total) ≡ Ok after → P s → P after
  unfolding ended
  all_read total left s bytes after e p =
      let x = then_ok (each_in one total left s bytes) (ended total) after e in
      subst P (kept_so (BadRecord (total - length x.0.1)) (length x.0.1 == 0) x.0.0 after x.2) (each_read total left s bytes x.0 x.1 p)

-- ---- a book

record RowRead (b after : Book) : Type 0 where
  id : TxnId
  request : List ℕ
  answer : List ℕ
  is : added b id request answer ≡ Some after

module _ (place : ℕ) (b : Book) (next : Book × List ℕ) where
  row_added : (row : KeptRow × List ℕ) (o : Option Book) → added b row.0.id row.0.request row.0.answer ≡ o → (some_or (BadRecord place) o >>= λ (new : Book). Ok (new, row.1)) ≡ Ok next → RowRead b next.0
  row_added row None is e = absurd cc
  row_added row (Some new) is e =
      let same : (new, row.1) ≡ next = ok_same (new, row.1) next e in
      record { id = row.0.id; request = row.0.request; answer = row.0.answer; is = is ∙ ap (λ (x : Book × List ℕ). Some x.0) same }

  row_tested : (row : KeptRow × List ℕ) (named fits : Bool)
      → (when_or (BadRecord place) named row >>= λ (x : KeptRow × List ℕ). when_or (BadRecord place) fits x >>= λ (y : KeptRow × List ℕ). some_or (BadRecord place) (added b y.0.id y.0.request y.0.answer) >>= λ (new : Book). Ok (new, y.1)) ≡ Ok next
      → RowRead b next.0
  row_tested row true true e = row_added row (added b row.0.id row.0.request row.0.answer) refl e
  row_tested row true false e = absurd cc
  row_tested row false fits e = absurd cc

  row_there : (version : ℕ) (o : Option (KeptRow × List ℕ))
      → (some_or (BadRecord place) o >>= λ (row : KeptRow × List ℕ). when_or (BadRecord place) (is_id row.0.id) row >>= λ (x : KeptRow × List ℕ). when_or (BadRecord place) (fits_version version row.0.request) x
      >>= λ (y : KeptRow × List ℕ). some_or (BadRecord place) (added b y.0.id y.0.request y.0.answer) >>= λ (new : Book). Ok (new, y.1)) ≡ Ok next → RowRead b next.0
  row_there version None e = absurd cc
  row_there version (Some row) e = row_tested row (is_id row.0.id) (fits_version version row.0.request) e

row_read : (version place : ℕ) (b : Book) (bytes : List ℕ) (next : Book × List ℕ) → row_in version place b bytes ≡ Ok next → RowRead b next.0
unfolding row_in
row_read version place b bytes next e = row_there place b next version (row_codec.at bytes) e

-- what each added row keeps, all do
abbrev AddedKeep : (Book → Type 0) → Type 0
AddedKeep P = (b : Book) (id : TxnId) (request answer : List ℕ) (after : Book) → P b → added b id request answer ≡ Some after → P after

rows_read : (P : Book → Type 0) → AddedKeep P → (version total left : ℕ) (b : Book) (bytes : List ℕ) (after : Book) → rows_in version total left b bytes ≡ Ok after → P b → P after
unfolding rows_in
rows_read P keep version total left b bytes after e p =
    all_read P (row_in version)
    (λ place old rest next q is.
    let row = row_read version place old rest next is in
    keep old row.id row.request row.answer next.0 q row.is)
    total left b bytes after e p

book_read : (P : Book → Type 0) → AddedKeep P → (payer : ℕ) (settings : BookSettings) → ((plan : Terms) → P (first_book payer settings plan)) → (bytes : List ℕ) (b : Book) → book_in payer settings bytes ≡ Ok b → P b
unfolding book_in
book_read P keep payer settings first bytes b e =
    let head = then_ok (book_head_in payer settings.serial bytes) (λ head. each_in listed (length bytes) head.0.products (first_plan head.0) head.1 >>= λ (plan : Terms × List ℕ). rows_in head.0.version (length bytes) head.0.rows (first_book payer settings plan.0) plan.1) b e in
    let h = head.0 in
    let plan = then_ok (each_in listed (length bytes) h.0.products (first_plan h.0) h.1) (λ (plan : Terms × List ℕ). rows_in h.0.version (length bytes) h.0.rows (first_book payer settings plan.0) plan.1) b head.2 in
    rows_read P keep h.0.version (length bytes) h.0.rows (first_book payer settings plan.0.0) plan.0.1 b plan.2 (first plan.0.0)

-- a book of this payer and these settings, of rows that were made one after another
pub record IsReadBook (routes : RouteMaps) (payer : ℕ) (settings : BookSettings) (b : Book) : Type 0 where
  pub of_payer : b.payer ≡ payer
  pub of_settings : b.settings ≡ settings
  pub rows : AreNextRows (bytes_with routes) b [] b.rows

-- what the law of payer_book says of added rows
abbrev pub OnlyStanding : Type 0
OnlyStanding = (b : Book) (id : TxnId) (request answer : List ℕ) (after : Book) → added b id request answer ≡ Some after → RowStands b id request answer after

pub is_read_book : OnlyStanding → (routes : RouteMaps) → Laws (bytes_with routes) → (payer : ℕ) (settings : BookSettings) (bytes : List ℕ) (b : Book) → 0 < payer → payer ≤ 9999 → 0 < settings.serial → book_in payer settings bytes ≡ Ok b
    → IsReadBook routes payer settings b
is_read_book only routes laws payer settings bytes b some few serial e =
    book_read (IsReadBook routes payer settings)
    (λ old id request answer after p is.
    let x = only old id request answer after is in
    let first : 0 < old.settings.serial = subst (λ (s : BookSettings). 0 < s.serial) (sym p.of_settings) serial in
    let may : MayPay old = record { payer = omega (arith, p.of_payer, some); payer_fits = omega (arith, p.of_payer, few); serial = first } in
    record {
      of_payer = ap (λ (q : Book). q.payer) x.book ∙ p.of_payer;
      of_settings = ap (λ (q : Book). q.settings) x.book ∙ p.of_settings;
      rows = stands_next routes laws old id request answer after may x p.rows;
    })
    payer settings (λ plan. record { of_payer = refl; of_settings = refl; rows = tt }) bytes b e

-- ---- a journal

record EntryRead (j after : JournalAtRest) : Type 0 where
  request : List ℕ
  answer : Option (List ℕ)
  is : journal.added j request answer ≡ Some after

module _ (place : ℕ) (j : JournalAtRest) (next : JournalAtRest × List ℕ) where
  entry_added : (entry : (ℕ × Kept) × List ℕ) (o : Option JournalAtRest) (fits follows : Bool) → journal.added j entry.0.1.request entry.0.1.answer ≡ o
      → (some_or (BadRecord place) o >>= λ (longer : JournalAtRest). when_or (BadRecord place) fits longer >>= λ (x : JournalAtRest). when_or (NumberOrder place) follows (x, entry.1)) ≡ Ok next → EntryRead j next.0
  entry_added entry None fits follows is e = absurd cc
  entry_added entry (Some longer) true true is e =
      let same : (longer, entry.1) ≡ next = ok_same (longer, entry.1) next e in
      record { request = entry.0.1.request; answer = entry.0.1.answer; is = is ∙ ap (λ (x : JournalAtRest × List ℕ). Some x.0) same }
  entry_added entry (Some longer) true false is e = absurd cc
  entry_added entry (Some longer) false follows is e = absurd cc

  entry_there : (version : ℕ) (o : Option ((ℕ × Kept) × List ℕ))
      → (some_or (BadRecord place) o >>= λ (entry : (ℕ × Kept) × List ℕ). some_or (BadRecord place) (journal.added j entry.0.1.request entry.0.1.answer) >>= λ (longer : JournalAtRest).
      when_or (BadRecord place) (fits_version version entry.0.1.request) longer >>= λ (x : JournalAtRest). when_or (NumberOrder place) (entry.0.0 == length j.entries + 1) (x, entry.1)) ≡ Ok next → EntryRead j next.0
  entry_there version None e = absurd cc
  entry_there version (Some entry) e = entry_added entry (journal.added j entry.0.1.request entry.0.1.answer) (fits_version version entry.0.1.request) (entry.0.0 == length j.entries + 1) refl e

entry_read : (version place : ℕ) (j : JournalAtRest) (bytes : List ℕ) (next : JournalAtRest × List ℕ) → entry_in version place j bytes ≡ Ok next → EntryRead j next.0
unfolding entry_in
entry_read version place j bytes next e = entry_there place j next version (entry_codec.at bytes) e

abbrev EnteredKeep : (JournalAtRest → Type 0) → Type 0
EnteredKeep P = (j : JournalAtRest) (request : List ℕ) (answer : Option (List ℕ)) (after : JournalAtRest) → P j → journal.added j request answer ≡ Some after → P after

entries_read : (P : JournalAtRest → Type 0) → EnteredKeep P → (version total left : ℕ) (j : JournalAtRest) (bytes : List ℕ) (after : JournalAtRest) → entries_in version total left j bytes ≡ Ok after → P j → P after
unfolding entries_in
entries_read P keep version total left j bytes after e p =
    all_read P (entry_in version)
    (λ place old rest next q is.
    let entry = entry_read version place old rest next is in
    keep old entry.request entry.answer next.0 q entry.is)
    total left j bytes after e p

rule_read : (P : JournalAtRest → Type 0) (version : ℕ) (j : JournalAtRest) (bytes : List ℕ) (after : JournalAtRest × List ℕ) → P j → ((rule : RetryRule) → P (with_rule rule j)) → ruled_in version j bytes ≡ Ok after → P after.0
unfolding ruled_in
rule_read P version j bytes after first ruled e = by_version (version == 3) e
  where
    by_version : (t : Bool) → (if t then (rule_at j.settings bytes >>= λ (rule : RetryRule × List ℕ). Ok (with_rule rule.0 j, rule.1)) else Ok (j, bytes)) ≡ Ok after → P after.0
    by_version true e =
        let r = then_ok (rule_at j.settings bytes) (λ (rule : RetryRule × List ℕ). Ok (with_rule rule.0 j, rule.1)) after e in
        subst (λ (x : JournalAtRest × List ℕ). P x.0) (ok_same (with_rule r.0.0 j, r.0.1) after r.2) (ruled r.0.0)
    by_version false e = subst (λ (x : JournalAtRest × List ℕ). P x.0) (ok_same (j, bytes) after e) first

journal_read : (P : JournalAtRest → Type 0) → EnteredKeep P → (number : ℕ) (settings : PharmacySettings) → P (empty_journal number settings) → ((rule : RetryRule) → P (with_rule rule (empty_journal number settings)))
    → (bytes : List ℕ) (j : JournalAtRest) → journal_in number settings bytes ≡ Ok j → P j
unfolding journal_in
journal_read P keep number settings first ruled bytes j e =
    let start = empty_journal number settings in
    let head = then_ok (head_in number bytes) (λ h. ruled_in h.0.version start h.1 >>= λ (r : JournalAtRest × List ℕ). entries_in h.0.version (length bytes) h.0.count r.0 r.1) j e in
    let h = head.0 in
    let rule = then_ok (ruled_in h.0.version start h.1) (λ (r : JournalAtRest × List ℕ). entries_in h.0.version (length bytes) h.0.count r.0 r.1) j head.2 in
    entries_read P keep h.0.version (length bytes) h.0.count rule.0.0 rule.0.1 j rule.2 (rule_read P h.0.version start h.1 rule.0 first ruled rule.1)

-- a journal of this number and these settings, whose entries are the pharmacy's own
pub record IsReadJournal (routes : RouteMaps) (number : ℕ) (settings : PharmacySettings) (j : JournalAtRest) : Type 0 where
  pub of_number : j.number ≡ number
  pub of_settings : j.settings ≡ settings
  pub room : length j.entries ≤ j.settings.cap
  pub entries : AllByRecursion (IsOwnEntry (bytes_with routes) j.settings) j.entries

own_entry : (routes : RouteMaps) (s : PharmacySettings) (request : List ℕ) (answer : Option (List ℕ)) (o : Option RequestHeader) → readable_header request ≡ o → is_own_header s o ≡ true
    → IsOwnEntry (bytes_with routes) s (record { request = request; answer = answer })
own_entry routes s request answer None is e = absurd cc
own_entry routes s request answer (Some h) is e = record { header = h; reads = readable_alike routes request ∙ is; own = e }

entered : (routes : RouteMaps) (number : ℕ) (settings : PharmacySettings) → EnteredKeep (IsReadJournal routes number settings)
unfolding journal.added
entered routes number settings j request answer after p e = by_test (is_row j request answer) refl e
  where
    by_test : (t : Bool) → is_row j request answer ≡ t → cond t (Some (record { number = j.number; settings = j.settings; rule = j.rule; entries = j.entries ++ record { request = request; answer = answer } ∷ [] })) None ≡ Some after
        → IsReadJournal routes number settings after
    by_test false is e = absurd cc
    by_test true is e =
        let k : Kept = record { request = request; answer = answer } in
        let longer : JournalAtRest = record { number = j.number; settings = j.settings; rule = j.rule; entries = j.entries ++ k ∷ [] } in
        let same : longer ≡ after = cc in
        let a = and_parts (nat_lt (length j.entries) j.settings.cap) (is_own_request j.settings request && is_kept_answer request answer) is in
        let b = and_parts (is_own_request j.settings request) (is_kept_answer request answer) a.1 in
        let room : length j.entries < j.settings.cap = ltb-true _ _ a.0 in
        let count : length (j.entries ++ k ∷ []) ≡ length j.entries + 1 = length-append j.entries (k ∷ []) in
        let own : IsOwnEntry (bytes_with routes) j.settings k = own_entry routes j.settings request answer (readable_header request) refl b.0 in
        let found : IsReadJournal routes number settings longer =
        record {
          of_number = p.of_number;
          of_settings = p.of_settings;
          room = omega (arith, room, count);
          entries = all_append (IsOwnEntry (bytes_with routes) j.settings) j.entries (k ∷ []) p.entries (own, tt);
        } in
        subst (IsReadJournal routes number settings) same found

pub is_read_journal : (routes : RouteMaps) (number : ℕ) (settings : PharmacySettings) (bytes : List ℕ) (j : JournalAtRest) → journal_in number settings bytes ≡ Ok j → IsReadJournal routes number settings j
is_read_journal routes number settings bytes j e =
    journal_read (IsReadJournal routes number settings) (entered routes number settings) number settings (record { of_number = refl; of_settings = refl; room = omega arith; entries = tt })
    (λ rule. record { of_number = refl; of_settings = refl; room = omega arith; entries = tt }) bytes j e
