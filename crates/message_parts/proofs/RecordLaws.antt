-- Records that read well.
use Rattle.std.proofs.Common.{◌≡◌, ◌<◌, ◌≤◌, ℕ, zero, suc, ◌+◌, ◌-◌, Bool, true, false, ◌&&◌, ◌==◌, List, [], ◌∷◌, length, take, drop, not, get_or, slice_index, Option, Some, None, Result, Ok, Err, refl, sym, ap, subst, ◌∙◌, arith}
use Rattle.std.specs.Prelude.{if◌then◌else◌, nat_lt}
use Rattle.std.specs.List.{AllByRecursion}
use Rattle.std.specs.Int.{w16, from_be_bytes, to_be_bytes}
use Rattle.std.proofs.lemmas.Bool.{false≢true, eqb-true}
use Rattle.std.proofs.lemmas.Nat.{be_bytes_2}
use Rattle.d0_segments.specs.Framing.{framing_fault, request_kind, response_kind}
use Rattle.d0_segments.specs.declared.fault.FramingFault.{FramingFault}
use Rattle.claim_profile.specs.Readable.{readable_header}
use Rattle.claim_profile.specs.Ruling.{answer_of}
use Rattle.claim_profile.proofs.ReadableLemmas.{fault_refuses}
use Rattle.claim_profile.proofs.RulingList.{framing_fails}
use Rattle.claim_model.specs.Bytes.{answer_in}
use Rattle.claim_model.specs.Journal.{JournalAtRest, PharmacySettings, RetryRule, opening_rule, with_rule}
use Rattle.claim_model.specs.Readable.{fits}
use Rattle.claim_model.specs.Rows.{Book, BookSettings}
use Rattle.claim_model.specs.Words.{Answer as Said, RequestHeader}
use Rattle.envelope.specs.Txn.{Txn}
use Rattle.pharmacy_journal.specs.Reading.{header_of, is_own_header, is_own_request, settles_with}
use Rattle.pharmacy_journal.specs.Resting.{added, is_kept_answer, is_row}
use Rattle.payer_book.specs.Added as book
use Rattle.kept_records.specs.declared.fault.RecordFault.{RecordFault}
use Rattle.kept_records.specs.declared.fault.RecordFault.TheVariants.{Short, Version, BadRecord, NumberOrder, NotABook}
use Rattle.kept_records.specs.Versions.{is_version, is_journal_version, fits_version}
use Rattle.kept_records.specs.Faults.{◌>>=◌, some_or, when_or, each_in}
use Rattle.kept_records.specs.Entries.{entry_codec}
use Rattle.kept_records.specs.Heads.{journal_name, journal_head_codec, book_name, book_head_codec}
use Rattle.kept_records.specs.Books.{book_head_in, book_in, has_terms, is_head_of, is_id, row_in, rows_in}
use Rattle.kept_records.specs.Plans.{is_next, listed}
use Rattle.kept_records.specs.Products.{product_codec}
use Rattle.kept_records.specs.Rows.{row_codec}
use Rattle.kept_records.specs.Rules.{can_stand, rule_at, rule_codec, same_rule}
use Rattle.std.specs.Result.{result_ok}
use Rattle.plan_rules.specs.Terms.{Terms, repriced}
use Rattle.kept_records.specs.Journals.{empty_journal, entries_in, entry_in, head_in, journal_in, ruled_in}
use Rattle.kept_records.proofs.Loops.{all_read}
use Rattle.message_parts.specs.AtRest.{Telling, book_rows, book_told, count_at, each_told, entry_told, has_rule, is_book, journal_rows, journal_told, product_told, record_told, row_told, rule_told, ruled_told, stray_told}
use Rattle.message_parts.specs.declared.layout.Form.TheVariants.{Request, Answer}
use Rattle.message_parts.specs.Steps.{head_parts}
use Rattle.message_parts.specs.Standing.{Stands}
use Rattle.message_parts.proofs.Framed.{both, head_stands}
use Rattle.message_parts.proofs.RecordParts.{Clean, HasBookHead, HasJournalHead, IsFaultless, IsFaultlessAnswer, book_head, entry_clean, journal_head, product_clean, row_clean, rule_clean}

-- ---- what is well of a chain

record Well {A B : Type 0} (r : Result A RecordFault) (f : A → Result B RecordFault) (x : B) : Type 0 where
  pub value : A
  pub is : r ≡ Ok value
  pub goes_on : f value ≡ Ok x

well : {A B : Type 0} (r : Result A RecordFault) (f : A → Result B RecordFault) (x : B) → (r >>= f) ≡ Ok x → Well r f x
well (Err fault) f x e = absurd cc
well (Ok a) f x e = record { value = a; is = refl; goes_on = e }

given : {A : Type 0} (fault : RecordFault) (o : Option A) (x : A) → some_or fault o ≡ Ok x → o ≡ Some x
given fault None x e = absurd cc
given fault (Some a) x e = cc

abbrev ok_of : {A : Type 0} → A → Result A RecordFault
ok_of x = Ok x

ok_is : {A : Type 0} (x y : A) → ok_of x ≡ ok_of y → x ≡ y
ok_is x y e = cc

held : {A : Type 0} (fault : RecordFault) (test : Bool) (a x : A) → when_or fault test a ≡ Ok x → test ≡ true
held fault true a x e = refl
held fault false a x e = absurd cc

same_value : {A : Type 0} (fault : RecordFault) (test : Bool) (a x : A) → when_or fault test a ≡ Ok x → a ≡ x
same_value fault true a x e = cc
same_value fault false a x e = absurd cc

left_true : (a b : Bool) → (a && b) ≡ true → a ≡ true
left_true true b e = refl
left_true false b e = absurd (false≢true e)

right_true : (a b : Bool) → (a && b) ≡ true → b ≡ true
right_true true b e = e
right_true false b e = absurd (false≢true e)

-- ---- requests and answers that can stand in a record are framed

asks : (s : PharmacySettings) (text : List ℕ) → is_own_request s text ≡ true → IsFaultless Request text
asks s text own = by_fault (framing_fault request_kind text) refl
  where
    by_fault : (o : Option FramingFault) → framing_fault request_kind text ≡ o → o ≡ None
    by_fault None e = refl
    by_fault (Some fault) e = absurd (false≢true (sym (ap (is_own_header s) (fault_refuses text fault e)) ∙ own))

said_nothing : (text : List ℕ) (fault : FramingFault) → framing_fault response_kind text ≡ Some fault → answer_in (answer_of text) ≡ None
said_nothing text fault e = ap answer_in (framing_fails _ text fault e)

fits_nothing : (h : Option RequestHeader) → fits h None ≡ false
fits_nothing None = refl
fits_nothing (Some h) = refl

settles_so : (request answer : List ℕ) → settles_with request answer ≡ true → IsFaultless Answer answer
settles_so request answer so = by_fault (framing_fault response_kind answer) refl
  where
    by_fault : (o : Option FramingFault) → framing_fault response_kind answer ≡ o → o ≡ None
    by_fault None e = refl
    by_fault (Some fault) e = absurd (false≢true (sym (ap (fits (header_of request)) (said_nothing answer fault e) ∙ fits_nothing (header_of request)) ∙ so))

answers : (request : List ℕ) (answer : Option (List ℕ)) → is_kept_answer request answer ≡ true → IsFaultlessAnswer answer
answers request None so = tt
answers request (Some answer) so = settles_so request answer (left_true (settles_with request answer) _ so)

row_so : (j longer : JournalAtRest) (request : List ℕ) (answer : Option (List ℕ)) → added j request answer ≡ Some longer → is_row j request answer ≡ true
unfolding added
row_so j longer request answer e = by_test (is_row j request answer) _ e
  where
    by_test : (t : Bool) (k : JournalAtRest) → (if t then Some k else None) ≡ Some longer → t ≡ true
    by_test true k e = refl
    by_test false k e = absurd cc

-- ---- records that are read one after the other

each_so : {S : Type 0} (one : ℕ → S → List ℕ → Result (S × List ℕ) RecordFault) (told : Telling → Telling)
    → ((place : ℕ) (s : S) (bytes : List ℕ) (next : S × List ℕ) (behind : Telling) (at : ℕ) → one place s bytes ≡ Ok next → ((p : ℕ) → Clean (behind p next.1)) → Clean (told behind at bytes))
    → (total left : ℕ) (s : S) (bytes : List ℕ) (next : S × List ℕ) (behind : Telling) → each_in one total left s bytes ≡ Ok next → ((p : ℕ) → Clean (behind p next.1)) → (p : ℕ) → Clean (each_told told left behind p bytes)
unfolding each_in each_told
each_so one told so total zero s bytes next behind e clean p = subst (λ (n : _ × List ℕ). Clean (behind p n.1)) (sym (ok_is (s, bytes) next e)) (clean p)
each_so one told so total (suc left) s bytes next behind e clean p =
    let first = well (one (total - length bytes) s bytes) _ next e in
    so (total - length bytes) s bytes first.value (each_told told left behind) p first.is (each_so one told so total left first.value.0 first.value.1 next behind first.goes_on clean)

-- ---- journals

entry_so : (version place : ℕ) (j : JournalAtRest) (bytes : List ℕ) (next : JournalAtRest × List ℕ) (behind : Telling) (at : ℕ) → entry_in version place j bytes ≡ Ok next
    → ((p : ℕ) → Clean (behind p next.1)) → Clean (entry_told behind at bytes)
unfolding entry_in
entry_so version place j bytes next behind at e clean =
    let entry = well _ _ next e in
    let longer = well _ _ next entry.goes_on in
    let fitting = well (when_or (BadRecord place) (fits_version version entry.value.0.1.request) longer.value)
    (λ f. when_or (NumberOrder place) (entry.value.0.0 == length j.entries + 1) (f, entry.value.1)) next longer.goes_on in
    let there : entry_codec.at bytes ≡ Some entry.value = given (BadRecord place) (entry_codec.at bytes) entry.value entry.is in
    let row : is_row j entry.value.0.1.request entry.value.0.1.answer ≡ true = row_so j longer.value entry.value.0.1.request entry.value.0.1.answer (given (BadRecord place) (added j entry.value.0.1.request entry.value.0.1.answer) longer.value longer.is) in
    let kept : (is_own_request j.settings entry.value.0.1.request && is_kept_answer entry.value.0.1.request entry.value.0.1.answer) ≡ true = right_true (nat_lt (length j.entries) j.settings.cap) _ row in
    let whole : (fitting.value, entry.value.1) ≡ next = same_value (NumberOrder place) (entry.value.0.0 == length j.entries + 1) (fitting.value, entry.value.1) next fitting.goes_on in
    entry_clean behind at bytes entry.value there (asks j.settings entry.value.0.1.request (left_true _ _ kept)) (answers entry.value.0.1.request entry.value.0.1.answer (right_true (is_own_request j.settings entry.value.0.1.request) _ kept))
    (subst (λ (n : JournalAtRest × List ℕ). (p : ℕ) → Clean (behind p n.1)) (sym whole) clean)

entries_so : (version total left : ℕ) (j k : JournalAtRest) (bytes : List ℕ) → entries_in version total left j bytes ≡ Ok k → (p : ℕ) → Clean (each_told entry_told left stray_told p bytes)
unfolding entries_in
entries_so version total left j k bytes e = each_so (entry_in version) entry_told (entry_so version) total left j bytes (k, []) stray_told (all_read total (each_in (entry_in version) total left j bytes) k e) (λ p. tt)

-- a rule that was taken
taken_clean : (s : PharmacySettings) (bytes : List ℕ) (rule : RetryRule × List ℕ) (behind : Telling) → rule_at s bytes ≡ Ok rule → ((p : ℕ) → Clean (behind p rule.1)) → (p : ℕ) → Clean (rule_told behind p bytes)
unfolding rule_at
taken_clean s bytes rule behind e clean p =
    let said = well (some_or (BadRecord 9) (rule_codec.at bytes)) _ rule e in
    let standing = well (when_or (BadRecord 9) (can_stand said.value.0) said.value) _ rule said.goes_on in
    let there : rule_codec.at bytes ≡ Some said.value = given (BadRecord 9) (rule_codec.at bytes) said.value said.is in
    let same : said.value ≡ rule = same_value (BadRecord 9) (can_stand said.value.0) said.value standing.value standing.is
    ∙ same_value (BadRecord 9) (not (same_rule standing.value.0 (opening_rule s))) standing.value rule standing.goes_on in
    rule_clean behind p bytes rule (there ∙ ap Some same) clean

-- a rule where there is one
ruled_so : (version : ℕ) (j : JournalAtRest) (bytes : List ℕ) (next : JournalAtRest × List ℕ) (behind : Telling) → ruled_in version j bytes ≡ Ok next → ((p : ℕ) → Clean (behind p next.1)) → (p : ℕ)
    → Clean (ruled_told (version == 3) behind p bytes)
unfolding ruled_in
ruled_so version j bytes next behind e clean p = by_test (version == 3) e
  where
    by_test : (t : Bool) → (if t then (rule_at j.settings bytes >>= λ rule. Ok (with_rule rule.0 j, rule.1)) else Ok (j, bytes)) ≡ Ok next → Clean (ruled_told t behind p bytes)
    by_test true e =
        let rule = well (rule_at j.settings bytes) (λ rule. Ok (with_rule rule.0 j, rule.1)) next e in
        taken_clean j.settings bytes rule.value behind rule.is
        (λ q. subst (λ (n : JournalAtRest × List ℕ). Clean (behind q n.1)) (sym (ok_is (with_rule rule.value.0 j, rule.value.1) next rule.goes_on)) (clean q)) p
    by_test false e = subst (λ (n : JournalAtRest × List ℕ). Clean (behind p n.1)) (sym (ok_is (j, bytes) next e)) (clean p)

head_clean : (place : ℕ) (bytes : List ℕ) → ((p : ℕ) → Clean (ruled_told (has_rule bytes) (each_told entry_told (count_at 5 bytes) stray_told) p (drop 9 bytes))) → Clean (journal_told place bytes)
unfolding journal_told journal_rows
head_clean place bytes rest =
    both (head_parts journal_rows place bytes) _ (head_stands journal_rows place bytes (refl, (refl, (refl, (refl, tt))))) (rest (place + length (take 9 bytes)))

-- what begins as a journal is no book
no_book : (bytes : List ℕ) → (from_be_bytes w16 (take 2 bytes) == journal_name) ≡ true → is_book bytes ≡ false
no_book [] e = refl
no_book (a ∷ []) e = refl
no_book (a ∷ b ∷ rest) e = by_test (is_book (a ∷ b ∷ rest)) refl
  where
    by_test : (t : Bool) → is_book (a ∷ b ∷ rest) ≡ t → is_book (a ∷ b ∷ rest) ≡ false
    by_test false is = is
    by_test true is =
        let first : a ≡ 80 = eqb-true a 80 (left_true (a == 80) (b == 66) is) in
        let second : b ≡ 66 = eqb-true b 66 (right_true (a == 80) (b == 66) is) in
        absurd (false≢true ((λ i. from_be_bytes w16 (sym first i ∷ sym second i ∷ []) == journal_name) ∙ e))

pub journal_stands : (number : ℕ) (settings : PharmacySettings) (bytes : List ℕ) (j : JournalAtRest) → journal_in number settings bytes ≡ Ok j → AllByRecursion Stands (record_told 0 bytes).parts
unfolding journal_in head_in record_told
journal_stands number settings bytes j e =
    let opened = well _ _ j e in
    let head = well _ _ opened.value opened.is in
    let own = well _ _ opened.value head.goes_on in
    let there : journal_head_codec.at bytes ≡ Some head.value = given Short (journal_head_codec.at bytes) head.value head.is in
    let has : HasJournalHead bytes head.value.0.mark head.value.0.version head.value.0.count head.value.1 = journal_head bytes head.value there in
    let test : Bool = head.value.0.mark == journal_name && head.value.0.number == number in
    let first : head.value ≡ own.value = same_value NotABook test head.value own.value own.is in
    let same : head.value ≡ opened.value = first ∙ same_value Version (is_journal_version head.value.0.version) own.value opened.value own.goes_on in
    let marks : (head.value.0.mark == journal_name) ≡ true = left_true (head.value.0.mark == journal_name) (head.value.0.number == number) (held NotABook test head.value own.value own.is) in
    let plain : is_book bytes ≡ false = no_book bytes (ap (λ n. n == journal_name) (sym has.mark_is) ∙ marks) in
    let read : (ruled_in head.value.0.version (empty_journal number settings) head.value.1 >>= λ ruled. entries_in head.value.0.version (length bytes) head.value.0.count ruled.0 ruled.1) ≡ Ok j =
    ap (λ h. ruled_in h.0.version (empty_journal number settings) h.1 >>= λ ruled. entries_in h.0.version (length bytes) h.0.count ruled.0 ruled.1) same ∙ opened.goes_on in
    let ruled = well (ruled_in head.value.0.version (empty_journal number settings) head.value.1) (λ ruled. entries_in head.value.0.version (length bytes) head.value.0.count ruled.0 ruled.1) j read in
    let entries : (p : ℕ) → Clean (each_told entry_told head.value.0.count stray_told p ruled.value.1) =
    entries_so head.value.0.version (length bytes) head.value.0.count ruled.value.0 j ruled.value.1 ruled.goes_on in
    let behind : Telling = each_told entry_told (count_at 5 bytes) stray_told in
    let rest : (p : ℕ) → Clean (ruled_told (has_rule bytes) behind p (drop 9 bytes)) =
    λ p. subst (λ t. Clean (ruled_told t behind p (drop 9 bytes))) (sym has.version_is)
    (subst (λ n. Clean (ruled_told (head.value.0.version == 3) (each_told entry_told n stray_told) p (drop 9 bytes))) has.count_is
    (subst (λ (bs : List ℕ). Clean (ruled_told (head.value.0.version == 3) (each_told entry_told head.value.0.count stray_told) p bs)) has.rest
    (ruled_so head.value.0.version (empty_journal number settings) head.value.1 ruled.value (each_told entry_told head.value.0.count stray_told) ruled.is entries p))) in
    subst (λ t. Clean (if t then book_told 0 bytes else journal_told 0 bytes)) (sym plain) (head_clean 0 bytes rest)

-- ---- books

no_answer : (b : Book) (id : Txn) (request answer : List ℕ) (h : Option RequestHeader) → book.with_answer b id request answer h None ≡ None
no_answer b id request answer None = refl
no_answer b id request answer (Some h) = refl

kept_so : (b c : Book) (id : Txn) (request answer : List ℕ) → book.added b id request answer ≡ Some c → book.with_answer b id request answer (readable_header request) (answer_in (answer_of answer)) ≡ Some c
unfolding book.added book.with_kept
kept_so b c id request answer e = by_test _ e
  where
    by_test : (t : Bool) → (if t then book.with_answer b id request answer (readable_header request) (answer_in (answer_of answer)) else None) ≡ Some c
        → book.with_answer b id request answer (readable_header request) (answer_in (answer_of answer)) ≡ Some c
    by_test true e = e
    by_test false e = absurd cc

some_other : {A : Type 0} (x : A) → None ≡ Some x → ⊥
some_other x e = cc

asks_so : (b c : Book) (id : Txn) (request answer : List ℕ) → book.added b id request answer ≡ Some c → IsFaultless Request request
asks_so b c id request answer e = by_fault (framing_fault request_kind request) refl
  where
    by_fault : (o : Option FramingFault) → framing_fault request_kind request ≡ o → o ≡ None
    by_fault None is = refl
    by_fault (Some fault) is =
        absurd (some_other c (sym (ap (λ (h : Option RequestHeader). book.with_answer b id request answer h (answer_in (answer_of answer))) (fault_refuses request fault is)) ∙ kept_so b c id request answer e))

answers_so : (b c : Book) (id : Txn) (request answer : List ℕ) → book.added b id request answer ≡ Some c → IsFaultless Answer answer
answers_so b c id request answer e = by_fault (framing_fault response_kind answer) refl
  where
    by_fault : (o : Option FramingFault) → framing_fault response_kind answer ≡ o → o ≡ None
    by_fault None is = refl
    by_fault (Some fault) is =
        absurd (some_other c (sym (ap (λ (s : Option Said). book.with_answer b id request answer (readable_header request) s) (said_nothing answer fault is) ∙ no_answer b id request answer (readable_header request))
        ∙ kept_so b c id request answer e))

row_reads : (version place : ℕ) (b : Book) (bytes : List ℕ) (next : Book × List ℕ) (behind : Telling) (at : ℕ) → row_in version place b bytes ≡ Ok next
    → ((p : ℕ) → Clean (behind p next.1)) → Clean (row_told behind at bytes)
unfolding row_in
row_reads version place b bytes next behind at e clean =
    let row = well _ _ next e in
    let named = well _ _ next row.goes_on in
    let fitting = well _ _ next named.goes_on in
    let new = well _ _ next fitting.goes_on in
    let there : row_codec.at bytes ≡ Some row.value = given (BadRecord place) (row_codec.at bytes) row.value row.is in
    let same : row.value ≡ fitting.value = same_value (BadRecord place) (is_id row.value.0.id) row.value named.value named.is
    ∙ same_value (BadRecord place) (fits_version version row.value.0.request) named.value fitting.value fitting.is in
    let at_front : row_codec.at bytes ≡ Some fitting.value = there ∙ ap Some same in
    let added : book.added b fitting.value.0.id fitting.value.0.request fitting.value.0.answer ≡ Some new.value = given (BadRecord place) (book.added b fitting.value.0.id fitting.value.0.request fitting.value.0.answer) new.value new.is in
    let whole : (new.value, fitting.value.1) ≡ next = ok_is _ next new.goes_on in
    row_clean behind at bytes fitting.value at_front (asks_so b new.value fitting.value.0.id fitting.value.0.request fitting.value.0.answer added)
    (answers_so b new.value fitting.value.0.id fitting.value.0.request fitting.value.0.answer added) (subst (λ (n : Book × List ℕ). (p : ℕ) → Clean (behind p n.1)) (sym whole) clean)

rows_so : (version total left : ℕ) (b c : Book) (bytes : List ℕ) → rows_in version total left b bytes ≡ Ok c → (p : ℕ) → Clean (each_told row_told left stray_told p bytes)
unfolding rows_in
rows_so version total left b c bytes e = each_so (row_in version) row_told (row_reads version) total left b bytes (c, []) stray_told (all_read total (each_in (row_in version) total left b bytes) c e) (λ p. tt)

product_so : (place : ℕ) (plan : Terms) (bytes : List ℕ) (next : Terms × List ℕ) (behind : Telling) (at : ℕ) → listed place plan bytes ≡ Ok next
    → ((p : ℕ) → Clean (behind p next.1)) → Clean (product_told behind at bytes)
unfolding listed
product_so place plan bytes next behind at e clean =
    let product = well _ _ next e in
    let later = well _ _ next product.goes_on in
    let new = well (some_or (BadRecord place) (result_ok (repriced plan later.value.0.0 later.value.0.1))) (λ n. Ok (n, later.value.1)) next later.goes_on in
    let there : product_codec.at bytes ≡ Some product.value = given (BadRecord place) (product_codec.at bytes) product.value product.is in
    let same : product.value ≡ later.value = same_value (BadRecord place) (is_next plan.prices product.value.0.0) product.value later.value later.is in
    let whole : (new.value, later.value.1) ≡ next = ok_is _ next new.goes_on in
    product_clean behind at bytes later.value (there ∙ ap Some same) (subst (λ (n : Terms × List ℕ). (p : ℕ) → Clean (behind p n.1)) (sym whole) clean)

-- two bytes that spell the name of a book
is_book_so : (bytes : List ℕ) → ((i : ℕ) → slice_index bytes i < 256) → 2 ≤ length bytes → from_be_bytes w16 (take 2 bytes) ≡ book_name → is_book bytes ≡ true
is_book_so [] small long e = absurd (omega (arith, long))
is_book_so (a ∷ []) small long e = absurd (omega (arith, long))
is_book_so (a ∷ b ∷ rest) small long e =
    let a_small : a < 256 = small 0 in
    let b_small : b < 256 = small 1 in
    let bytes_are : to_be_bytes w16 book_name ≡ a ∷ b ∷ [] = be_bytes_2 (a ∷ b ∷ []) book_name refl (two_small a b a_small b_small) (sym e) in
    let first : a ≡ 80 = sym (ap (λ (bs : List ℕ). slice_index bs 0) bytes_are) in
    let second : b ≡ 66 = sym (ap (λ (bs : List ℕ). slice_index bs 1) bytes_are) in
    (λ i. (first i == 80) && (second i == 66))
  where
    two_small : (a b : ℕ) → a < 256 → b < 256 → (i : ℕ) → get_or (a ∷ b ∷ []) i 0 < 256
    two_small a b x y zero = x
    two_small a b x y (suc zero) = y
    two_small a b x y (suc (suc i)) = omega arith

book_clean : (bytes : List ℕ) → ((p : ℕ) → Clean (each_told product_told (count_at 21 bytes) (each_told row_told (count_at 25 bytes) stray_told) p (drop 29 bytes))) → Clean (book_told 0 bytes)
unfolding book_told book_rows
book_clean bytes rest =
    both (head_parts book_rows 0 bytes) _ (head_stands book_rows 0 bytes (refl, (refl, (refl, (refl, (refl, (refl, (refl, (refl, tt))))))))) (rest (0 + length (take 29 bytes)))

pub book_stands : (payer : ℕ) (settings : BookSettings) (bytes : List ℕ) (b : Book) → ((i : ℕ) → slice_index bytes i < 256) → book_in payer settings bytes ≡ Ok b → AllByRecursion Stands (record_told 0 bytes).parts
unfolding book_in book_head_in record_told
book_stands payer settings bytes b small e =
    let opened = well _ _ b e in
    let planned = well _ _ b opened.goes_on in
    let head = well _ _ opened.value opened.is in
    let own = well _ _ opened.value head.goes_on in
    let known = well _ _ opened.value own.goes_on in
    let there : book_head_codec.at bytes ≡ Some head.value = given Short (book_head_codec.at bytes) head.value head.is in
    let has : HasBookHead bytes head.value.0.name head.value.0.products head.value.0.rows head.value.1 = book_head bytes head.value there in
    let same : head.value ≡ opened.value =
    same_value NotABook (is_head_of payer settings.serial head.value.0) head.value own.value own.is ∙ same_value Version (is_version head.value.0.version) own.value known.value known.is
    ∙ same_value (BadRecord 29) (has_terms head.value.0) known.value opened.value known.goes_on in
    let names : (head.value.0.name == book_name) ≡ true = left_true (head.value.0.name == book_name) _ (held NotABook (is_head_of payer settings.serial head.value.0) head.value own.value own.is) in
    let name : from_be_bytes w16 (take 2 bytes) ≡ book_name = sym has.name_is ∙ eqb-true head.value.0.name book_name names in
    let is : is_book bytes ≡ true = is_book_so bytes small has.long name in
    let read : (p : ℕ) → Clean (each_told product_told opened.value.0.products (each_told row_told opened.value.0.rows stray_told) p opened.value.1) =
    each_so listed product_told product_so (length bytes) opened.value.0.products _ opened.value.1 planned.value (each_told row_told opened.value.0.rows stray_told) planned.is
    (rows_so opened.value.0.version (length bytes) opened.value.0.rows _ b planned.value.1 planned.goes_on) in
    let read_so : (p : ℕ) → Clean (each_told product_told head.value.0.products (each_told row_told head.value.0.rows stray_told) p head.value.1) =
    subst (λ h. (p : ℕ) → Clean (each_told product_told h.0.products (each_told row_told h.0.rows stray_told) p h.1)) (sym same) read in
    let rest : (p : ℕ) → Clean (each_told product_told (count_at 21 bytes) (each_told row_told (count_at 25 bytes) stray_told) p (drop 29 bytes)) =
    λ p. subst (λ n. Clean (each_told product_told n (each_told row_told (count_at 25 bytes) stray_told) p (drop 29 bytes))) has.products_are
    (subst (λ n. Clean (each_told product_told head.value.0.products (each_told row_told n stray_told) p (drop 29 bytes))) has.rows_are
    (subst (λ (bs : List ℕ). Clean (each_told product_told head.value.0.products (each_told row_told head.value.0.rows stray_told) p bs)) has.rest (read_so p))) in
    subst (λ t. Clean (if t then book_told 0 bytes else journal_told 0 bytes)) (sym is) (book_clean bytes rest)
