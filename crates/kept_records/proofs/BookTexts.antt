-- A book that is read is the one that stands there, and a book that can be made is read.
use Rattle.std.proofs.Common.{◌≡◌, ℕ, ◌<◌, ◌≤◌, ◌^◌, ◌==◌, ◌&&◌, Bool, true, false, not, nat_le, List, [], ◌∷◌, ◌++◌, length, map, Some, Ok, ◌⊎◌, inl, inr, lit<, refl, sym, ap, subst, ◌∙◌, arith}
use Rattle.std.proofs.lemmas.Bool.{eqb-true, eq-eqb, leb-true, le-leb}
use Rattle.std.proofs.lemmas.Bool.Decides.{nat_tests}
use Rattle.std.proofs.lemmas.List.{length-map, append-nil}
use Rattle.envelope.specs.Txn.{Txn, IsTxn}
use Rattle.plan_rules.specs.Prices.{Prices, IsInOrder}
use Rattle.plan_rules.specs.Terms.{Terms, IsPlan, largest, most_products}
use Rattle.claim_model.specs.Rows.{Book, BookSettings}
use Rattle.payer_book.specs.Added.{KeptRow, kept_row, added_all}
use Rattle.payer_book.specs.Following.{KeepsRows}
use Rattle.kept_records.specs.declared.book_head.BookHead.{BookHead}
use Rattle.kept_records.specs.declared.fault.RecordFault.TheVariants.{Short, Version, BadRecord, NotABook}
use Rattle.kept_records.specs.Faults.{◌>>=◌, when_or, each_in}
use Rattle.kept_records.specs.Products.{products_text}
use Rattle.kept_records.specs.Plans.{listed}
use Rattle.kept_records.specs.Fields.{text_codec}
use Rattle.kept_records.specs.Heads.{book_name, book_head_codec}
use Rattle.kept_records.specs.Rows.{row_codec, rows_text}
use Rattle.kept_records.specs.Versions.{is_version}
use Rattle.kept_records.specs.Books.{head_of, book_text, is_id, row_in, rows_in, is_head_of, has_terms, book_head_in, first_plan, first_book, book_in}
use Rattle.kept_records.specs.BookLaws.{IsKeptRow, AreKeptRows, HaveOne, IsMade, FitsBook, IsKeepable, IsTextOf}
use Rattle.codec.specs.Laws.{AreBytes, IsTaken}
use Rattle.kept_records.proofs.Chains.{some_or_then, when_or_then, when_or_ok, result_then, of_version}
use Rattle.kept_records.proofs.Formats.{book_head_is, row_fits}
use Rattle.kept_records.proofs.Loops.{all_read, none_more}
use Rattle.kept_records.proofs.PlanLaws.{priced_as, AreListed, products_are, products_again}
use Rattle.kept_records.proofs.RowLaws.{IsKeptIn, AreKeptIn, AreEntered, rows_are, rows_again, AddedAreKept}

-- ---- a book that can be made is read

fits_word : (n : ℕ) → n ≤ largest → n < 2 ^ 32
fits_word n h = omega arith

fits_count : (n : ℕ) → n ≤ most_products → n < 2 ^ 32
fits_count n h = omega arith

pub head_fits : (version : ℕ) (b : Book) → FitsBook b → book_head_codec.Fits (head_of version b)
unfolding book_head_codec
head_fits version b is =
    ((lit< tt, (tt, (is.payer, is.serial))), (fits_word b.plan.fee is.plan.fee, (fits_word b.plan.copay is.plan.copay, (fits_count (length b.plan.prices) is.plan.few, is.few))))

opens_again : (version : ℕ) (b : Book) (rest : List ℕ) → is_version version ≡ true → IsKeepable b → book_head_in b.payer b.settings.serial (book_head_codec.text (head_of version b) ++ rest) ≡ Ok (head_of version b, rest)
unfolding book_head_in
opens_again version b rest known is =
    rw (
      book_head_is.back (head_of version b) rest (head_fits version b is.fits),
      eq-eqb b.payer b.payer refl,
      eq-eqb b.settings.serial b.settings.serial refl,
      known,
      le-leb b.plan.fee largest is.fits.plan.fee,
      le-leb b.plan.copay largest is.fits.plan.copay,
      le-leb (length b.plan.prices) most_products is.fits.plan.few,
    ) refl

book_again : (version : ℕ) (b : Book) → is_version version ≡ true → IsKeepable b → AreKeptIn version (map kept_row b.rows) → book_in b.payer b.settings (book_text version b) ≡ Ok b
unfolding book_in book_text rows_in
book_again version b known is kept =
    let ks : List KeptRow = map kept_row b.rows in
    let rest : List ℕ = products_text b.plan.prices ++ rows_text ks in
    let total : ℕ = length (book_head_codec.text (head_of version b) ++ rest) in
    let plan : each_in listed total (length b.plan.prices) (first_plan (head_of version b)) rest ≡ Ok (b.plan, rows_text ks) = products_again total (first_plan (head_of version b)) b.plan.prices (rows_text ks) is.fits.plan.in_order is.fits.plan.priced is.fits.plan.few in
    let rows : rows_in version total (length b.rows) (first_book b.payer b.settings b.plan) (rows_text ks) ≡ Ok b = ap (λ (n : ℕ). rows_in version total n (first_book b.payer b.settings b.plan) (rows_text ks)) (sym (length-map b.rows kept_row)) ∙ none_more total (each_in (row_in version) total (length ks) (first_book b.payer b.settings b.plan) (rows_text ks)) b (rows_again version total (first_book b.payer b.settings b.plan) b ks kept is.made) in
    rw (opens_again version b rest known is, plan) rows

named_again : (id : Txn) → IsTxn id → is_id id ≡ true
named_again id is = rw (some_test id.pharmacy is.some_pharmacy, some_test id.number is.some_number) refl
  where
    some_test : (n : ℕ) → 0 < n → (n == 0) ≡ false
    some_test n h = grind (arith, nat_tests)

kept_in_2 : (ks : List KeptRow) → AreKeptRows ks → AreKeptIn 2 ks
kept_in_2 [] are = tt
kept_in_2 (k ∷ ks) are = (record { fits = row_fits k are.0; named = named_again k.id are.0.id; fitting = refl }, kept_in_2 ks are.1)

kept_in_1 : (ks : List KeptRow) → AreKeptRows ks → HaveOne ks → AreKeptIn 1 ks
kept_in_1 [] are ones = tt
kept_in_1 (k ∷ ks) are ones = (record { fits = row_fits k are.0; named = named_again k.id are.0.id; fitting = ones.0 }, kept_in_1 ks are.1 ones.1)

pub reads_back : (b : Book) → IsKeepable b → book_in b.payer b.settings (book_text 2 b) ≡ Ok b
reads_back b is = book_again 2 b refl is (kept_in_2 (map kept_row b.rows) is.fits.rows)

pub reads_back_single : (b : Book) → IsKeepable b → HaveOne (map kept_row b.rows) → book_in b.payer b.settings (book_text 1 b) ≡ Ok b
reads_back_single b is ones = book_again 1 b refl is (kept_in_1 (map kept_row b.rows) is.fits.rows ones)

-- ---- a book that is read is the one that stands there

record IsOpened (payer serial : ℕ) (bytes : List ℕ) (head : BookHead) (rest : List ℕ) : Type 0 where
  name : head.name ≡ book_name
  of_payer : head.payer ≡ payer
  of_serial : head.serial ≡ serial
  known : is_version head.version ≡ true
  fee : head.fee ≤ largest
  copay : head.copay ≤ largest
  few : head.products ≤ most_products
  fits : book_head_codec.Fits head
  taken : IsTaken bytes (book_head_codec.text head) rest

head_small : (h : BookHead) → book_head_codec.Fits h → (h.payer < 2 ^ 16) × (h.serial < 2 ^ 64) × (h.rows < 2 ^ 32)
unfolding book_head_codec
head_small h fits = (fits.0.1.1.0, fits.0.1.1.1, fits.1.1.1.1)

three : (a b c : Bool) → (a && (b && c)) ≡ true → (a ≡ true) × (b ≡ true) × (c ≡ true)
three true true c h = (refl, refl, h)
three true false c h = cc
three false b c h = cc

opens_as : (payer serial : ℕ) (bytes : List ℕ) (head : BookHead) (rest : List ℕ) → AreBytes bytes → book_head_in payer serial bytes ≡ Ok (head, rest) → IsOpened payer serial bytes head rest
unfolding book_head_in
opens_as payer serial bytes head rest are h =
    let a = some_or_then Short (book_head_codec.at bytes) (λ head. when_or NotABook (is_head_of payer serial head.0) head >>= λ own. when_or Version (is_version head.0.version) own >>= λ known. when_or (BadRecord 29) (has_terms head.0) known) (head, rest) h in
    let p : BookHead × List ℕ = a.0 in
    let b = when_or_then NotABook (is_head_of payer serial p.0) p (λ own. when_or Version (is_version p.0.version) own >>= λ known. when_or (BadRecord 29) (has_terms p.0) known) (head, rest) a.2 in
    let c = when_or_then Version (is_version p.0.version) p (λ known. when_or (BadRecord 29) (has_terms p.0) known) (head, rest) b.1 in
    let d = when_or_ok (BadRecord 29) (has_terms p.0) p (head, rest) c.1 in
    made p.0 p.1 a.1 b.0 c.0 d.0 d.1
  where
    made : (found : BookHead) (tail : List ℕ) → book_head_codec.at bytes ≡ Some (found, tail) → is_head_of payer serial found ≡ true → is_version found.version ≡ true → has_terms found ≡ true
        → ◌≡◌ {A = BookHead × List ℕ} (found, tail) (head, rest) → IsOpened payer serial bytes head rest
    made found tail at own known terms same =
        let taken = book_head_is.only bytes found tail are at in
        let owns = three (found.name == book_name) (found.payer == payer) (found.serial == serial) own in
        let fit = three (nat_le found.fee largest) (nat_le found.copay largest) (nat_le found.products most_products) terms in
        subst (λ (x : BookHead × List ℕ). IsOpened payer serial bytes x.0 x.1) same (record {
          name = eqb-true found.name book_name owns.0;
          of_payer = eqb-true found.payer payer owns.1;
          of_serial = eqb-true found.serial serial owns.2;
          known = known;
          fee = leb-true found.fee largest fit.0;
          copay = leb-true found.copay largest fit.1;
          few = leb-true found.products most_products fit.2;
          fits = taken.1;
          taken = taken.0;
        })

-- a row of a record fits
row_kept : (version : ℕ) (k : KeptRow) → IsKeptIn version k → IsKeptRow k
unfolding row_codec text_codec
row_kept version k is = record { id = named (k.id.pharmacy == 0) (k.id.number == 0) refl refl is.named; request = is.fits.1.0.0; answer = is.fits.1.1.0 }
  where
    some_from : (n : ℕ) → (n == 0) ≡ false → 0 < n
    some_from n t = grind (arith, nat_tests)

    named : (a b : Bool) → (k.id.pharmacy == 0) ≡ a → (k.id.number == 0) ≡ b → (not a && not b) ≡ true → IsTxn k.id
    named true b p q h = cc
    named false true p q h = cc
    named false false p q h = record { some_pharmacy = some_from k.id.pharmacy p; some_number = some_from k.id.number q; pharmacy_fits = is.fits.0.0; number_fits = is.fits.0.1 }

rows_kept : (version : ℕ) (ks : List KeptRow) → AreKeptIn version ks → AreKeptRows ks
rows_kept version [] are = tt
rows_kept version (k ∷ ks) are = (row_kept version k are.0, rows_kept version ks are.1)

have_one : (ks : List KeptRow) → AreKeptIn 1 ks → HaveOne ks
have_one [] are = tt
have_one (k ∷ ks) are = (are.0.fitting, have_one ks are.1)

-- the text by its version
by_version : (version : ℕ) (bytes : List ℕ) (b : Book) → is_version version ≡ true → bytes ≡ book_text version b → AreKeptIn version (map kept_row b.rows)
    → (bytes ≡ book_text 2 b) ⊎ ((bytes ≡ book_text 1 b) × HaveOne (map kept_row b.rows))
by_version version bytes b known text kept = elim (of_version version known) [
  | inl two ↦ inl (text ∙ ap (λ (v : ℕ). book_text v b) two)
  | inr one ↦ inr (text ∙ ap (λ (v : ℕ). book_text v b) one, have_one (map kept_row b.rows) (subst (λ (v : ℕ). AreKeptIn v (map kept_row b.rows)) one kept))
]

-- what was read part by part is the book
assembled : (payer : ℕ) (settings : BookSettings) (bytes : List ℕ) (b : Book) (head : BookHead) (behind : List ℕ) (plan : Terms) (rest : List ℕ) → IsOpened payer settings.serial bytes head behind
    → AreListed (first_plan head) plan head.products behind rest → (entry_in : AreEntered head.version (first_book payer settings plan) b head.rows rest []) → KeepsRows (first_book payer settings plan) entry_in.rows b → IsTextOf payer settings bytes b
unfolding book_text
assembled payer settings bytes b head behind plan rest opens listed entry_in grown =
    let ks : List KeptRow = map kept_row b.rows in
    let terms : b.plan ≡ priced_as (first_plan head) listed.more = grown.plan ∙ listed.is in
    let prices : listed.more ≡ b.plan.prices = ap (λ (t : Terms). t.prices) (sym terms) in
    let rows : ks ≡ entry_in.rows = grown.rows in
    let products_count : head.products ≡ length b.plan.prices = sym listed.counted ∙ ap (λ (ps : Prices). length ps) prices in
    let rows_count : head.rows ≡ length b.rows = sym entry_in.counted ∙ ap (λ (l : List KeptRow). length l) (sym rows) ∙ length-map b.rows kept_row in
    let same : head ≡ head_of head.version b = same_head head book_name b.payer b.settings.serial b.plan.fee b.plan.copay (length b.plan.prices) (length b.rows)
    opens.name (opens.of_payer ∙ sym grown.payer) (opens.of_serial ∙ ap (λ (t : BookSettings). t.serial) (sym grown.settings)) (ap (λ (t : Terms). t.fee) (sym terms)) (ap (λ (t : Terms). t.copay) (sym terms)) products_count rows_count in
    let text : bytes ≡ book_text head.version b =
    opens.taken.all ∙ ap (λ (x : BookHead). book_head_codec.text x ++ behind) same ∙ ap (λ (t : List ℕ). book_head_codec.text (head_of head.version b) ++ t)
    (listed.taken.all ∙ ap (λ (ps : Prices). products_text ps ++ rest) prices ∙ ap (λ (t : List ℕ). products_text b.plan.prices ++ t) (entry_in.taken.all ∙ append-nil (rows_text entry_in.rows) ∙ ap rows_text (sym rows))) in
    let small = head_small head opens.fits in
    let kept : AreKeptIn head.version ks = subst (λ (l : List KeptRow). AreKeptIn head.version l) (sym rows) entry_in.kept in
    let start : first_book payer settings plan ≡ first_book b.payer b.settings b.plan = same_book payer b.payer settings b.settings plan b.plan (sym grown.payer) (sym grown.settings) (sym grown.plan) in
    let made : IsMade b = ap (λ (l : List KeptRow). added_all (Some (first_book b.payer b.settings b.plan)) l) rows ∙ ap (λ (x : Book). added_all (Some x) entry_in.rows) (sym start) ∙ entry_in.are_added in
    let is_plan : IsPlan (priced_as (first_plan head) listed.more) = record {
      fee = opens.fee;
      copay = opens.copay;
      in_order = subst (λ (t : Terms). IsInOrder t.prices) listed.is listed.in_order;
      few = few_products (length listed.more) head.products listed.counted opens.few;
      priced = listed.priced;
    } in
    record {
      of_payer = grown.payer;
      of_settings = grown.settings;
      book = record {
        fits = record {
          payer = below head.payer b.payer (opens.of_payer ∙ sym grown.payer) (2 ^ 16) small.0;
          serial = below head.serial b.settings.serial (opens.of_serial ∙ ap (λ (t : BookSettings). t.serial) (sym grown.settings)) (2 ^ 64) small.1;
          plan = subst IsPlan (sym terms) is_plan;
          few = below head.rows (length b.rows) rows_count (2 ^ 32) small.2;
          rows = rows_kept head.version ks kept;
        };
        made = made;
      };
      text = by_version head.version bytes b opens.known text kept;
    }
  where
    same_head : (h : BookHead) (n p s f c q r : ℕ) → h.name ≡ n → h.payer ≡ p → h.serial ≡ s → h.fee ≡ f → h.copay ≡ c → h.products ≡ q → h.rows ≡ r
        → h ≡ record { name = n; version = h.version; payer = p; serial = s; fee = f; copay = c; products = q; rows = r }
    same_head h n p s f c q r e1 e2 e3 e4 e5 e6 e7 = λ i. record { name = e1 i; version = h.version; payer = e2 i; serial = e3 i; fee = e4 i; copay = e5 i; products = e6 i; rows = e7 i }

    same_book : (p q : ℕ) (s t : BookSettings) (x y : Terms) → p ≡ q → s ≡ t → x ≡ y → first_book p s x ≡ first_book q t y
    same_book p q s t x y e1 e2 e3 = λ i. record { payer = e1 i; settings = e2 i; plan = e3 i; rows = [] }

    few_products : (m n : ℕ) → m ≡ n → n ≤ most_products → m ≤ most_products
    few_products m n is h = omega arith

    below : (m n : ℕ) → m ≡ n → (limit : ℕ) → m < limit → n < limit
    below m n is limit h = subst (λ (k : ℕ). k < limit) is h

pub is_text : AddedAreKept → (payer : ℕ) (settings : BookSettings) (bytes : List ℕ) (b : Book) → AreBytes bytes → book_in payer settings bytes ≡ Ok b → IsTextOf payer settings bytes b
unfolding book_in rows_in
is_text law payer settings bytes b are h =
    let o = result_then (book_head_in payer settings.serial bytes) (λ head. each_in listed (length bytes) head.0.products (first_plan head.0) head.1 >>= λ plan. rows_in head.0.version (length bytes) head.0.rows (first_book payer settings plan.0) plan.1) b h in
    let head : BookHead = o.0.0 in
    let p = result_then (each_in listed (length bytes) head.products (first_plan head) o.0.1) (λ plan. rows_in head.version (length bytes) head.rows (first_book payer settings plan.0) plan.1) b o.2 in
    let opens = opens_as payer settings.serial bytes head o.0.1 are o.1 in
    let listed = products_are (length bytes) head.products (first_plan head) p.0.0 o.0.1 p.0.1 opens.taken.rest_bytes refl p.1 in
    let entry_in = rows_are head.version (length bytes) head.rows (first_book payer settings p.0.0) b p.0.1 [] listed.taken.rest_bytes (all_read (length bytes) (each_in (row_in head.version) (length bytes) head.rows (first_book payer settings p.0.0) p.0.1) b p.2) in
    assembled payer settings bytes b head o.0.1 p.0.0 p.0.1 opens listed entry_in (law (first_book payer settings p.0.0) entry_in.rows b entry_in.are_added)
