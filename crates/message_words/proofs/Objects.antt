-- Objects of JSON are read back from their text.
use Rattle.std.proofs.Common.{◌≡◌, ◌<◌, ◌≤◌, ◌/◌, ◌%◌, ℕ, zero, suc, Bool, true, false, ◌&&◌, List, [], ◌∷◌, ◌++◌, length, map, Option, Some, option_map, refl, ap, sym, ◌∙◌, arith, append_assoc, decimal}
use Rattle.std.specs.Prelude.{◌==◌}
use Rattle.std.specs.List.{AllByRecursion, list_all}
use Rattle.std.specs.Fmt.{digits, digits_onto, digit_glyph}
use Rattle.std.proofs.lemmas.Bool.{false≢true}
use Rattle.std.proofs.lemmas.List.{length-append}
use Rattle.std.proofs.lemmas.Bool.Decides.{nat_tests}
use Rattle.input_text.specs.Decimals.{is_digit}
use Rattle.input_text.specs.Options.{◌>>=◌}
use Rattle.input_text.specs.Printing.{is_printable}
use Rattle.message_words.specs.Encoded.{is_letter, json_letter, json_letters, json_string}
use Rattle.message_words.proofs.Encoded.{both_true}
use Rattle.message_words.specs.Objects.{Digits, Listing, list_in, listing_after, listing_from, object_in, objects_in, with_front, Member, Read, Value, Word, after, digits_in, key_in, listed, member, member_in, members_in, onto, shown, shown_letter, value_in, word_in}

-- ---- words

quote_shown : (b : ℕ) → (b == 34) ≡ true → is_printable b ≡ true
quote_shown b is = grind (arith, nat_tests)

backslash_shown : (b : ℕ) → (b == 92) ≡ true → is_printable b ≡ true
backslash_shown b is = grind (arith, nat_tests)

not_both : (b : Bool) → b ≡ true → b ≡ false → ⊥
not_both b is not = false≢true (sym not ∙ is)

-- a letter of a word
letter_back : (b : ℕ) (tail : List ℕ) → word_in false (json_letter b ++ tail) ≡ onto (shown_letter b) (word_in false tail)
unfolding json_letter
letter_back b tail = by_tests (b == 34) (b == 92) (is_printable b) refl refl refl
  where
    by_tests : (q k p : Bool) → (b == 34) ≡ q → (b == 92) ≡ k → is_printable b ≡ p → word_in false (json_letter b ++ tail) ≡ onto (shown_letter b) (word_in false tail)
    by_tests true k true e f g = rw (e, g) (rw e refl)
    by_tests true k false e f g = absurd (not_both (is_printable b) (quote_shown b e) g)
    by_tests false true true e f g = rw (e, f, g) (rw (e, f) refl)
    by_tests false true false e f g = absurd (not_both (is_printable b) (backslash_shown b f) g)
    by_tests false false true e f g = rw (e, f, g) (rw (e, f) refl)
    by_tests false false false e f g = rw (e, f, g) refl

word_back : (text rest : List ℕ) → word_in false (json_letters text ++ 34 ∷ rest) ≡ Some (shown text, rest)
word_back [] rest = refl
word_back (b ∷ bs) rest =
    ap (word_in false) (append_assoc (json_letter b) (json_letters bs) (34 ∷ rest)) ∙ letter_back b (json_letters bs ++ 34 ∷ rest) ∙ ap (onto (shown_letter b)) (word_back bs rest)

pub string_back : (text rest : List ℕ) → value_in (json_string text ++ rest) ≡ Some (Word (shown text), rest)
string_back text rest =
    ap (λ (bs : List ℕ). value_in (34 ∷ bs)) (append_assoc (json_letters text) (34 ∷ []) rest) ∙ ap (option_map (λ r. (Word r.0, r.1))) (word_back text rest)

-- ---- numbers

glyph_digit : (n : ℕ) → is_digit (digit_glyph false (n % 10)) ≡ true
glyph_digit n = grind (arith, nat_tests)

one_more : (t : Bool) (k n : ℕ) (acc : List ℕ) → (n / 10 == 0) ≡ t → list_all is_digit (digit_glyph false (n % 10) ∷ acc) ≡ true
    → list_all is_digit (digits_onto k 10 false (n / 10) (digit_glyph false (n % 10) ∷ acc)) ≡ true → list_all is_digit (digits_onto (suc k) 10 false n acc) ≡ true
one_more true k n acc e here more = rw e here
one_more false k n acc e here more = rw e more

all_digits : (k n : ℕ) (acc : List ℕ) → list_all is_digit acc ≡ true → list_all is_digit (digits_onto k 10 false n acc) ≡ true
all_digits zero n acc are = are
all_digits (suc k) n acc are =
    let here : list_all is_digit (digit_glyph false (n % 10) ∷ acc) ≡ true = λ i. glyph_digit n i && are i in
    one_more (n / 10 == 0) k n acc refl here (all_digits k (n / 10) (digit_glyph false (n % 10) ∷ acc) here)

some_more : (t : Bool) (k n : ℕ) (acc : List ℕ) → (n / 10 == 0) ≡ t → 0 < length (digits_onto k 10 false (n / 10) (digit_glyph false (n % 10) ∷ acc)) → 0 < length (digits_onto (suc k) 10 false n acc)
some_more true k n acc e more = rw e (omega arith)
some_more false k n acc e more = rw e more

some_digits : (k n : ℕ) (acc : List ℕ) → 0 < length acc → 0 < length (digits_onto k 10 false n acc)
some_digits zero n acc some = some
some_digits (suc k) n acc some = some_more (n / 10 == 0) k n acc refl (some_digits k (n / 10) (digit_glyph false (n % 10) ∷ acc) (omega arith))

decimal_digits : (n : ℕ) → list_all is_digit (decimal n) ≡ true
unfolding digits
decimal_digits n = all_digits 64 n [] refl

decimal_some : (n : ℕ) → 0 < length (decimal n)
unfolding digits
decimal_some n = some_more (n / 10 == 0) 63 n [] refl (some_digits 63 (n / 10) (digit_glyph false (n % 10) ∷ []) (omega arith))

digits_back : (ds : List ℕ) (b : ℕ) (rest : List ℕ) → list_all is_digit ds ≡ true → is_digit b ≡ false → digits_in (ds ++ b ∷ rest) ≡ (ds, b ∷ rest)
digits_back [] b rest are not = rw not refl
digits_back (d ∷ ds) b rest are not =
    let h = both_true (is_digit d) (list_all is_digit ds) are in
    rw h.0 (ap (λ (r : List ℕ × List ℕ). (d ∷ r.0, r.1)) (digits_back ds b rest h.1 not))

digit_no_quote : (b : ℕ) → is_digit b ≡ true → (b == 34) ≡ false
digit_no_quote b is = grind (arith, nat_tests)

digits_first : (d : ℕ) (xs : List ℕ) → is_digit d ≡ true → value_in (d ∷ xs) ≡ Some (Digits (digits_in (d ∷ xs)).0, (digits_in (d ∷ xs)).1)
digits_first d xs is = rw (digit_no_quote d is, is) refl

digits_value : (ds : List ℕ) (b : ℕ) (rest : List ℕ) → 0 < length ds → list_all is_digit ds ≡ true → is_digit b ≡ false → value_in (ds ++ b ∷ rest) ≡ Some (Digits ds, b ∷ rest)
digits_value [] b rest some are not = absurd (omega arith)
digits_value (d ∷ ds) b rest some are not =
    let h = both_true (is_digit d) (list_all is_digit ds) are in
    digits_first d (ds ++ b ∷ rest) h.0 ∙ ap (λ (r : List ℕ × List ℕ). Some (Digits r.0, r.1)) (digits_back (d ∷ ds) b rest are not)

pub number_back : (n b : ℕ) (rest : List ℕ) → is_digit b ≡ false → value_in (decimal n ++ b ∷ rest) ≡ Some (Digits (decimal n), b ∷ rest)
number_back n b rest not = digits_value (decimal n) b rest (decimal_some n) (decimal_digits n) not

-- ---- members

-- what a member's value is before it is written
pub data Cell : Type 0 where
  text : List ℕ → Cell
  count : ℕ → Cell

pub record Entry : Type 0 where
  pub key : List ℕ
  pub cell : Cell

abbrev pub entry : (key : List ℕ) → Cell → Entry
entry key cell = record { key = key; cell = cell }

abbrev pub cell_text : Cell → List ℕ
cell_text (text w) = json_string w
cell_text (count n) = decimal n

abbrev pub cell_seen : Cell → Value
cell_seen (text w) = Word (shown w)
cell_seen (count n) = Digits (decimal n)

abbrev pub entry_seen : Entry → Member
entry_seen e = member e.key (cell_seen e.cell)

-- an entry, and then this
abbrev pub entry_then : Entry → List ℕ → List ℕ
entry_then e rest = 34 ∷ (e.key ++ 34 ∷ 58 ∷ (cell_text e.cell ++ rest))

abbrev pub Plain : Entry → Type 0
Plain e = list_all is_letter e.key ≡ true

letter_no_quote : (b : ℕ) → is_letter b ≡ true → (b == 34) ≡ false
letter_no_quote b is = grind (arith, nat_tests)

letter_no_backslash : (b : ℕ) → is_letter b ≡ true → (b == 92) ≡ false
letter_no_backslash b is = grind (arith, nat_tests)

letter_shown : (b : ℕ) → is_letter b ≡ true → shown_letter b ≡ b
letter_shown b is = grind (arith, nat_tests)

pub plain_shown : (key : List ℕ) → list_all is_letter key ≡ true → shown key ≡ key
plain_shown [] are = refl
plain_shown (b ∷ bs) are =
    let h = both_true (is_letter b) (list_all is_letter bs) are in
    λ i. letter_shown b h.0 i ∷ plain_shown bs h.1 i

plain_word : (key rest : List ℕ) → list_all is_letter key ≡ true → word_in false (key ++ 34 ∷ rest) ≡ Some (key, rest)
plain_word [] rest are = refl
plain_word (b ∷ bs) rest are =
    let h = both_true (is_letter b) (list_all is_letter bs) are in
    rw (letter_no_quote b h.0, letter_no_backslash b h.0) (ap (onto b) (plain_word bs rest h.1))

key_back : (key rest : List ℕ) → list_all is_letter key ≡ true → key_in (34 ∷ (key ++ 34 ∷ 58 ∷ rest)) ≡ Some (key, rest)
key_back key rest are = ap (λ (o : Read (List ℕ)). o >>= (λ r. option_map (λ tail. (r.0, tail)) (after 58 r.1))) (plain_word key (58 ∷ rest) are)

cell_back : (c : Cell) (b : ℕ) (rest : List ℕ) → is_digit b ≡ false → value_in (cell_text c ++ b ∷ rest) ≡ Some (cell_seen c, b ∷ rest)
cell_back (text w) b rest not = string_back w (b ∷ rest)
cell_back (count n) b rest not = number_back n b rest not

member_back : (e : Entry) (b : ℕ) (rest : List ℕ) → Plain e → is_digit b ≡ false → member_in (entry_then e (b ∷ rest)) ≡ Some (entry_seen e, b ∷ rest)
member_back e b rest plain not =
    ap (λ (o : Read (List ℕ)). o >>= (λ k. option_map (λ v. (member k.0 v.0, v.1)) (value_in k.1))) (key_back e.key (cell_text e.cell ++ b ∷ rest) plain)
    ∙ ap (option_map (λ v. (member e.key v.0, v.1))) (cell_back e.cell b rest not)

-- further members, the end of the object, and then this
abbrev pub more_then : List Entry → List ℕ → List ℕ
more_then [] rest = 125 ∷ rest
more_then (e ∷ es) rest = 44 ∷ entry_then e (more_then es rest)

abbrev pub AllPlain : List Entry → Type 0
AllPlain es = AllByRecursion Plain es

pub members_back : (most : ℕ) (e : Entry) (es : List Entry) (rest : List ℕ) → length es < most → Plain e → AllPlain es
    → members_in most (entry_then e (more_then es rest)) ≡ Some (map entry_seen (e ∷ es), rest)
members_back zero e es rest lt plain plains = absurd (omega arith)
members_back (suc most) e [] rest lt plain plains = ap (λ (o : Read Member). o >>= (λ m. listed 125 (members_in most) m.0 m.1)) (member_back e 125 rest plain refl)
members_back (suc most) e (f ∷ fs) rest lt plain plains =
    ap (λ (o : Read Member). o >>= (λ m. listed 125 (members_in most) m.0 m.1)) (member_back e 44 (entry_then f (more_then fs rest)) plain refl)
    ∙ ap (option_map (λ r. (entry_seen e ∷ r.0, r.1))) (members_back most f fs rest (omega arith) plains.0 plains.1)

-- ---- objects

pub record Object : Type 0 where
  pub first : Entry
  pub others : List Entry

abbrev pub object_seen : Object → List Member
object_seen o = map entry_seen (o.first ∷ o.others)

abbrev pub object_then : Object → List ℕ → List ℕ
object_then o rest = 123 ∷ entry_then o.first (more_then o.others rest)

pub record Fits (most : ℕ) (o : Object) : Type 0 where
  pub few : length o.others < most
  pub first : Plain o.first
  pub others : AllPlain o.others

object_back : (most : ℕ) (o : Object) (rest : List ℕ) → Fits most o → object_in most (object_then o rest) ≡ Some (object_seen o, rest)
object_back most o rest fits = members_back most o.first o.others rest fits.few fits.first fits.others

-- further objects, the end of the list, and then this
abbrev pub objects_then : List Object → List ℕ → List ℕ
objects_then [] rest = 93 ∷ rest
objects_then (o ∷ os) rest = 44 ∷ object_then o (objects_then os rest)

objects_back : (turns most : ℕ) (o : Object) (os : List Object) (rest : List ℕ) → length os < turns → Fits most o → AllByRecursion (Fits most) os
    → objects_in turns most (object_then o (objects_then os rest)) ≡ Some (map object_seen (o ∷ os), rest)
objects_back zero most o os rest lt fits all = absurd (omega arith)
objects_back (suc turns) most o [] rest lt fits all = ap (λ (r : Read (List Member)). r >>= (λ x. listed 93 (objects_in turns most) x.0 x.1)) (object_back most o (93 ∷ rest) fits)
objects_back (suc turns) most o (p ∷ ps) rest lt fits all =
    ap (λ (r : Read (List Member)). r >>= (λ x. listed 93 (objects_in turns most) x.0 x.1)) (object_back most o (44 ∷ object_then p (objects_then ps rest)) fits)
    ∙ ap (option_map (λ r. (object_seen o ∷ r.0, r.1))) (objects_back turns most p ps rest (omega arith) all.0 all.1)

-- a list, and then this
abbrev pub list_then : List Object → List ℕ → List ℕ
list_then [] rest = 93 ∷ rest
list_then (o ∷ os) rest = object_then o (objects_then os rest)

pub list_back : (most : ℕ) (os : List Object) (rest : List ℕ) → length os ≤ most → AllByRecursion (Fits most) os → list_in most (list_then os rest) ≡ Some (map object_seen os, rest)
list_back most [] rest le all = refl
list_back most (o ∷ os) rest le all = objects_back most most o os rest (omega arith) all.0 all.1

-- ---- up to a list

abbrev behind_value : (List ℕ → Option Listing) → (key : List ℕ) → List ℕ → Option Listing
behind_value others key bytes = value_in bytes >>= (λ v. option_map (with_front (member key v.0)) (after 44 v.1 >>= others))

digit_no_bracket : (b : ℕ) → is_digit b ≡ true → (b == 91) ≡ false
digit_no_bracket b is = grind (arith, nat_tests)

digits_no_list : (others : List ℕ → Option Listing) (most : ℕ) (key ds rest : List ℕ) → 0 < length ds → list_all is_digit ds ≡ true
    → listing_after others most key (ds ++ rest) ≡ behind_value others key (ds ++ rest)
digits_no_list others most key [] rest some are = absurd (omega arith)
digits_no_list others most key (d ∷ ds) rest some are = rw (digit_no_bracket d (both_true (is_digit d) (list_all is_digit ds) are).0) refl

no_list : (others : List ℕ → Option Listing) (most : ℕ) (key : List ℕ) (c : Cell) (rest : List ℕ) → listing_after others most key (cell_text c ++ rest) ≡ behind_value others key (cell_text c ++ rest)
no_list others most key (text w) rest = refl
no_list others most key (count n) rest = digits_no_list others most key (decimal n) rest (decimal_some n) (decimal_digits n)

-- members, each with a comma after it, and then this
abbrev pub front_then : List Entry → List ℕ → List ℕ
front_then [] rest = rest
front_then (e ∷ es) rest = entry_then e (44 ∷ front_then es rest)

pub listing_back : (turns most : ℕ) (es : List Entry) (key : List ℕ) (os : List Object) (rest : List ℕ) → length es < turns → length os ≤ most → AllPlain es → list_all is_letter key ≡ true
    → AllByRecursion (Fits most) os
    → listing_from turns most (front_then es (34 ∷ (key ++ 34 ∷ 58 ∷ 91 ∷ list_then os rest))) ≡ Some (record { front = map entry_seen es; key = key; list = map object_seen os })
listing_back zero most es key os rest lt le plains plain all = absurd (omega arith)
listing_back (suc turns) most [] key os rest lt le plains plain all =
    ap (λ (o : Read (List ℕ)). o >>= (λ k. listing_after (listing_from turns most) most k.0 k.1)) (key_back key (91 ∷ list_then os rest) plain)
    ∙ ap (option_map (λ r. record { front = []; key = key; list = r.0 })) (list_back most os rest le all)
listing_back (suc turns) most (e ∷ es) key os rest lt le plains plain all =
    let tail : List ℕ = front_then es (34 ∷ (key ++ 34 ∷ 58 ∷ 91 ∷ list_then os rest)) in
    ap (λ (o : Read (List ℕ)). o >>= (λ k. listing_after (listing_from turns most) most k.0 k.1)) (key_back e.key (cell_text e.cell ++ 44 ∷ tail) plains.0)
    ∙ no_list (listing_from turns most) most e.key e.cell (44 ∷ tail)
    ∙ ap (λ (o : Read Value). o >>= (λ v. option_map (with_front (member e.key v.0)) (after 44 v.1 >>= listing_from turns most))) (cell_back e.cell 44 tail refl)
    ∙ ap (option_map (with_front (entry_seen e))) (listing_back turns most es key os rest (omega arith) le plains.1 plain all)

-- ---- a text is longer than its list

entry_longer : (e : Entry) (rest : List ℕ) → length rest < length (entry_then e rest)
entry_longer e rest = omega (arith, length-append e.key (34 ∷ 58 ∷ (cell_text e.cell ++ rest)), length-append (cell_text e.cell) rest)

more_longer : (es : List Entry) (rest : List ℕ) → length rest < length (more_then es rest)
more_longer [] rest = omega arith
more_longer (e ∷ es) rest = omega (arith, entry_longer e (more_then es rest), more_longer es rest)

object_longer : (o : Object) (rest : List ℕ) → length rest < length (object_then o rest)
object_longer o rest = omega (arith, entry_longer o.first (more_then o.others rest), more_longer o.others rest)

objects_longer : (os : List Object) (rest : List ℕ) → length os < length (objects_then os rest)
objects_longer [] rest = omega arith
objects_longer (o ∷ os) rest = omega (arith, object_longer o (objects_then os rest), objects_longer os rest)

pub list_longer : (os : List Object) (rest : List ℕ) → length os < length (list_then os rest)
list_longer [] rest = omega arith
list_longer (o ∷ os) rest = omega (arith, object_longer o (objects_then os rest), objects_longer os rest)

pub front_longer : (es : List Entry) (rest : List ℕ) → length rest ≤ length (front_then es rest)
front_longer [] rest = omega arith
front_longer (e ∷ es) rest = omega (arith, entry_longer e (44 ∷ front_then es rest), front_longer es rest)
