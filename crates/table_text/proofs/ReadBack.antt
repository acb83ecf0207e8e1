-- What is written as CSV is what a writer of CSV writes, so a reader gives it back.
use Rattle.std.proofs.Common.{◌≡◌, ◌<◌, ◌≤◌, ◌+◌, ◌%◌, ◌^◌, ◌==◌, ◌++◌, ◌∷◌, ◌∙◌, [], ℕ, List, Bool, true, false, Some, None, length, map, refl, sym, ap, append_assoc, append-nil, arith}
use Rattle.std.specs.Prelude.{◌||◌, codes, decimal, All}
use Rattle.std.specs.List.{flat_map, list_any}
use Rattle.std.proofs.lemmas.Bool.Decides.{nat_tests}
use Rattle.std.proofs.lemmas.List.Folds.{list_any-append, list_any_none}
use Rattle.std.proofs.lemmas.List.Elements.{All-head, All-tail, All-nil, All-cons, All-weaker}
use Rattle.std.proofs.lemmas.List.{length-map}
use Rattle.std.proofs.lemmas.Fmt.{decimal_by_steps}
use Rattle.csv.specs.Machine.{next_record}
use Rattle.csv.specs.Reading.{AreRecords, Reached, default_config}
use Rattle.csv.specs.Writing.{default_writer, escaped, field_text, fields_text, is_blank, needs_byte, row_body, row_text}
use Rattle.csv.specs.declared.parser.State.TheVariants as state
use Rattle.csv.proofs.RoundTrip.{read-write}
use Rattle.input_text.specs.Printing.{printed, printed_byte, hex_digit}
use Rattle.table_text.specs.Members.{Value, Number, Text, Named, Flag, Nothing, Member, Row}
use Rattle.table_text.specs.Quoting.{is_special, csv_byte, csv_text, quoted}
use Rattle.table_text.specs.Values.{csv_value, flag_text}
use Rattle.table_text.specs.Rows.{behind_commas, separated, csv_member, csv_row, rows_text, head_text}
use Rattle.table_text.specs.ReadBack.{csv_given, row_given, IsHeld, IsTableRow, CsvIsReadBack}
use Rattle.table_text.specs.declared.layout.Style.TheVariants.{Csv}

-- a byte calls for quotation marks exactly where it is a comma or one of them, as it is printed too
byte_needs : (b : ℕ) → list_any (needs_byte default_writer) (printed_byte b) ≡ is_special b
unfolding printed_byte
byte_needs b = grind (arith, nat_tests)

text_needs : (bytes : List ℕ) → list_any (needs_byte default_writer) (printed bytes) ≡ list_any is_special bytes
text_needs [] = refl
text_needs (b ∷ more) =
    list_any-append (needs_byte default_writer) (printed_byte b) (printed more)
    ∙ (λ i. byte_needs b i || text_needs more i)

escaped-append : (xs ys : List ℕ) → escaped default_writer (xs ++ ys) ≡ escaped default_writer xs ++ escaped default_writer ys
unfolding escaped
escaped-append [] ys = refl
escaped-append (b ∷ more) ys = grind (arith, nat_tests, escaped-append more ys)

byte_escaped : (b : ℕ) → escaped default_writer (printed_byte b) ≡ csv_byte b
unfolding escaped printed_byte csv_byte
byte_escaped b = grind (arith, nat_tests)

text_escaped : (bytes : List ℕ) → escaped default_writer (printed bytes) ≡ flat_map csv_byte bytes
unfolding escaped
text_escaped [] = refl
text_escaped (b ∷ more) =
    escaped-append (printed_byte b) (printed more)
    ∙ (λ i. byte_escaped b i ++ text_escaped more i)

-- a text is written as a writer of CSV writes what is printed of it
pub text_is : (bytes : List ℕ) → csv_text bytes ≡ field_text default_writer (printed bytes)
unfolding csv_text quoted
text_is bytes = rw (text_needs bytes, text_escaped bytes) refl

-- digits call for no quotation marks
digit_plain : (b : ℕ) → 48 ≤ b → b ≤ 57 → needs_byte default_writer b ≡ false
digit_plain b low high = grind (arith, nat_tests)

-- bytes that call for none are written as they are
plain_is : (text : List ℕ) → list_any (needs_byte default_writer) text ≡ false → field_text default_writer text ≡ text
plain_is text plain = rw plain refl

-- so numbers do
decimal_plain : (n : ℕ) → n < 2 ^ 64 → list_any (needs_byte default_writer) (decimal n) ≡ false
decimal_plain n fits =
    decimal_by_steps (λ (m : ℕ) (ds : List ℕ). list_any (needs_byte default_writer) ds ≡ false)
    (λ (m : ℕ) (lt : m < 10). λ i. digit_plain (48 + m) (omega arith) (omega arith) i || false)
    (λ (m : ℕ) (ds : List ℕ) (le : 10 ≤ m) (before : list_any (needs_byte default_writer) ds ≡ false).
    list_any-append (needs_byte default_writer) ds ((48 + m % 10) ∷ [])
    ∙ (λ i. before i || (digit_plain (48 + m % 10) (omega arith) (omega arith) i || false)))
    n fits

number_is : (n : ℕ) → n < 2 ^ 64 → decimal n ≡ field_text default_writer (decimal n)
number_is n fits = sym (plain_is (decimal n) (decimal_plain n fits))

named_plain : (letters : List ℕ) (n : ℕ) → list_any is_special letters ≡ false → n < 2 ^ 64
    → list_any (needs_byte default_writer) (printed letters ++ decimal n) ≡ false
named_plain letters n clear fits =
    list_any-append (needs_byte default_writer) (printed letters) (decimal n)
    ∙ (λ i. (text_needs letters ∙ clear) i || decimal_plain n fits i)

-- a value is written as a writer of CSV writes what is given of it
pub value_is : (v : Value) → IsHeld v → csv_value v ≡ field_text default_writer (csv_given v)
unfolding escaped
value_is (Number number) held = number_is number held
value_is (Text bytes) held = text_is bytes
value_is (Named letters number) held = sym (plain_is (printed letters ++ decimal number) (named_plain letters number held.0 held.1))
value_is (Flag true) held = refl
value_is (Flag false) held = refl
value_is Nothing held = refl

-- texts after commas, and with commas between them
behind_is : {A : Type 0} (text given : A → List ℕ) (xs : List A) → All (λ x. text x ≡ field_text default_writer (given x)) xs
    → behind_commas text xs ≡ fields_text default_writer (map given xs)
unfolding fields_text
behind_is text given [] are = refl
behind_is {A} text given (x ∷ more) are =
    let each = λ (y : A). text y ≡ field_text default_writer (given y) in
    λ i. 44 ∷ (All-head each x more are i ++ behind_is text given more (All-tail each x more are) i)

separated_is : {A : Type 0} (text given : A → List ℕ) (x : A) (more : List A) → All (λ y. text y ≡ field_text default_writer (given y)) (x ∷ more)
    → separated text (x ∷ more) ≡ row_body default_writer (map given (x ∷ more))
separated_is {A} text given x more are =
    let each = λ (y : A). text y ≡ field_text default_writer (given y) in
    λ i. All-head each x more are i ++ behind_is text given more (All-tail each x more are) i

-- a line of two texts or more is a record of what is given of them
line_is : {A : Type 0} (text given : A → List ℕ) (xs : List A) → 2 ≤ length xs → All (λ y. text y ≡ field_text default_writer (given y)) xs
    → separated text xs ++ codes "\n" ≡ row_text default_writer (map given xs)
unfolding is_blank
line_is text given [] some are = absurd (omega (arith, some))
line_is text given (x ∷ []) some are = absurd (omega (arith, some))
line_is text given (x ∷ y ∷ more) some are = ap (λ (t : List ℕ). t ++ codes "\n") (separated_is text given x (y ∷ more) are)

all_held : (row : Row) → All (λ (m : Member). IsHeld m.value) row
    → All (λ (m : Member). csv_member m ≡ field_text default_writer (csv_given m.value)) row
all_held row held = All-weaker (λ (m : Member). IsHeld m.value) (λ (m : Member). csv_member m ≡ field_text default_writer (csv_given m.value))
    (λ (m : Member) (h : IsHeld m.value). value_is m.value h) row held

row_is : (row : Row) → IsTableRow row → csv_row row ≡ row_text default_writer (row_given row)
unfolding csv_row
row_is row is = line_is csv_member (λ (m : Member). csv_given m.value) row is.columns (all_held row is.held)

all_named : (names : List (List ℕ)) → All (λ (t : List ℕ). csv_text t ≡ field_text default_writer (printed t)) names
all_named [] = All-nil (λ (t : List ℕ). csv_text t ≡ field_text default_writer (printed t))
all_named (x ∷ more) = All-cons (λ (t : List ℕ). csv_text t ≡ field_text default_writer (printed t)) x more (text_is x) (all_named more)

head_is : (names : List (List ℕ)) → 2 ≤ length names → head_text names ≡ row_text default_writer (map printed names)
unfolding head_text
head_is names some = line_is csv_text printed names some (all_named names)

-- a record, and those that follow
reached_more : (text tail : List ℕ) (fields : List (List ℕ)) (rows : List (List (List ℕ))) → 2 ≤ length fields → text ≡ row_text default_writer fields
    → Reached default_config state.StartRecord tail rows state.StartRecord []
    → Reached default_config state.StartRecord (text ++ tail) (fields ∷ rows) state.StartRecord []
unfolding Reached
reached_more text tail [] rows some is more = absurd (omega (arith, some))
reached_more text tail (x ∷ fields) rows some is more = (
  (x ∷ fields, state.StartRecord, tail),
  ap (λ (t : List ℕ). next_record default_config state.StartRecord [] [] (t ++ tail)) is ∙ read-write (x ∷ fields) tail,
  refl,
  more,
)

reached_rows : (rows : List Row) → All IsTableRow rows
    → Reached default_config state.StartRecord (rows_text Csv rows) (map row_given rows) state.StartRecord []
unfolding Reached rows_text
reached_rows [] are = (refl, refl)
reached_rows (row ∷ more) are =
    let is = All-head IsTableRow row more are in
    reached_more (csv_row row) (rows_text Csv more) (row_given row) (map row_given more) (omega (arith, is.columns, length-map row (λ (m : Member). csv_given m.value)))
    (row_is row is) (reached_rows more (All-tail IsTableRow row more are))

pub csv_read_back : CsvIsReadBack
unfolding next_record
csv_read_back names rows some are = (
  state.StartRecord,
  [],
  reached_more (head_text names) (rows_text Csv rows) (map printed names) (map row_given rows) (omega (arith, some, length-map names printed))
      (head_is names some) (reached_rows rows are),
  refl,
)
