-- What is written as JSON is what a writer of JSON writes, with newlines between, so a reader gives it back.
use Rattle.std.proofs.Common.{◌≡◌, ◌<◌, ◌≤◌, ◌+◌, ◌%◌, ◌^◌, ◌/◌, ◌⊎◌, ◌++◌, ◌∷◌, ◌∙◌, [], ℕ, List, true, false, inl, inr, map, refl, sym, ap, subst, append_assoc, append-nil, arith}
use Rattle.std.specs.Prelude.{codes, decimal, nat_le, All, option_and_then}
use Rattle.std.proofs.lemmas.Bool.{cases_Bool, cases_eq, cases_lt, and_parts, leb-true, ne_eqb, lt-ltb, le-ltb}
use Rattle.std.proofs.lemmas.List.Elements.{All-head, All-tail}
use Rattle.std.proofs.lemmas.Grind.{flat_map-append}
use Rattle.std.proofs.lemmas.Fmt.{decimal_by_steps}
use Rattle.json.specs.Token.{Token, begin_object, end_object, begin_array, end_array, key, string as string_token, number as number_token, boolean as boolean_token, null as null_token}
use Rattle.json.specs.Json.{array, value, if_last, max_depth, document}
use Rattle.json.specs.Print.{escape_byte, escape, quoted, token_text, IsPrintable, ArePrintable}
use Rattle.json.specs.Spaced.{AreGaps, print_spaced}
use Rattle.json.specs.Tree.{json_tokens, items_tokens, members_tokens, depth, items_depth, members_depth}
use Rattle.json.proofs.Printed.Strings.{escape_byte_plain}
use Rattle.json.proofs.Printed.Decimals.{IsNumber-decimal}
use Rattle.json.proofs.Printed.Tokens.{tokens-print_spaced}
use Rattle.json.proofs.Printed.Trees.{value-json_tokens}
use Rattle.input_text.specs.Printing.{printed, printed_byte, is_printable, hex_digit}
use Rattle.table_text.specs.Members.{Value, Number, Text, Named, Flag, Nothing, Member, Row}
use Rattle.table_text.specs.Quoting.{json_byte, json_letters, json_text}
use Rattle.table_text.specs.Values.{json_value, json_named}
use Rattle.table_text.specs.Rows.{behind_commas, separated, json_member, json_object, rows_text, list_text}
use Rattle.table_text.specs.JsonBack.{json_given, members_given, items_given, HasWord, HasWords, JsonIsReadBack}
use Rattle.table_text.specs.declared.layout.Style.TheVariants as style
use Rattle.table_text.proofs.Separating.{separated_lists}

-- ---- texts

escape-append : (xs ys : List ℕ) → escape (xs ++ ys) ≡ escape xs ++ escape ys
escape-append xs ys = flat_map-append escape_byte xs ys

abbrev Escaped : ℕ → Type 0
Escaped b = escape (printed_byte b) ≡ json_byte b

quote_escaped : Escaped 34
unfolding escape_byte printed_byte json_byte
quote_escaped = refl

backslash_escaped : Escaped 92
unfolding escape_byte printed_byte json_byte
backslash_escaped = refl

-- the separators are printed as a backslash and a letter
fields_escaped : Escaped 28
unfolding escape_byte printed_byte json_byte
fields_escaped = refl

groups_escaped : Escaped 29
unfolding escape_byte printed_byte json_byte
groups_escaped = refl

segments_escaped : Escaped 30
unfolding escape_byte printed_byte json_byte
segments_escaped = refl

-- a printable byte but these stands for itself in both
plain_escaped : (b : ℕ) → (b ≡ 34 → ⊥) → (b ≡ 92 → ⊥) → is_printable b ≡ true → Escaped b
unfolding printed_byte json_byte
plain_escaped b q s is =
    let low : 32 ≤ b = omega (arith, leb-true 32 b (and_parts (nat_le 32 b) (nat_le b 126) is).0) in
    rw (
      ne_eqb b 34 q,
      ne_eqb b 92 s,
      ne_eqb b 28 (λ e. omega arith),
      ne_eqb b 29 (λ e. omega arith),
      ne_eqb b 30 (λ e. omega arith),
      is,
      escape_byte_plain b q s low,
    )

-- a hexadecimal digit stands for itself
hex_stands : (n : ℕ) → escape_byte (hex_digit n) ≡ hex_digit n ∷ []
hex_stands n = go (cases_lt n 10)
  where
    go : (n < 10) ⊎ (10 ≤ n) → escape_byte (hex_digit n) ≡ hex_digit n ∷ []
    go (inl lt) = rw (lt-ltb n 10 lt) (escape_byte_plain (48 + n) (λ e. omega arith) (λ e. omega arith) (omega arith))
    go (inr le) = rw (le-ltb n 10 le) (escape_byte_plain (87 + n) (λ e. omega arith) (λ e. omega arith) (omega arith))

-- what is printed of another byte begins with a backslash
marked_escaped : (high low : ℕ) → escape (92 ∷ 120 ∷ hex_digit high ∷ hex_digit low ∷ []) ≡ 92 ∷ 92 ∷ 120 ∷ hex_digit high ∷ hex_digit low ∷ []
unfolding escape_byte
marked_escaped high low = λ i. 92 ∷ 92 ∷ 120 ∷ (hex_stands high i ++ (hex_stands low i ++ []))

other_escaped : (b : ℕ) → (b ≡ 34 → ⊥) → (b ≡ 92 → ⊥) → (b ≡ 28 → ⊥) → (b ≡ 29 → ⊥) → (b ≡ 30 → ⊥) → is_printable b ≡ false → Escaped b
unfolding printed_byte json_byte
other_escaped b q s f g r not =
    rw (ne_eqb b 34 q, ne_eqb b 92 s, ne_eqb b 28 f, ne_eqb b 29 g, ne_eqb b 30 r, not) (marked_escaped (b / 16) (b % 16))

-- a byte between quotation marks is what is printed of it, escaped
byte_escaped : (b : ℕ) → Escaped b
byte_escaped b = go (cases_eq b 34) (cases_eq b 92) (cases_eq b 28) (cases_eq b 29) (cases_eq b 30) (cases_Bool (is_printable b))
  where
    go : (b ≡ 34) ⊎ (b ≡ 34 → ⊥) → (b ≡ 92) ⊎ (b ≡ 92 → ⊥) → (b ≡ 28) ⊎ (b ≡ 28 → ⊥) → (b ≡ 29) ⊎ (b ≡ 29 → ⊥) → (b ≡ 30) ⊎ (b ≡ 30 → ⊥)
        → (is_printable b ≡ true) ⊎ (is_printable b ≡ false) → Escaped b
    go (inl e) s f g r p = subst Escaped (sym e) quote_escaped
    go (inr q) (inl e) f g r p = subst Escaped (sym e) backslash_escaped
    go (inr q) (inr s) (inl e) g r p = subst Escaped (sym e) fields_escaped
    go (inr q) (inr s) (inr f) (inl e) r p = subst Escaped (sym e) groups_escaped
    go (inr q) (inr s) (inr f) (inr g) (inl e) p = subst Escaped (sym e) segments_escaped
    go (inr q) (inr s) (inr f) (inr g) (inr r) (inl is) = plain_escaped b q s is
    go (inr q) (inr s) (inr f) (inr g) (inr r) (inr not) = other_escaped b q s f g r not

letters_escaped : (bytes : List ℕ) → escape (printed bytes) ≡ json_letters bytes
letters_escaped [] = refl
letters_escaped (b ∷ more) =
    escape-append (printed_byte b) (printed more)
    ∙ (λ i. byte_escaped b i ++ letters_escaped more i)

-- digits stand for themselves
digit_stands : (b : ℕ) → 48 ≤ b → b ≤ 57 → escape_byte b ≡ b ∷ []
digit_stands b low high = escape_byte_plain b (λ e. omega arith) (λ e. omega arith) (omega arith)

decimal_escaped : (n : ℕ) → n < 2 ^ 64 → escape (decimal n) ≡ decimal n
decimal_escaped n fits =
    decimal_by_steps (λ (m : ℕ) (ds : List ℕ). escape ds ≡ ds)
    (λ (m : ℕ) (lt : m < 10). λ i. digit_stands (48 + m) (omega arith) (omega arith) i ++ [])
    (λ (m : ℕ) (ds : List ℕ) (le : 10 ≤ m) (before : escape ds ≡ ds).
    escape-append ds ((48 + m % 10) ∷ [])
    ∙ (λ i. before i ++ (digit_stands (48 + m % 10) (omega arith) (omega arith) i ++ [])))
    n fits

text_quoted : (bytes : List ℕ) → json_text bytes ≡ quoted (printed bytes)
unfolding json_text
text_quoted bytes = ap (λ (t : List ℕ). 34 ∷ (t ++ 34 ∷ [])) (sym (letters_escaped bytes))

named_quoted : (letters : List ℕ) (n : ℕ) → n < 2 ^ 64 → json_named letters n ≡ quoted (printed letters ++ decimal n)
unfolding json_named
named_quoted letters n fits =
    ap (λ (t : List ℕ). 34 ∷ t)
    (sym (append_assoc (json_letters letters) (decimal n) (34 ∷ []))
    ∙ ap (λ (t : List ℕ). t ++ 34 ∷ []) ((λ i. sym (letters_escaped letters) i ++ sym (decimal_escaped n fits) i) ∙ sym (escape-append (printed letters) (decimal n))))

-- ---- values

abbrev value_token : Value → Token
value_token (Number n) = number_token (decimal n)
value_token (Text bytes) = string_token (printed bytes)
value_token (Named letters n) = string_token (printed letters ++ decimal n)
value_token (Flag holds) = boolean_token holds
value_token Nothing = null_token

token_is : (v : Value) → json_tokens (json_given v) ≡ value_token v ∷ []
token_is (Number n) = refl
token_is (Text bytes) = refl
token_is (Named letters n) = refl
token_is (Flag holds) = refl
token_is Nothing = refl

value_is : (v : Value) → HasWord v → json_value v ≡ token_text (value_token v)
value_is (Number n) held = refl
value_is (Text bytes) held = text_quoted bytes
value_is (Named letters n) held = named_quoted letters n held
value_is (Flag true) held = refl
value_is (Flag false) held = refl
value_is Nothing held = refl

value_printable : (v : Value) → HasWord v → IsPrintable (value_token v)
value_printable (Number n) held = IsNumber-decimal n held
value_printable (Text bytes) held = tt
value_printable (Named letters n) held = tt
value_printable (Flag holds) held = tt
value_printable Nothing held = tt

value_shallow : (v : Value) → depth (json_given v) ≡ 0
value_shallow (Number n) = refl
value_shallow (Text bytes) = refl
value_shallow (Named letters n) = refl
value_shallow (Flag holds) = refl
value_shallow Nothing = refl

-- ---- rows as tokens with gaps before them

abbrev Spaced : Type 0
Spaced = List (List ℕ × Token)

abbrev members_spaced : Row → Spaced → Spaced
members_spaced [] rest = ([], end_object) ∷ rest
members_spaced (m ∷ more) rest = ([], key (printed m.name)) ∷ ([], value_token m.value) ∷ members_spaced more rest

abbrev rows_spaced : List Row → Spaced
rows_spaced [] = (codes "\n", end_array) ∷ []
rows_spaced (row ∷ more) = (codes "\n", begin_object) ∷ members_spaced row (rows_spaced more)

abbrev list_spaced : List Row → Spaced
list_spaced rows = ([], begin_array) ∷ rows_spaced rows

-- a value after its name
printed_value : (v : Value) (rest : Spaced) → HasWord v → print_spaced false (([], value_token v) ∷ rest) ≡ json_value v ++ print_spaced true rest
unfolding print_spaced
printed_value (Number n) rest held = refl
printed_value (Text bytes) rest held = ap (λ (t : List ℕ). t ++ print_spaced true rest) (sym (text_quoted bytes))
printed_value (Named letters n) rest held = ap (λ (t : List ℕ). t ++ print_spaced true rest) (sym (named_quoted letters n held))
printed_value (Flag true) rest held = refl
printed_value (Flag false) rest held = refl
printed_value Nothing rest held = refl

-- a member, without the comma before it
printed_member : (m : Member) (rest : Spaced) → HasWord m.value
    → (quoted (printed m.name) ++ 58 ∷ []) ++ print_spaced false (([], value_token m.value) ∷ rest) ≡ json_member m ++ print_spaced true rest
unfolding json_member
printed_member m rest held =
    ap (λ (t : List ℕ). (quoted (printed m.name) ++ 58 ∷ []) ++ t) (printed_value m.value rest held)
    ∙ (ap (λ (t : List ℕ). (t ++ 58 ∷ []) ++ (json_value m.value ++ print_spaced true rest)) (sym (text_quoted m.name))
    ∙ (append_assoc (json_text m.name) (58 ∷ []) (json_value m.value ++ print_spaced true rest)
    ∙ sym (append_assoc (json_text m.name) (58 ∷ json_value m.value) (print_spaced true rest))))

printed_members : (row : Row) (rest : Spaced) → HasWords row
    → print_spaced true (members_spaced row rest) ≡ behind_commas json_member row ++ (125 ∷ print_spaced true rest)
unfolding print_spaced
printed_members [] rest held = refl
printed_members (m ∷ more) rest held =
    let each = λ (m : Member). HasWord m.value in
    ap (λ (t : List ℕ). 44 ∷ t)
    (printed_member m (members_spaced more rest) (All-head each m more held)
    ∙ (ap (λ (t : List ℕ). json_member m ++ t) (printed_members more rest (All-tail each m more held))
    ∙ sym (append_assoc (json_member m) (behind_commas json_member more) (125 ∷ print_spaced true rest))))

-- the first of them has no comma before it
printed_first : (row : Row) (rest : Spaced) → HasWords row
    → print_spaced false (members_spaced row rest) ≡ separated json_member row ++ (125 ∷ print_spaced true rest)
unfolding print_spaced
printed_first [] rest held = refl
printed_first (m ∷ more) rest held =
    let each = λ (m : Member). HasWord m.value in
    printed_member m (members_spaced more rest) (All-head each m more held)
    ∙ (ap (λ (t : List ℕ). json_member m ++ t) (printed_members more rest (All-tail each m more held))
    ∙ sym (append_assoc (json_member m) (behind_commas json_member more) (125 ∷ print_spaced true rest)))

-- an object with what follows it
object_is : (row : Row) (rest : List ℕ) → 10 ∷ 123 ∷ (separated json_member row ++ (125 ∷ rest)) ≡ json_object row ++ rest
unfolding json_object
object_is row rest = ap (λ (t : List ℕ). 10 ∷ 123 ∷ t) (sym (append_assoc (separated json_member row) (125 ∷ []) rest))

printed_rows : (rows : List Row) → All HasWords rows → print_spaced true (rows_spaced rows) ≡ behind_commas json_object rows ++ codes "\n]"
unfolding print_spaced
printed_rows [] held = refl
printed_rows (row ∷ more) held =
    ap (λ (t : List ℕ). 44 ∷ 10 ∷ 123 ∷ t) (printed_first row (rows_spaced more) (All-head HasWords row more held))
    ∙ (ap (λ (t : List ℕ). 44 ∷ t) (object_is row (print_spaced true (rows_spaced more)))
    ∙ (ap (λ (t : List ℕ). 44 ∷ (json_object row ++ t)) (printed_rows more (All-tail HasWords row more held))
    ∙ ap (λ (t : List ℕ). 44 ∷ t) (sym (append_assoc (json_object row) (behind_commas json_object more) (codes "\n]")))))

printed_list : (rows : List Row) → All HasWords rows → print_spaced false (list_spaced rows) ≡ list_text (rows_text style.Json rows)
unfolding print_spaced
printed_list [] held = sym (separated_lists [])
printed_list (row ∷ more) held =
    ap (λ (t : List ℕ). 91 ∷ 10 ∷ 123 ∷ t) (printed_first row (rows_spaced more) (All-head HasWords row more held))
    ∙ (ap (λ (t : List ℕ). 91 ∷ t) (object_is row (print_spaced true (rows_spaced more)))
    ∙ (ap (λ (t : List ℕ). 91 ∷ (json_object row ++ t)) (printed_rows more (All-tail HasWords row more held))
    ∙ (ap (λ (t : List ℕ). 91 ∷ t) (sym (append_assoc (json_object row) (behind_commas json_object more) (codes "\n]")))
    ∙ sym (separated_lists (row ∷ more)))))

-- ---- what a reader finds

abbrev tokens_of : Spaced → List Token
tokens_of ps = map (λ (p : List ℕ × Token). p.1) ps

member_tokens : (row : Row) (rest : Spaced) → tokens_of (members_spaced row rest) ≡ members_tokens (members_given row) ++ tokens_of rest
member_tokens [] rest = refl
member_tokens (m ∷ more) rest =
    ap (λ (ts : List Token). key (printed m.name) ∷ value_token m.value ∷ ts) (member_tokens more rest)
    ∙ ap (λ (ts : List Token). key (printed m.name) ∷ ((ts ++ members_tokens (members_given more)) ++ tokens_of rest)) (sym (token_is m.value))

row_tokens : (rows : List Row) → tokens_of (rows_spaced rows) ≡ items_tokens (items_given rows)
row_tokens [] = refl
row_tokens (row ∷ more) =
    ap (λ (ts : List Token). begin_object ∷ ts)
    (member_tokens row (rows_spaced more) ∙ ap (λ (ts : List Token). members_tokens (members_given row) ++ ts) (row_tokens more))

members_gaps : (row : Row) (rest : Spaced) → AreGaps rest → AreGaps (members_spaced row rest)
members_gaps [] rest gaps = (tt, gaps)
members_gaps (m ∷ more) rest gaps = (tt, (tt, members_gaps more rest gaps))

rows_gaps : (rows : List Row) → AreGaps (rows_spaced rows)
rows_gaps [] = ((inr refl, tt), tt)
rows_gaps (row ∷ more) = ((inr refl, tt), members_gaps row (rows_spaced more) (rows_gaps more))

members_printable : (row : Row) (rest : Spaced) → HasWords row → ArePrintable (tokens_of rest) → ArePrintable (tokens_of (members_spaced row rest))
unfolding ArePrintable
members_printable [] rest held printable = (tt, printable)
members_printable (m ∷ more) rest held printable =
    let each = λ (m : Member). HasWord m.value in
    (tt, (value_printable m.value (All-head each m more held), members_printable more rest (All-tail each m more held) printable))

rows_printable : (rows : List Row) → All HasWords rows → ArePrintable (tokens_of (rows_spaced rows))
unfolding ArePrintable
rows_printable [] held = (tt, tt)
rows_printable (row ∷ more) held =
    (tt, members_printable row (rows_spaced more) (All-head HasWords row more held) (rows_printable more (All-tail HasWords row more held)))

-- rows are lists of values that nest no deeper than their objects
members_shallow : (row : Row) → members_depth (members_given row) ≡ 0
members_shallow [] = refl
members_shallow (m ∷ more) = omega (arith, value_shallow m.value, members_shallow more)

rows_shallow : (rows : List Row) → items_depth (items_given rows) ≤ 1
rows_shallow [] = omega arith
rows_shallow (row ∷ more) = omega (arith, members_shallow row, rows_shallow more)

list_printable : (rows : List Row) → All HasWords rows → ArePrintable (tokens_of (list_spaced rows))
unfolding ArePrintable
list_printable rows held = (tt, rows_printable rows held)

pub json_read_back : JsonIsReadBack
json_read_back rows held =
    let text = list_text (rows_text style.Json rows) in
    let read = tokens-print_spaced (list_spaced rows) (tt, rows_gaps rows) (list_printable rows held) in
    let found = ap (λ (ts : List Token). begin_array ∷ ts) (row_tokens rows) in
    ap document (sym (printed_list rows held))
    ∙ ap (option_and_then (λ p. if_last p.0 p.1))
    (ap (value max_depth) (read ∙ (found ∙ sym (append-nil (json_tokens (array (items_given rows))))))
    ∙ value-json_tokens (array (items_given rows)) max_depth [] (omega (arith, rows_shallow rows)))
