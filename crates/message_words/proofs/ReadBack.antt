-- The JSON of a description is read back.
use Rattle.std.proofs.Common.{◌≡◌, ◌<◌, ◌≤◌, ◌+◌, ◌/◌, ◌%◌, ℕ, Bool, true, false, List, [], ◌∷◌, ◌++◌, length, map, codes, Some, refl, ap, sym, ◌∙◌, arith, append_assoc, decimal, if◌then◌else◌}
use Rattle.std.specs.Prelude.{◌==◌}
use Rattle.std.specs.List.{AllByRecursion, list_all}
use Rattle.std.proofs.lemmas.Bool.Decides.{nat_tests}
use Rattle.std.proofs.lemmas.List.{map-append}
use Rattle.input_text.specs.Printing.{hex_digit, is_printable, printed, printed_byte}
use Rattle.message_parts.specs.declared.dissecting.MessageKind.{MessageKind}
use Rattle.message_parts.specs.declared.dissecting.MessageKind.TheVariants as message
use Rattle.message_parts.specs.declared.part.PartKind.{PartKind}
use Rattle.message_parts.specs.declared.part.PartKind.TheVariants as kind
use Rattle.message_words.specs.declared.page.Style.TheVariants.{Json}
use Rattle.message_words.specs.AllFound.{found_text}
use Rattle.message_words.specs.Described.{between_text, description, end_text, head_text, if_dropped, line_and_kind, size_between}
use Rattle.message_words.specs.Encoded.{is_letter, json_letter, json_string, member_key, number_member, word_member}
use Rattle.message_parts.specs.FieldTitles.{Titles}
use Rattle.message_parts.specs.Messages.{message_told}
use Rattle.message_parts.specs.Naming.{kind_name}
use Rattle.message_parts.specs.Parts.{PartSeen}
use Rattle.message_words.specs.Rows.{counted_with, group_text, meaning_in, name_member, names_in, place_member, row_object, row_of, rows_of, unless_empty, value_in, value_members}
use Rattle.message_words.specs.Objects.{Member, Word, listing_in, shown_letter, member, shown}
use Rattle.message_words.specs.ReadBack.{front_told, message_listing, number, part_told, parts_told, row_told, unless_none, word}
use Rattle.message_words.specs.ReadBack as told
use Rattle.message_words.proofs.Encoded.{plain_letters}
use Rattle.message_words.proofs.Objects.{AllPlain, Entry, Fits, Object, count, entry, entry_seen, entry_then, front_longer, front_then, list_longer, list_then, listing_back, more_then, object_seen, object_then, objects_then, Plain, plain_shown, text}
use Rattle.message_words.proofs.PlainNames.{IsPlain, names_plain}

-- ---- pieces, and then this

assoc3 : (a b c x : List ℕ) → (a ++ b ++ c) ++ x ≡ a ++ (b ++ (c ++ x))
assoc3 a b c x = append_assoc (a ++ b) c x ∙ append_assoc a b (c ++ x)

assoc4 : (a b c d x : List ℕ) → (a ++ b ++ c ++ d) ++ x ≡ a ++ (b ++ (c ++ (d ++ x)))
assoc4 a b c d x = append_assoc (a ++ b ++ c) d x ∙ assoc3 a b c (d ++ x)

assoc5 : (a b c d e x : List ℕ) → (a ++ b ++ c ++ d ++ e) ++ x ≡ a ++ (b ++ (c ++ (d ++ (e ++ x))))
assoc5 a b c d e x = append_assoc (a ++ b ++ c ++ d) e x ∙ assoc4 a b c d (e ++ x)

key_then : (key bytes : List ℕ) → member_key key ++ bytes ≡ 44 ∷ 34 ∷ (key ++ 34 ∷ 58 ∷ bytes)
key_then key bytes = ap (λ (bs : List ℕ). 44 ∷ 34 ∷ bs) (append_assoc key (34 ∷ 58 ∷ []) bytes)

word_then : (key w rest : List ℕ) → word_member key w ++ rest ≡ 44 ∷ entry_then (entry key (text w)) rest
word_then key w rest = append_assoc (member_key key) (json_string w) rest ∙ key_then key (json_string w ++ rest)

number_then : (key : List ℕ) (n : ℕ) (rest : List ℕ) → number_member key n ++ rest ≡ 44 ∷ entry_then (entry key (count n)) rest
number_then key n rest = append_assoc (member_key key) (decimal n) rest ∙ key_then key (decimal n ++ rest)

name_then : (key rest : List ℕ) → list_all is_letter key ≡ true → name_member key ++ rest ≡ 44 ∷ entry_then (entry (codes "name") (text key)) rest
name_then key rest are = ap (λ (k : List ℕ). name_member k ++ rest) (sym (plain_letters key are))

abbrev unless_entry : List ℕ → Entry → List Entry → List Entry
unless_entry number e es = if length number == 0 then es else e ∷ es

left_out : (number told : List ℕ) (e : Entry) (es : List Entry) (rest : List ℕ) → ((r : List ℕ) → told ++ r ≡ 44 ∷ entry_then e r)
    → unless_empty number told ++ more_then es rest ≡ more_then (unless_entry number e es) rest
left_out number told e es rest is = by_test (length number == 0) refl
  where
    by_test : (t : Bool) → (length number == 0) ≡ t → unless_empty number told ++ more_then es rest ≡ more_then (unless_entry number e es) rest
    by_test true none = rw none refl
    by_test false some = rw some (is (more_then es rest))

-- ---- a row

abbrev object : (place : ℕ) → List Entry → Object
object place others = record { first = entry (codes "at") (count place); others = others }

abbrev meaning_entries : List ℕ → List Entry
meaning_entries meaning = unless_entry meaning (entry (codes "meaning") (text meaning)) []

abbrev row_entries : ℕ → Titles → (value meaning : List ℕ) → Object
row_entries place t value meaning =
    object place (unless_entry t.number (entry (codes "field") (text (printed t.number)))
    (entry (codes "name") (text t.key) ∷ entry (codes "value") (text (printed value)) ∷ meaning_entries meaning))

place_then : (place : ℕ) (number : List ℕ) (es : List Entry) (rest : List ℕ)
    → place_member place number ++ more_then es rest ≡ object_then (object place (unless_entry number (entry (codes "field") (text (printed number))) es)) rest
place_then place number es rest =
    assoc3 (codes "{\"at\":") (decimal place) (unless_empty number (word_member (codes "field") (printed number))) (more_then es rest)
    ∙ ap (λ (bs : List ℕ). codes "{\"at\":" ++ (decimal place ++ bs))
    (left_out number (word_member (codes "field") (printed number)) (entry (codes "field") (text (printed number))) es rest (word_then (codes "field") (printed number)))

value_then : (value meaning rest : List ℕ) → value_members value meaning ++ rest ≡ 44 ∷ entry_then (entry (codes "value") (text (printed value))) (more_then (meaning_entries meaning) rest)
value_then value meaning rest =
    assoc3 (word_member (codes "value") (printed value)) (unless_empty meaning (word_member (codes "meaning") meaning)) (codes "}") rest
    ∙ ap (λ (bs : List ℕ). word_member (codes "value") (printed value) ++ bs)
    (left_out meaning (word_member (codes "meaning") meaning) (entry (codes "meaning") (text meaning)) [] rest (word_then (codes "meaning") meaning))
    ∙ word_then (codes "value") (printed value) (more_then (meaning_entries meaning) rest)

row_then : (place : ℕ) (t : Titles) (value meaning rest : List ℕ) → list_all is_letter t.key ≡ true → row_object place t value meaning ++ rest ≡ object_then (row_entries place t value meaning) rest
row_then place t value meaning rest plain =
    let tail : List ℕ = more_then (meaning_entries meaning) rest in
    assoc3 (place_member place t.number) (name_member t.key) (value_members value meaning) rest
    ∙ ap (λ (bs : List ℕ). place_member place t.number ++ (name_member t.key ++ bs)) (value_then value meaning rest)
    ∙ ap (λ (bs : List ℕ). place_member place t.number ++ bs) (name_then t.key (44 ∷ entry_then (entry (codes "value") (text (printed value))) tail) plain)
    ∙ place_then place t.number (entry (codes "name") (text t.key) ∷ entry (codes "value") (text (printed value)) ∷ meaning_entries meaning) rest

-- ---- a transaction begins

abbrev group_entries : (place number : ℕ) → Object
group_entries place number = object place (entry (codes "name") (text (codes "transaction")) ∷ entry (codes "transaction") (count number) ∷ [])

group_then : (place number : ℕ) (rest : List ℕ) → group_text Json place number ++ rest ≡ object_then (group_entries place number) rest
group_then place number rest =
    assoc5 (codes "{\"at\":") (decimal place) (word_member (codes "name") (codes "transaction")) (number_member (codes "transaction") number) (codes "}") rest
    ∙ ap (λ (bs : List ℕ). codes "{\"at\":" ++ (decimal place ++ (word_member (codes "name") (codes "transaction") ++ bs))) (number_then (codes "transaction") number (125 ∷ rest))
    ∙ ap (λ (bs : List ℕ). codes "{\"at\":" ++ (decimal place ++ bs)) (word_then (codes "name") (codes "transaction") (44 ∷ entry_then (entry (codes "transaction") (count number)) (125 ∷ rest)))

-- ---- all parts

abbrev part_entries : ℕ → (place : ℕ) → List ℕ → PartKind → Object
part_entries n place bytes kind.Group = group_entries place n
part_entries n place bytes k = row_entries place (names_in k bytes) (value_in k bytes) (meaning_in k bytes)

part_then : (n place : ℕ) (bytes : List ℕ) (k : PartKind) (rest : List ℕ) → row_of Json n place bytes k ++ rest ≡ object_then (part_entries n place bytes k) rest
part_then n place bytes kind.Group rest = group_then place n rest
part_then n place bytes (kind.Header name) rest = row_then place (names_in (kind.Header name) bytes) (value_in (kind.Header name) bytes) (meaning_in (kind.Header name) bytes) rest (names_plain (kind.Header name) bytes)
part_then n place bytes kind.Segment rest = row_then place (names_in kind.Segment bytes) (value_in kind.Segment bytes) (meaning_in kind.Segment bytes) rest (names_plain kind.Segment bytes)
part_then n place bytes (kind.Field name) rest = row_then place (names_in (kind.Field name) bytes) (value_in (kind.Field name) bytes) (meaning_in (kind.Field name) bytes) rest (names_plain (kind.Field name) bytes)
part_then n place bytes (kind.Mark m) rest = row_then place (names_in (kind.Mark m) bytes) (value_in (kind.Mark m) bytes) (meaning_in (kind.Mark m) bytes) rest (names_plain (kind.Mark m) bytes)
part_then n place bytes kind.Stray rest = row_then place (names_in kind.Stray bytes) (value_in kind.Stray bytes) (meaning_in kind.Stray bytes) rest (names_plain kind.Stray bytes)

abbrev parts_entries : ℕ → List PartSeen → List Object
parts_entries n [] = []
parts_entries n (p ∷ ps) = part_entries (counted_with n p.kind) p.place p.bytes p.kind ∷ parts_entries (counted_with n p.kind) ps

more_parts : (n : ℕ) (ps : List PartSeen) (rest : List ℕ) → rows_of Json true n ps ++ 93 ∷ rest ≡ objects_then (parts_entries n ps) rest
more_parts n [] rest = refl
more_parts n (p ∷ ps) rest =
    let m = counted_with n p.kind in
    let row : List ℕ = row_of Json m p.place p.bytes p.kind in
    append_assoc (44 ∷ row) (rows_of Json true m ps) (93 ∷ rest)
    ∙ ap (λ (bs : List ℕ). 44 ∷ (row ++ bs)) (more_parts m ps rest)
    ∙ ap (λ (bs : List ℕ). 44 ∷ bs) (part_then m p.place p.bytes p.kind (objects_then (parts_entries m ps) rest))

pub all_parts : (n : ℕ) (ps : List PartSeen) (rest : List ℕ) → rows_of Json false n ps ++ 93 ∷ rest ≡ list_then (parts_entries n ps) rest
all_parts n [] rest = refl
all_parts n (p ∷ ps) rest =
    let m = counted_with n p.kind in
    let row : List ℕ = row_of Json m p.place p.bytes p.kind in
    append_assoc row (rows_of Json true m ps) (93 ∷ rest)
    ∙ ap (λ (bs : List ℕ). row ++ bs) (more_parts m ps rest)
    ∙ part_then m p.place p.bytes p.kind (objects_then (parts_entries m ps) rest)

-- ---- what is read of them

unless_read : (number : List ℕ) (e : Entry) (es : List Entry) → map entry_seen (unless_entry number e es) ≡ unless_none number (entry_seen e) (map entry_seen es)
unless_read number e es = by_test (length number == 0) refl
  where
    by_test : (t : Bool) → (length number == 0) ≡ t → map entry_seen (unless_entry number e es) ≡ unless_none number (entry_seen e) (map entry_seen es)
    by_test true none = rw none refl
    by_test false some = rw some refl

row_read : (place : ℕ) (t : Titles) (value meaning : List ℕ) → IsPlain t.key → object_seen (row_entries place t value meaning) ≡ row_told place t value meaning
row_read place t value meaning plain =
    let name_entry = entry (codes "name") (text t.key) in
    let value_entry = entry (codes "value") (text (printed value)) in
    ap (λ (ms : List Member). number (codes "at") place ∷ ms)
    (unless_read t.number (entry (codes "field") (text (printed t.number))) (name_entry ∷ value_entry ∷ meaning_entries meaning)
    ∙ (λ i. unless_none t.number (word (codes "field") (printed t.number)) (member (codes "name") (Word (plain_shown t.key plain i)) ∷ word (codes "value") (printed value)
    ∷ unless_read meaning (entry (codes "meaning") (text meaning)) [] i)))

part_read : (n place : ℕ) (bytes : List ℕ) (k : PartKind) → object_seen (part_entries n place bytes k) ≡ part_told n place bytes k
part_read n place bytes kind.Group = refl
part_read n place bytes (kind.Header name) = row_read place (names_in (kind.Header name) bytes) (value_in (kind.Header name) bytes) (meaning_in (kind.Header name) bytes) (names_plain (kind.Header name) bytes)
part_read n place bytes kind.Segment = row_read place (names_in kind.Segment bytes) (value_in kind.Segment bytes) (meaning_in kind.Segment bytes) (names_plain kind.Segment bytes)
part_read n place bytes (kind.Field name) = row_read place (names_in (kind.Field name) bytes) (value_in (kind.Field name) bytes) (meaning_in (kind.Field name) bytes) (names_plain (kind.Field name) bytes)
part_read n place bytes (kind.Mark m) = row_read place (names_in (kind.Mark m) bytes) (value_in (kind.Mark m) bytes) (meaning_in (kind.Mark m) bytes) (names_plain (kind.Mark m) bytes)
part_read n place bytes kind.Stray = row_read place (names_in kind.Stray bytes) (value_in kind.Stray bytes) (meaning_in kind.Stray bytes) (names_plain kind.Stray bytes)

pub parts_read : (n : ℕ) (ps : List PartSeen) → map object_seen (parts_entries n ps) ≡ parts_told n ps
parts_read n [] = refl
parts_read n (p ∷ ps) = λ i. part_read (counted_with n p.kind) p.place p.bytes p.kind i ∷ parts_read (counted_with n p.kind) ps i

-- ---- there is room to read them

unless_plain : (number : List ℕ) (e : Entry) (es : List Entry) → Plain e → AllPlain es → AllPlain (unless_entry number e es)
unless_plain number e es p ps = by_test (length number == 0)
  where
    by_test : (t : Bool) → AllPlain (if t then es else e ∷ es)
    by_test true = ps
    by_test false = (p, ps)

unless_length : (number : List ℕ) (e : Entry) (es : List Entry) → length (unless_entry number e es) ≤ length es + 1
unless_length number e es = by_test (length number == 0)
  where
    by_test : (t : Bool) → length (if t then es else e ∷ es) ≤ length es + 1
    by_test true = omega arith
    by_test false = omega arith

row_fits : (most place : ℕ) (t : Titles) (value meaning : List ℕ) → 4 < most → Fits most (row_entries place t value meaning)
row_fits most place t value meaning lt =
    let more = meaning_entries meaning in
    let rest = entry (codes "name") (text t.key) ∷ entry (codes "value") (text (printed value)) ∷ more in
    let e = entry (codes "field") (text (printed t.number)) in
    record {
      few = omega (arith, unless_length meaning (entry (codes "meaning") (text meaning)) [], unless_length t.number e rest, lt);
      first = refl;
      others = unless_plain t.number e rest refl (refl, (refl, unless_plain meaning (entry (codes "meaning") (text meaning)) [] refl tt));
    }

part_fits : (most n place : ℕ) (bytes : List ℕ) (k : PartKind) → 4 < most → Fits most (part_entries n place bytes k)
part_fits most n place bytes kind.Group lt = record { few = omega (arith, lt); first = refl; others = (refl, (refl, tt)) }
part_fits most n place bytes (kind.Header name) lt = row_fits most place (names_in (kind.Header name) bytes) (value_in (kind.Header name) bytes) (meaning_in (kind.Header name) bytes) lt
part_fits most n place bytes kind.Segment lt = row_fits most place (names_in kind.Segment bytes) (value_in kind.Segment bytes) (meaning_in kind.Segment bytes) lt
part_fits most n place bytes (kind.Field name) lt = row_fits most place (names_in (kind.Field name) bytes) (value_in (kind.Field name) bytes) (meaning_in (kind.Field name) bytes) lt
part_fits most n place bytes (kind.Mark m) lt = row_fits most place (names_in (kind.Mark m) bytes) (value_in (kind.Mark m) bytes) (meaning_in (kind.Mark m) bytes) lt
part_fits most n place bytes kind.Stray lt = row_fits most place (names_in kind.Stray bytes) (value_in kind.Stray bytes) (meaning_in kind.Stray bytes) lt

pub parts_fit : (most n : ℕ) (ps : List PartSeen) → 4 < most → AllByRecursion (Fits most) (parts_entries n ps)
parts_fit most n [] lt = tt
parts_fit most n (p ∷ ps) lt = (part_fits most (counted_with n p.kind) p.place p.bytes p.kind lt, parts_fit most (counted_with n p.kind) ps lt)

-- ---- the head

abbrev entry_if : Bool → Entry → List Entry → List Entry
entry_if b e es = if b then e ∷ es else es

abbrev dropped_entries : Bool × Bool → List Entry
dropped_entries dropped = entry_if dropped.0 (entry (codes "dropped_before") (text (codes "\\x02"))) (entry_if dropped.1 (entry (codes "dropped_behind") (text (codes "\\x03"))) [])

abbrev front_entries : (line : ℕ) → MessageKind → (size : ℕ) → Bool × Bool → List Entry
front_entries line kind size dropped = entry (codes "line") (count line) ∷ entry (codes "kind") (text (kind_name kind)) ∷ entry (codes "bytes") (count size) ∷ dropped_entries dropped

dropped_then : (a b : Bool) (rest : List ℕ) → if_dropped (codes ",\"dropped_before\":\"\\\\x02\"") (codes ",\"dropped_behind\":\"\\\\x03\"") (a, b) ++ 44 ∷ rest ≡ 44 ∷ front_then (dropped_entries (a, b)) rest
unfolding json_letter
dropped_then false false rest = refl
dropped_then false true rest = refl
dropped_then true false rest = refl
dropped_then true true rest = refl

kind_then : (k : MessageKind) (rest : List ℕ) → codes ",\"kind\":\"" ++ (kind_name k ++ 34 ∷ 44 ∷ rest) ≡ 44 ∷ entry_then (entry (codes "kind") (text (kind_name k))) (44 ∷ rest)
unfolding json_letter
kind_then message.Request rest = refl
kind_then message.Answer rest = refl
kind_then message.Packet rest = refl
kind_then message.Record rest = refl

head_then : (line : ℕ) (k : MessageKind) (size : ℕ) (dropped : Bool × Bool) (rest : List ℕ)
    → head_text Json line k size dropped ++ rest ≡ 123 ∷ front_then (front_entries line k size dropped) (34 ∷ (codes "parts" ++ 34 ∷ 58 ∷ 91 ∷ rest))
head_then line k size dropped rest =
    let parts : List ℕ = 34 ∷ (codes "parts" ++ 34 ∷ 58 ∷ 91 ∷ rest) in
    let drops : List ℕ = if_dropped (codes ",\"dropped_before\":\"\\\\x02\"") (codes ",\"dropped_behind\":\"\\\\x03\"") dropped in
    let kinds : List ℕ = line_and_kind (codes "{\"line\":") line (codes ",\"kind\":\"") k in
    let sizes : List ℕ = size_between (codes "\",\"bytes\":") size (codes "") in
    let later : List ℕ = front_then (dropped_entries dropped) parts in
    let sized : List ℕ = entry_then (entry (codes "bytes") (count size)) (44 ∷ later) in
    assoc4 kinds sizes drops (codes ",\"parts\":[") rest
    ∙ ap (λ (bs : List ℕ). kinds ++ (sizes ++ bs)) (dropped_then dropped.0 dropped.1 parts)
    ∙ ap (λ (bs : List ℕ). kinds ++ bs) (assoc3 (codes "\",\"bytes\":") (decimal size) [] (44 ∷ later))
    ∙ assoc4 (codes "{\"line\":") (decimal line) (codes ",\"kind\":\"") (kind_name k) (34 ∷ 44 ∷ sized)
    ∙ ap (λ (bs : List ℕ). codes "{\"line\":" ++ (decimal line ++ bs)) (kind_then k sized)

kind_shown : (k : MessageKind) → shown (kind_name k) ≡ kind_name k
kind_shown message.Request = refl
kind_shown message.Answer = refl
kind_shown message.Packet = refl
kind_shown message.Record = refl

dropped_read : (a b : Bool) → map entry_seen (dropped_entries (a, b)) ≡ told.if_dropped a (codes "dropped_before") (codes "\\x02") (told.if_dropped b (codes "dropped_behind") (codes "\\x03") [])
dropped_read false false = refl
dropped_read false true = refl
dropped_read true false = refl
dropped_read true true = refl

front_read : (line : ℕ) (k : MessageKind) (size : ℕ) (dropped : Bool × Bool) → map entry_seen (front_entries line k size dropped) ≡ front_told line k size dropped
front_read line k size dropped = λ i. number (codes "line") line ∷ member (codes "kind") (Word (kind_shown k i)) ∷ number (codes "bytes") size ∷ dropped_read dropped.0 dropped.1 i

dropped_plain : (a b : Bool) → AllPlain (dropped_entries (a, b))
dropped_plain false false = tt
dropped_plain false true = (refl, tt)
dropped_plain true false = (refl, tt)
dropped_plain true true = (refl, (refl, tt))

dropped_few : (a b : Bool) → length (dropped_entries (a, b)) ≤ 2
dropped_few false false = omega arith
dropped_few false true = omega arith
dropped_few true false = omega arith
dropped_few true true = omega arith

-- ---- a description

described : (line : ℕ) (k : MessageKind) (size : ℕ) (dropped : Bool × Bool) (ps : List PartSeen) (rest : List ℕ)
    → listing_in (123 ∷ front_then (front_entries line k size dropped) (34 ∷ (codes "parts" ++ 34 ∷ 58 ∷ 91 ∷ list_then (parts_entries 0 ps) rest)))
    ≡ Some (record { front = front_told line k size dropped; key = codes "parts"; list = parts_told 0 ps })
described line k size dropped ps rest =
    let os = parts_entries 0 ps in
    let es = front_entries line k size dropped in
    let tail : List ℕ = 34 ∷ (codes "parts" ++ 34 ∷ 58 ∷ 91 ∷ list_then os rest) in
    let most : ℕ = length (123 ∷ front_then es tail) in
    let long : 9 + length os < most = omega (arith, front_longer es tail, list_longer os rest) in
    listing_back most most es (codes "parts") os rest (omega (arith, long, dropped_few dropped.0 dropped.1)) (omega (arith, long)) (refl, (refl, (refl, dropped_plain dropped.0 dropped.1))) refl
    (parts_fit most 0 ps (omega (arith, long)))
    ∙ (λ i. Some (record { front = front_read line k size dropped i; key = codes "parts"; list = parts_read 0 ps i }))

all_read : (line : ℕ) (k : MessageKind) (size : ℕ) (dropped : Bool × Bool) (ps : List PartSeen) (found : List ℕ)
    → listing_in (head_text Json line k size dropped ++ rows_of Json false 0 ps ++ between_text Json ++ found ++ end_text Json)
    ≡ Some (record { front = front_told line k size dropped; key = codes "parts"; list = parts_told 0 ps })
all_read line k size dropped ps found =
    let rest : List ℕ = codes ",\"findings\":[" ++ (found ++ end_text Json) in
    ap listing_in (assoc4 (head_text Json line k size dropped) (rows_of Json false 0 ps) (between_text Json) found (end_text Json)
    ∙ ap (λ (bs : List ℕ). head_text Json line k size dropped ++ bs) (all_parts 0 ps rest)
    ∙ head_then line k size dropped (list_then (parts_entries 0 ps) rest))
    ∙ described line k size dropped ps rest

pub description_read : (dropped : Bool × Bool) (line : ℕ) (k : MessageKind) (bytes : List ℕ) → listing_in (description Json dropped line k bytes) ≡ Some (message_listing dropped line k bytes)
unfolding description
description_read dropped line k bytes = all_read line k (length bytes) dropped (message_told k bytes).parts (found_text Json k bytes (message_told k bytes).carried)

-- ---- printed bytes are shown as they are

hex_shown : (n : ℕ) → n < 16 → shown_letter (hex_digit n) ≡ hex_digit n
hex_shown n lt = grind (arith, nat_tests)

byte_shown : (b : ℕ) → b < 256 → shown (printed_byte b) ≡ printed_byte b
unfolding printed_byte
byte_shown b lt = by_tests (b == 92) (b == 28) (b == 29) (b == 30) (is_printable b) refl refl refl refl refl
  where
    by_tests : (k f g s p : Bool) → (b == 92) ≡ k → (b == 28) ≡ f → (b == 29) ≡ g → (b == 30) ≡ s → is_printable b ≡ p → shown (printed_byte b) ≡ printed_byte b
    by_tests true f g s p e1 e2 e3 e4 e5 = rw e1 refl
    by_tests false true g s p e1 e2 e3 e4 e5 = rw (e1, e2) refl
    by_tests false false true s p e1 e2 e3 e4 e5 = rw (e1, e2, e3) refl
    by_tests false false false true p e1 e2 e3 e4 e5 = rw (e1, e2, e3, e4) refl
    by_tests false false false false true e1 e2 e3 e4 e5 = rw (e1, e2, e3, e4, e5) (rw e5 refl)
    by_tests false false false false false e1 e2 e3 e4 e5 = rw (e1, e2, e3, e4, e5) (λ i. 92 ∷ 120 ∷ hex_shown (b / 16) (omega arith) i ∷ hex_shown (b % 16) (omega arith) i ∷ [])

pub printed_shown : (bytes : List ℕ) → AllByRecursion (λ b. b < 256) bytes → shown (printed bytes) ≡ printed bytes
printed_shown [] are = refl
printed_shown (b ∷ bs) are = map-append shown_letter (printed_byte b) (printed bs) ∙ (λ i. byte_shown b are.0 i ++ printed_shown bs are.1 i)
