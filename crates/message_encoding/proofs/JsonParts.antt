-- What is told in JSON is read again.
use Rattle.std.proofs.Common.{◌≡◌, ℕ, ◌<◌, ◌^◌, ◌++◌, Bool, true, false, List, [], ◌∷◌, codes, bytes_eq, Option, Some, None, Ok, refl, sym, ap, ◌∙◌, rules, if◌then◌else◌, option_map}
use Rattle.std.specs.List.{All}
use Rattle.std.specs.Result.{result_ok}
use Rattle.std.proofs.lemmas.List.Elements.{All-head, All-tail}
use Rattle.input_text.specs.Options.{◌>>=◌}
use Rattle.input_text.specs.Printing.{printed, unprinted}
use Rattle.serde_json.specs.Data.{Data, number, unsigned, object, string, Members, no_members, member}
use Rattle.serde_json.specs.Find.{get, get_member, as_str}
use Rattle.message_encoding.specs.Parts.{all_bytes, front_of, given_front, joined, named, number_front, part_bytes, spelled, text_at, value_of, valued}
use Rattle.message_encoding.specs.JsonParts.{Bytes, GivenBytes, IsOfBytes, IsRow, PrintedReadsBack, Row, Told, given, given_printed, items_told, number_told, part_told, row, row_front, row_members, told, told_bytes, transaction}

-- ---- members

abbrev members_of : ℕ → Option (List ℕ) → Option (List ℕ) → List ℕ → List ℕ → Members
members_of place field meaning name value = member (codes "at") (number (unsigned place)) (given (codes "field") field (given (codes "meaning") meaning
    (member (codes "name") (string name) (member (codes "value") (string value) no_members))))

name_in : (place : ℕ) (field meaning : Option (List ℕ)) (name value : List ℕ) → get_member (codes "name") (members_of place field meaning name value) ≡ Some (string name)
name_in place None None name value = refl
name_in place None (Some m) name value = refl
name_in place (Some f) None name value = refl
name_in place (Some f) (Some m) name value = refl

value_in : (place : ℕ) (field meaning : Option (List ℕ)) (name value : List ℕ) → get_member (codes "value") (members_of place field meaning name value) ≡ Some (string value)
value_in place None None name value = refl
value_in place None (Some m) name value = refl
value_in place (Some f) None name value = refl
value_in place (Some f) (Some m) name value = refl

field_in : (place : ℕ) (field meaning : Option (List ℕ)) (name value : List ℕ) → get_member (codes "field") (members_of place field meaning name value) ≡ option_map string field
field_in place None None name value = refl
field_in place None (Some m) name value = refl
field_in place (Some f) None name value = refl
field_in place (Some f) (Some m) name value = refl

-- ---- one part

spelled_back : PrintedReadsBack → (bytes : List ℕ) → Bytes bytes → spelled (printed bytes) ≡ Some bytes
spelled_back reads bytes are = ap result_ok (reads bytes are)

number_back : PrintedReadsBack → (digits : Option (List ℕ)) → GivenBytes digits → given_front (option_map string (given_printed digits)) ≡ number_told digits
number_back reads None are = refl
number_back reads (Some digits) are = ap (λ (o : Option (List ℕ)). o >>= number_front) (spelled_back reads digits are)

value_back : PrintedReadsBack → (r : Row) → Bytes r.value → value_of (object (row_members r)) ≡ Some r.value
value_back reads r are =
    ap (λ (o : Option Data). o >>= as_str >>= spelled) (value_in r.place (given_printed r.number) r.meaning r.name (printed r.value))
    ∙ spelled_back reads r.value are

front_back : PrintedReadsBack → (r : Row) → GivenBytes r.number → front_of r.name (object (row_members r)) ≡ row_front r
front_back reads r are =
    ap (λ (o : Option (List ℕ)). if bytes_eq r.name (codes "segment") then Some (30 ∷ 28 ∷ 65 ∷ 77 ∷ []) else o)
    (ap given_front (field_in r.place (given_printed r.number) r.meaning r.name (printed r.value)) ∙ number_back reads r.number are)

name_back : (r : Row) → text_at (codes "name") (object (row_members r)) ≡ Some r.name
name_back r = ap (λ (o : Option Data). o >>= as_str) (name_in r.place (given_printed r.number) r.meaning r.name (printed r.value))

joined_same : (a b c d : Option (List ℕ)) → a ≡ c → b ≡ d → joined a b ≡ joined c d
joined_same a b c d first second = rw (first, second) refl

valued_back : PrintedReadsBack → (r : Row) → IsRow r → valued r.name (object (row_members r)) ≡ joined (row_front r) (Some r.value)
valued_back reads r is = joined_same _ _ _ _ (front_back reads r is.number) (value_back reads r is.value)

named_back : PrintedReadsBack → (r : Row) → IsRow r → named (object (row_members r)) r.name ≡ joined (row_front r) (Some r.value)
named_back reads r is =
    ap (λ (b : Bool). if b then Some (29 ∷ []) else valued r.name (object (row_members r))) is.name ∙ valued_back reads r is

part_back : PrintedReadsBack → (part : Told) → IsOfBytes part → part_bytes (told part) ≡ part_told part
part_back reads (transaction place count) is = refl
part_back reads (row r) is = ap (λ (o : Option (List ℕ)). o >>= named (object (row_members r))) (name_back r) ∙ named_back reads r is

-- ---- all parts

pub all_back : PrintedReadsBack → (parts : List Told) → All IsOfBytes parts → all_bytes (items_told parts) ≡ told_bytes parts
all_back reads [] are = refl
all_back reads (part ∷ rest) are =
    joined_same _ _ _ _ (part_back reads part (All-head IsOfBytes part rest are)) (all_back reads rest (All-tail IsOfBytes part rest are))
