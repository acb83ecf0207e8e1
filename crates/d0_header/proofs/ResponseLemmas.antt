-- The header of a response is cut from its text, and no other is.
use Rattle.std.proofs.Common.{◌≡◌, ℕ, ◌+◌, ◌-◌, ◌≤◌, true, List, [], ◌∷◌, ◌++◌, map, length, get_or, take, drop, None, ltb, refl, sym, ap, ◌∙◌, arith}
use Rattle.std.specs.Option.{option_map}
use Rattle.std.specs.List.{concat, list_all}
use Rattle.std.proofs.lemmas.Bool.{ltb-false, le-ltb, and_parts, and_from}
use Rattle.std.proofs.lemmas.List.{drop-drop, length-take, take_at, take-append-drop}
use Rattle.d0_header.specs.declared.fault.HeaderFault.TheVariants.{Short, BadCount, DateNotDigits, Separator}
use Rattle.d0_header.specs.Field.{is_digit, is_count, is_plain, first_separator}
use Rattle.d0_header.specs.Response.{Response, IsResponse, response_fields, response_text, response_of, response_fault}
use Rattle.d0_header.proofs.Cutting.{cut, total, concat-cut, one_byte, cut_front, front_fits, length-concat}
use Rattle.d0_header.proofs.Bytes.{ArePlain, plain_from_digits, fields_pass, text_passes, none_from_plain, plain_from_none}
use Rattle.d0_header.proofs.Passing.{fails_not, passed, no_place, counted, count_passes, count_is_plain, width_of}

-- the widths of the fields
abbrev widths : List ℕ
widths = 2 ∷ 2 ∷ 1 ∷ 1 ∷ 2 ∷ 15 ∷ 8 ∷ []

-- bytes that pass every test
pub record Passes (bytes : List ℕ) : Type 0 where
  pub long : 31 ≤ length bytes
  pub count : is_count (get_or bytes 4 0) ≡ true
  pub date : list_all is_digit (take 8 (drop 23 bytes)) ≡ true
  pub plain : list_all is_plain (take 31 bytes) ≡ true

pub passes_from_none : (bytes : List ℕ) → response_fault bytes ≡ None → Passes bytes
unfolding response_fault
passes_from_none bytes e =
    let a = fails_not (ltb (length bytes) 31) Short _ e in
    let c = passed (is_count (get_or bytes 4 0)) BadCount _ a.1 in
    let d = passed (list_all is_digit (take 8 (drop 23 bytes))) DateNotDigits _ c.1 in
    record {
      long = ltb-false _ _ a.0;
      count = c.0;
      date = d.0;
      plain = plain_from_none (take 31 bytes) (no_place (first_separator (take 31 bytes)) d.1);
    }

none_from_passes : (bytes : List ℕ) → Passes bytes → response_fault bytes ≡ None
unfolding response_fault
none_from_passes bytes p =
    rw (le-ltb (length bytes) 31 p.long, p.count, p.date)
    (ap (option_map Separator) (none_from_plain (take 31 bytes) p.plain))

-- the fields at their places are those cut by their widths
cut_is : (bytes : List ℕ) → cut widths bytes ≡ take 2 bytes ∷ take 2 (drop 2 bytes) ∷ take 1 (drop 4 bytes) ∷ take 1 (drop 5 bytes) ∷ take 2 (drop 6 bytes) ∷ take 15 (drop 8 bytes) ∷ take 8 (drop 23 bytes) ∷ []
cut_is bytes = simp drop-drop

fields_are : (bytes : List ℕ) → Passes bytes → response_fields (response_of bytes) ≡ cut widths bytes
fields_are bytes p =
    let c = counted (get_or bytes 4 0) p.count in
    let l = p.long in
    let same : 48 + (get_or bytes 4 0 - 48) ≡ get_or bytes 4 0 = omega arith in
    let one : take 1 (drop 4 bytes) ≡ get_or bytes 4 0 ∷ [] = one_byte bytes 4 (omega arith) in
    let status : take 1 (drop 5 bytes) ≡ get_or bytes 5 0 ∷ [] = one_byte bytes 5 (omega arith) in
    rw (cut_is bytes, one, status, same) refl

text_is : (bytes : List ℕ) → Passes bytes → take 31 bytes ≡ response_text (response_of bytes)
unfolding response_text
text_is bytes p = sym (ap concat (fields_are bytes p) ∙ concat-cut widths bytes)

is_response : (bytes : List ℕ) → Passes bytes → IsResponse (response_of bytes)
unfolding response_text
is_response bytes p =
    let long = p.long in
    let c = counted (get_or bytes 4 0) p.count in
    let all : list_all is_plain (concat (response_fields (response_of bytes))) ≡ true = ap (list_all is_plain) (sym (text_is bytes p)) ∙ p.plain in
    let each = fields_pass (response_fields (response_of bytes)) all in
    record {
      version = record { width = omega (arith, length-take 2 bytes); plain = each.0 };
      code = record { width = width_of bytes 2 2 (omega arith); plain = each.1.0 };
      least = omega arith;
      most = omega arith;
      status = (and_parts (is_plain (get_or bytes 5 0)) true each.1.1.1.0).0;
      qualifier = record { width = width_of bytes 6 2 (omega arith); plain = each.1.1.1.1.0 };
      provider = record { width = width_of bytes 8 15 (omega arith); plain = each.1.1.1.1.1.0 };
      date = record { width = width_of bytes 23 8 (omega arith); digits = p.date };
    }

-- the fields of a header have their widths
widths_are : (h : Response) → IsResponse h → map length (response_fields h) ≡ widths
widths_are h w = rw (w.version.width, w.code.width, w.qualifier.width, w.provider.width, w.date.width) refl

pub length_is : (h : Response) → IsResponse h → length (response_text h) ≡ 31
unfolding response_text
length_is h w = length-concat (response_fields h) ∙ ap total (widths_are h w)

cut_again : (bytes : List ℕ) (h : Response) → IsResponse h → take 31 bytes ≡ response_text h → cut widths bytes ≡ response_fields h
unfolding response_text
cut_again bytes h w e =
    let ws = widths_are h w in
    ap (λ (ns : List ℕ). cut ns bytes) (sym ws) ∙ cut_front bytes (response_fields h) (ap (λ (ns : List ℕ). take (total ns) bytes) ws ∙ e)

-- bytes whose front is the text of a header have its fields at their places
record Holds (bytes : List ℕ) (h : Response) : Type 0 where
  pub long : 31 ≤ length bytes
  pub version : take 2 bytes ≡ h.version
  pub code : take 2 (drop 2 bytes) ≡ h.code
  pub count : get_or bytes 4 0 ≡ 48 + h.count
  pub status : get_or bytes 5 0 ≡ h.status
  pub qualifier : take 2 (drop 6 bytes) ≡ h.qualifier
  pub provider : take 15 (drop 8 bytes) ≡ h.provider
  pub date : take 8 (drop 23 bytes) ≡ h.date

holds : (bytes : List ℕ) (h : Response) → IsResponse h → take 31 bytes ≡ response_text h → Holds bytes h
holds bytes h w e =
    let long : 31 ≤ length bytes = front_fits bytes (response_text h) 31 e (length_is h w) in
    let all : take 2 bytes ∷ take 2 (drop 2 bytes) ∷ take 1 (drop 4 bytes) ∷ take 1 (drop 5 bytes) ∷ take 2 (drop 6 bytes) ∷ take 15 (drop 8 bytes) ∷ take 8 (drop 23 bytes) ∷ [] ≡ response_fields h = sym (cut_is bytes) ∙ cut_again bytes h w e in
    let one : take 1 (drop 4 bytes) ≡ get_or bytes 4 0 ∷ [] = one_byte bytes 4 (omega arith) in
    let status : take 1 (drop 5 bytes) ≡ get_or bytes 5 0 ∷ [] = one_byte bytes 5 (omega arith) in
    record {
      long = long;
      version = cc;
      code = cc;
      count = cc;
      status = cc;
      qualifier = cc;
      provider = cc;
      date = cc;
    }

same_header : (bytes : List ℕ) (h : Response) → Holds bytes h → response_of bytes ≡ h
same_header bytes h p =
    let same : get_or bytes 4 0 - 48 ≡ h.count = omega (arith, p.count) in
    rw (p.version, p.code, p.status, p.qualifier, p.provider, p.date, same) refl

-- the fields of a header have no separator
fields_plain : (h : Response) → IsResponse h → ArePlain (response_fields h)
fields_plain h w =
    let count : list_all is_plain ((48 + h.count) ∷ []) ≡ true = and_from (is_plain (48 + h.count)) true (count_is_plain h.count w.least) refl in
    let status : list_all is_plain (h.status ∷ []) ≡ true = and_from (is_plain h.status) true w.status refl in
    let date : list_all is_plain h.date ≡ true = plain_from_digits h.date w.date.digits in
    (w.version.plain, (w.code.plain, (count, (status, (w.qualifier.plain, (w.provider.plain, (date, tt)))))))

passes_again : (bytes : List ℕ) (h : Response) → IsResponse h → take 31 bytes ≡ response_text h → Passes bytes
unfolding response_text
passes_again bytes h w e =
    let p = holds bytes h w e in
    record {
      long = p.long;
      count = ap is_count p.count ∙ count_passes h.count w.least w.most;
      date = ap (list_all is_digit) p.date ∙ w.date.digits;
      plain = ap (list_all is_plain) e ∙ text_passes (response_fields h) (fields_plain h w);
    }

-- bytes without a fault begin with the text of the fields at their places
pub text_stands : (bytes : List ℕ) → response_fault bytes ≡ None → bytes ≡ response_text (response_of bytes) ++ drop 31 bytes
text_stands bytes none =
    sym (take-append-drop 31 bytes) ∙ ap (λ (xs : List ℕ). xs ++ drop 31 bytes) (text_is bytes (passes_from_none bytes none))

pub sound : (bytes : List ℕ) → response_fault bytes ≡ None → IsResponse (response_of bytes)
sound bytes none = is_response bytes (passes_from_none bytes none)

front_is : (bytes : List ℕ) (h : Response) (rest : List ℕ) → IsResponse h → bytes ≡ response_text h ++ rest → take 31 bytes ≡ response_text h
front_is bytes h rest w e = ap (take 31) e ∙ take_at (response_text h) rest 31 (length_is h w)

-- bytes that begin with the text of a header have no fault
pub none_again : (bytes : List ℕ) (h : Response) (rest : List ℕ) → IsResponse h → bytes ≡ response_text h ++ rest → response_fault bytes ≡ None
none_again bytes h rest w e = none_from_passes bytes (passes_again bytes h w (front_is bytes h rest w e))

-- and its fields are those at their places
pub same_again : (bytes : List ℕ) (h : Response) (rest : List ℕ) → IsResponse h → bytes ≡ response_text h ++ rest → response_of bytes ≡ h
same_again bytes h rest w e = same_header bytes h (holds bytes h w (front_is bytes h rest w e))
