-- The header of a request is cut from its text, and no other is.
use Rattle.std.proofs.Common.{◌≡◌, ℕ, ◌+◌, ◌-◌, ◌≤◌, true, List, [], ◌∷◌, ◌++◌, map, length, get_or, take, drop, None, ltb, refl, sym, ap, ◌∙◌, arith}
use Rattle.std.specs.Option.{option_map}
use Rattle.std.specs.List.{concat, list_all}
use Rattle.std.proofs.lemmas.Bool.{ltb-false, le-ltb, and_from}
use Rattle.std.proofs.lemmas.List.{drop-drop, length-take, take_at, take-append-drop}
use Rattle.d0_header.specs.declared.fault.HeaderFault.TheVariants.{Short, BadBin, BadCount, DateNotDigits, Separator}
use Rattle.d0_header.specs.Field.{is_digit, is_count, is_plain, first_separator}
use Rattle.d0_header.specs.Request.{Request, IsRequest, request_fields, request_text, request_of, request_fault}
use Rattle.d0_header.proofs.Cutting.{cut, total, concat-cut, one_byte, cut_front, front_fits, length-concat}
use Rattle.d0_header.proofs.Bytes.{ArePlain, plain_from_digits, fields_pass, text_passes, none_from_plain, plain_from_none}
use Rattle.d0_header.proofs.Passing.{fails_not, passed, no_place, counted, count_passes, count_is_plain, width_of}

-- the widths of the fields
abbrev widths : List ℕ
widths = 6 ∷ 2 ∷ 2 ∷ 10 ∷ 1 ∷ 2 ∷ 15 ∷ 8 ∷ 10 ∷ []

-- bytes that pass every test
pub record Passes (bytes : List ℕ) : Type 0 where
  pub long : 56 ≤ length bytes
  pub bin : list_all is_digit (take 6 bytes) ≡ true
  pub count : is_count (get_or bytes 20 0) ≡ true
  pub date : list_all is_digit (take 8 (drop 38 bytes)) ≡ true
  pub plain : list_all is_plain (take 56 bytes) ≡ true

pub passes_from_none : (bytes : List ℕ) → request_fault bytes ≡ None → Passes bytes
unfolding request_fault
passes_from_none bytes e =
    let a = fails_not (ltb (length bytes) 56) Short _ e in
    let b = passed (list_all is_digit (take 6 bytes)) BadBin _ a.1 in
    let c = passed (is_count (get_or bytes 20 0)) BadCount _ b.1 in
    let d = passed (list_all is_digit (take 8 (drop 38 bytes))) DateNotDigits _ c.1 in
    record {
      long = ltb-false _ _ a.0;
      bin = b.0;
      count = c.0;
      date = d.0;
      plain = plain_from_none (take 56 bytes) (no_place (first_separator (take 56 bytes)) d.1);
    }

none_from_passes : (bytes : List ℕ) → Passes bytes → request_fault bytes ≡ None
unfolding request_fault
none_from_passes bytes p =
    rw (le-ltb (length bytes) 56 p.long, p.bin, p.count, p.date)
    (ap (option_map Separator) (none_from_plain (take 56 bytes) p.plain))

-- the fields at their places are those cut by their widths
cut_is : (bytes : List ℕ) → cut widths bytes ≡ take 6 bytes ∷ take 2 (drop 6 bytes) ∷ take 2 (drop 8 bytes) ∷ take 10 (drop 10 bytes) ∷ take 1 (drop 20 bytes) ∷ take 2 (drop 21 bytes) ∷ take 15 (drop 23 bytes) ∷ take 8 (drop 38 bytes) ∷ take 10 (drop 46 bytes) ∷ []
cut_is bytes = simp drop-drop

fields_are : (bytes : List ℕ) → Passes bytes → request_fields (request_of bytes) ≡ cut widths bytes
fields_are bytes p =
    let c = counted (get_or bytes 20 0) p.count in
    let l = p.long in
    let same : 48 + (get_or bytes 20 0 - 48) ≡ get_or bytes 20 0 = omega arith in
    let one : take 1 (drop 20 bytes) ≡ get_or bytes 20 0 ∷ [] = one_byte bytes 20 (omega arith) in
    rw (cut_is bytes, one, same) refl

text_is : (bytes : List ℕ) → Passes bytes → take 56 bytes ≡ request_text (request_of bytes)
unfolding request_text
text_is bytes p = sym (ap concat (fields_are bytes p) ∙ concat-cut widths bytes)

is_request : (bytes : List ℕ) → Passes bytes → IsRequest (request_of bytes)
unfolding request_text
is_request bytes p =
    let long = p.long in
    let c = counted (get_or bytes 20 0) p.count in
    let all : list_all is_plain (concat (request_fields (request_of bytes))) ≡ true = ap (list_all is_plain) (sym (text_is bytes p)) ∙ p.plain in
    let each = fields_pass (request_fields (request_of bytes)) all in
    record {
      bin = record { width = omega (arith, length-take 6 bytes); digits = p.bin };
      version = record { width = width_of bytes 6 2 (omega arith); plain = each.1.0 };
      code = record { width = width_of bytes 8 2 (omega arith); plain = each.1.1.0 };
      pcn = record { width = width_of bytes 10 10 (omega arith); plain = each.1.1.1.0 };
      least = omega arith;
      most = omega arith;
      qualifier = record { width = width_of bytes 21 2 (omega arith); plain = each.1.1.1.1.1.0 };
      provider = record { width = width_of bytes 23 15 (omega arith); plain = each.1.1.1.1.1.1.0 };
      date = record { width = width_of bytes 38 8 (omega arith); digits = p.date };
      vendor = record { width = width_of bytes 46 10 (omega arith); plain = each.1.1.1.1.1.1.1.1.0 };
    }

-- the fields of a header have their widths
widths_are : (h : Request) → IsRequest h → map length (request_fields h) ≡ widths
widths_are h w = rw (w.bin.width, w.version.width, w.code.width, w.pcn.width, w.qualifier.width, w.provider.width, w.date.width, w.vendor.width) refl

pub length_is : (h : Request) → IsRequest h → length (request_text h) ≡ 56
unfolding request_text
length_is h w = length-concat (request_fields h) ∙ ap total (widths_are h w)

cut_again : (bytes : List ℕ) (h : Request) → IsRequest h → take 56 bytes ≡ request_text h → cut widths bytes ≡ request_fields h
unfolding request_text
cut_again bytes h w e =
    let ws = widths_are h w in
    ap (λ (ns : List ℕ). cut ns bytes) (sym ws) ∙ cut_front bytes (request_fields h) (ap (λ (ns : List ℕ). take (total ns) bytes) ws ∙ e)

-- bytes whose front is the text of a header have its fields at their places
record Holds (bytes : List ℕ) (h : Request) : Type 0 where
  pub long : 56 ≤ length bytes
  pub bin : take 6 bytes ≡ h.bin
  pub version : take 2 (drop 6 bytes) ≡ h.version
  pub code : take 2 (drop 8 bytes) ≡ h.code
  pub pcn : take 10 (drop 10 bytes) ≡ h.pcn
  pub count : get_or bytes 20 0 ≡ 48 + h.count
  pub qualifier : take 2 (drop 21 bytes) ≡ h.qualifier
  pub provider : take 15 (drop 23 bytes) ≡ h.provider
  pub date : take 8 (drop 38 bytes) ≡ h.date
  pub vendor : take 10 (drop 46 bytes) ≡ h.vendor

holds : (bytes : List ℕ) (h : Request) → IsRequest h → take 56 bytes ≡ request_text h → Holds bytes h
holds bytes h w e =
    let long : 56 ≤ length bytes = front_fits bytes (request_text h) 56 e (length_is h w) in
    let all : take 6 bytes ∷ take 2 (drop 6 bytes) ∷ take 2 (drop 8 bytes) ∷ take 10 (drop 10 bytes) ∷ take 1 (drop 20 bytes) ∷ take 2 (drop 21 bytes) ∷ take 15 (drop 23 bytes) ∷ take 8 (drop 38 bytes) ∷ take 10 (drop 46 bytes) ∷ [] ≡ request_fields h = sym (cut_is bytes) ∙ cut_again bytes h w e in
    let one : take 1 (drop 20 bytes) ≡ get_or bytes 20 0 ∷ [] = one_byte bytes 20 (omega arith) in
    record {
      long = long;
      bin = cc;
      version = cc;
      code = cc;
      pcn = cc;
      count = cc;
      qualifier = cc;
      provider = cc;
      date = cc;
      vendor = cc;
    }

same_header : (bytes : List ℕ) (h : Request) → Holds bytes h → request_of bytes ≡ h
same_header bytes h p =
    let same : get_or bytes 20 0 - 48 ≡ h.count = omega (arith, p.count) in
    rw (p.bin, p.version, p.code, p.pcn, p.qualifier, p.provider, p.date, p.vendor, same) refl

-- the fields of a header have no separator
fields_plain : (h : Request) → IsRequest h → ArePlain (request_fields h)
fields_plain h w =
    let count : list_all is_plain ((48 + h.count) ∷ []) ≡ true = and_from (is_plain (48 + h.count)) true (count_is_plain h.count w.least) refl in
    let bin : list_all is_plain h.bin ≡ true = plain_from_digits h.bin w.bin.digits in
    let date : list_all is_plain h.date ≡ true = plain_from_digits h.date w.date.digits in
    (bin, (w.version.plain, (w.code.plain, (w.pcn.plain, (count, (w.qualifier.plain, (w.provider.plain, (date, (w.vendor.plain, tt)))))))))

passes_again : (bytes : List ℕ) (h : Request) → IsRequest h → take 56 bytes ≡ request_text h → Passes bytes
unfolding request_text
passes_again bytes h w e =
    let p = holds bytes h w e in
    record {
      long = p.long;
      bin = ap (list_all is_digit) p.bin ∙ w.bin.digits;
      count = ap is_count p.count ∙ count_passes h.count w.least w.most;
      date = ap (list_all is_digit) p.date ∙ w.date.digits;
      plain = ap (list_all is_plain) e ∙ text_passes (request_fields h) (fields_plain h w);
    }

-- bytes without a fault begin with the text of the fields at their places
pub text_stands : (bytes : List ℕ) → request_fault bytes ≡ None → bytes ≡ request_text (request_of bytes) ++ drop 56 bytes
text_stands bytes none =
    sym (take-append-drop 56 bytes) ∙ ap (λ (xs : List ℕ). xs ++ drop 56 bytes) (text_is bytes (passes_from_none bytes none))

pub sound : (bytes : List ℕ) → request_fault bytes ≡ None → IsRequest (request_of bytes)
sound bytes none = is_request bytes (passes_from_none bytes none)

front_is : (bytes : List ℕ) (h : Request) (rest : List ℕ) → IsRequest h → bytes ≡ request_text h ++ rest → take 56 bytes ≡ request_text h
front_is bytes h rest w e = ap (take 56) e ∙ take_at (request_text h) rest 56 (length_is h w)

-- bytes that begin with the text of a header have no fault
pub none_again : (bytes : List ℕ) (h : Request) (rest : List ℕ) → IsRequest h → bytes ≡ request_text h ++ rest → request_fault bytes ≡ None
none_again bytes h rest w e = none_from_passes bytes (passes_again bytes h w (front_is bytes h rest w e))

-- and its fields are those at their places
pub same_again : (bytes : List ℕ) (h : Request) (rest : List ℕ) → IsRequest h → bytes ≡ request_text h ++ rest → request_of bytes ≡ h
same_again bytes h rest w e = same_header bytes h (holds bytes h w (front_is bytes h rest w e))
