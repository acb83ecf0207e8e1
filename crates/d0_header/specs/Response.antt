-- The header of a response: its fields, its text and its faults.
use Rattle.std.specs.Prelude.{ℕ, ◌+◌, ◌-◌, ◌≤◌, nat_lt, not, if◌then◌else◌, List, [], ◌∷◌, length, take, drop, slice_index, Option, Some, IsTrue}
use Rattle.std.specs.Option.{option_map}
use Rattle.std.specs.List.{list_all, concat}
use Rattle.d0_header.specs.Field.{is_digit, is_count, is_plain, first_separator, IsPlain, IsDigits}
use Rattle.d0_header.specs.Request.{Request}
use Rattle.d0_header.specs.declared.fault.HeaderFault.{HeaderFault}
use Rattle.d0_header.specs.declared.fault.HeaderFault.TheVariants.{Short, BadCount, DateNotDigits, Separator}

-- the fields in the order of the standard; the count is the number that its digit names
pub record Response : Type 0 where
  pub version : List ℕ
  pub code : List ℕ
  pub count : ℕ
  pub status : ℕ
  pub qualifier : List ℕ
  pub provider : List ℕ
  pub date : List ℕ

-- what each field of a header is
pub record IsResponse (h : Response) : Type 0 where
  pub version : IsPlain 2 h.version
  pub code : IsPlain 2 h.code
  pub least : 1 ≤ h.count
  pub most : h.count ≤ 4
  pub status : IsTrue (is_plain h.status)
  pub qualifier : IsPlain 2 h.qualifier
  pub provider : IsPlain 15 h.provider
  pub date : IsDigits 8 h.date

-- the fields as they stand in the text
abbrev pub response_fields : Response → List (List ℕ)
response_fields h =
    h.version ∷ h.code ∷ ((48 + h.count) ∷ []) ∷ (h.status ∷ []) ∷ h.qualifier ∷ h.provider ∷ h.date ∷ []

-- the fields one after another
unfoldable pub response_text : Response → List ℕ
response_text h = concat (response_fields h)

-- the fields that stand at their places in bytes
abbrev pub response_of : List ℕ → Response
response_of bytes = record {
  version = take 2 bytes;
  code = take 2 (drop 2 bytes);
  count = slice_index bytes 4 - 48;
  status = slice_index bytes 5;
  qualifier = take 2 (drop 6 bytes);
  provider = take 15 (drop 8 bytes);
  date = take 8 (drop 23 bytes);
}

-- the first fault, in the order of the tests
unfoldable pub response_fault : List ℕ → Option HeaderFault
response_fault bytes =
    if nat_lt (length bytes) 31 then Some Short
    else (if not (is_count (slice_index bytes 4)) then Some BadCount
    else (if not (list_all is_digit (take 8 (drop 23 bytes))) then Some DateNotDigits
    else option_map Separator (first_separator (take 31 bytes))))

-- the header that answers a request: version D0, the status, and all else as the request has it
abbrev pub answer_to : Request → ℕ → Response
answer_to h status = record {
  version = 68 ∷ 48 ∷ [];
  code = h.code;
  count = h.count;
  status = status;
  qualifier = h.qualifier;
  provider = h.provider;
  date = h.date;
}
