-- The header of a request: its fields, its text and its faults.
use Rattle.std.specs.Prelude.{ℕ, ◌+◌, ◌-◌, ◌≤◌, nat_lt, not, if◌then◌else◌, List, [], ◌∷◌, length, take, drop, slice_index, Option, Some}
use Rattle.std.specs.Option.{option_map}
use Rattle.std.specs.List.{list_all, concat}
use Rattle.d0_header.specs.Field.{is_digit, is_count, first_separator, IsPlain, IsDigits}
use Rattle.d0_header.specs.declared.fault.HeaderFault.{HeaderFault}
use Rattle.d0_header.specs.declared.fault.HeaderFault.TheVariants.{Short, BadBin, BadCount, DateNotDigits, Separator}

-- the fields in the order of the standard; the count is the number that its digit names
pub record Request : Type 0 where
  pub bin : List ℕ
  pub version : List ℕ
  pub code : List ℕ
  pub pcn : List ℕ
  pub count : ℕ
  pub qualifier : List ℕ
  pub provider : List ℕ
  pub date : List ℕ
  pub vendor : List ℕ

-- what each field of a header is
pub record IsRequest (h : Request) : Type 0 where
  pub bin : IsDigits 6 h.bin
  pub version : IsPlain 2 h.version
  pub code : IsPlain 2 h.code
  pub pcn : IsPlain 10 h.pcn
  pub least : 1 ≤ h.count
  pub most : h.count ≤ 4
  pub qualifier : IsPlain 2 h.qualifier
  pub provider : IsPlain 15 h.provider
  pub date : IsDigits 8 h.date
  pub vendor : IsPlain 10 h.vendor

-- the fields as they stand in the text
abbrev pub request_fields : Request → List (List ℕ)
request_fields h =
    h.bin ∷ h.version ∷ h.code ∷ h.pcn ∷ ((48 + h.count) ∷ []) ∷ h.qualifier ∷ h.provider ∷ h.date ∷ h.vendor ∷ []

-- the fields one after another
unfoldable pub request_text : Request → List ℕ
request_text h = concat (request_fields h)

-- the fields that stand at their places in bytes
abbrev pub request_of : List ℕ → Request
request_of bytes = record {
  bin = take 6 bytes;
  version = take 2 (drop 6 bytes);
  code = take 2 (drop 8 bytes);
  pcn = take 10 (drop 10 bytes);
  count = slice_index bytes 20 - 48;
  qualifier = take 2 (drop 21 bytes);
  provider = take 15 (drop 23 bytes);
  date = take 8 (drop 38 bytes);
  vendor = take 10 (drop 46 bytes);
}

-- the first fault, in the order of the tests
unfoldable pub request_fault : List ℕ → Option HeaderFault
request_fault bytes =
    if nat_lt (length bytes) 56 then Some Short
    else (if not (list_all is_digit (take 6 bytes)) then Some BadBin
    else (if not (is_count (slice_index bytes 20)) then Some BadCount
    else (if not (list_all is_digit (take 8 (drop 38 bytes))) then Some DateNotDigits
    else option_map Separator (first_separator (take 56 bytes)))))
