-- The numbers of a payer's books, and their text.
use Rattle.std.specs.Prelude.{ℕ, ◌+◌, ◌-◌, ◌==◌, ◌&&◌, ◌++◌, Bool, true, false, if◌then◌else◌, List, [], ◌∷◌, Option, Some, None, codes, decimal, drop, length, nat_le, nat_lt, option_map, position, replicate, take}
use Rattle.std.specs.List.{flat_map, list_all, list_any}
use Rattle.input_text.specs.Decimals.{decimal_number}
use Rattle.claim_reports.specs.Tables.{◌>>=◌}
use Rattle.claim_reports.specs.declared.books.Span.{Span}

-- what stands after the numbers and ranges in a room for 32
abbrev pub padding : List Span → List Span
padding spans = replicate (32 - length spans) (record { first = 0; last = 0 })

-- ---- which numbers they are

-- a number is from the first to the last
abbrev pub contains : Span → ℕ → Bool
contains s number = nat_le s.first number && nat_le number s.last

-- a number is one of them
abbrev pub has : List Span → ℕ → Bool
has spans number = list_any (λ (s : Span). contains s number) spans

-- a number that is there is one of them
abbrev pub is_in : List Span → Option ℕ → Bool
is_in spans None = false
is_in spans (Some number) = has spans number

-- a number is one of those that are wanted, where some are
abbrev pub is_of : Option (List Span) → ℕ → Bool
is_of None number = true
is_of (Some spans) number = has spans number

-- the number, where it is one
abbrev pub one_of : List Span → Option ℕ
one_of [] = None
one_of (s ∷ []) = if s.first == s.last then Some s.first else None
one_of (s ∷ t ∷ more) = None

-- ---- how a text names them

-- the place of the first byte like one
abbrev pub first_of : ℕ → List ℕ → Option ℕ
first_of like text = position (λ (byte : ℕ). byte == like) text

-- the parts of a text between its commas
abbrev pub onto : ℕ → List (List ℕ) → List (List ℕ)
onto byte [] = (byte ∷ []) ∷ []
onto byte (part ∷ more) = (byte ∷ part) ∷ more

abbrev pub parts : List ℕ → List (List ℕ)
parts [] = [] ∷ []
parts (byte ∷ more) = if byte == 44 then [] ∷ parts more else onto byte (parts more)

-- a number, or a first and a last one, which is larger
abbrev pub span_of : ℕ → ℕ → Option Span
span_of first last = if nat_lt first last then Some (record { first = first; last = last }) else None

abbrev pub range_in : List ℕ → List ℕ → Option Span
range_in before behind = do
  first ← decimal_number 18 before
  last ← decimal_number 18 behind
  span_of first last

abbrev pub span_at : List ℕ → Option ℕ → Option Span
span_at part None = option_map (λ (number : ℕ). record { first = number; last = number }) (decimal_number 18 part)
span_at part (Some place) = range_in (take place part) (drop (place + 1) part)

abbrev pub span_in : List ℕ → Option Span
span_in part = span_at part (first_of 45 part)

-- each is before a number
abbrev pub is_behind : List Span → ℕ → Bool
is_behind spans number = list_all (λ (s : Span). nat_lt s.last number) spans

-- with one more, which is behind them
abbrev pub with_span : List Span → Span → Option (List Span)
with_span spans s = if nat_lt (length spans) 32 && is_behind spans s.first then Some (spans ++ s ∷ []) else None

abbrev pub with_part : List Span → List ℕ → Option (List Span)
with_part spans part = do
  s ← span_in part
  with_span spans s

abbrev pub more_of : Option (List Span) → List ℕ → Option (List Span)
more_of None part = None
more_of (Some spans) part = with_part spans part

abbrev pub with_parts : Option (List Span) → List (List ℕ) → Option (List Span)
with_parts books [] = books
with_parts books (part ∷ more) = with_parts (more_of books part) more

-- the books that a text names, each part behind those before it
unfoldable pub books_in : List ℕ → Option (List Span)
books_in text = with_parts (Some []) (parts text)

-- ---- their text

abbrev pub span_text : Span → List ℕ
span_text s = if s.first == s.last then decimal s.first else decimal s.first ++ codes "-" ++ decimal s.last

abbrev pub behind_comma : Span → List ℕ
behind_comma s = codes "," ++ span_text s

abbrev pub books_text : List Span → List ℕ
books_text [] = []
books_text (s ∷ more) = span_text s ++ flat_map behind_comma more
