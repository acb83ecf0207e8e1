-- What was found of the words of a command line.
use Rattle.std.specs.Prelude.{ℕ, Bool, false, List, Option, Some, None, option_map, bytes_eq, codes, is_some, length}
use Rattle.clap.specs.Words.{first_value, matched_of, raw_values}
use Rattle.clap.specs.declared.parser.matches.Found.{Found}
use Rattle.input_text.specs.Decimals.{decimal_number}
use Rattle.claim_reports.specs.declared.books.Span.{Span}
use Rattle.claim_reports.specs.Shelves.{books_in}

-- a text is the one that is meant
abbrev pub is_text : Option (List ℕ) → List ℕ → Bool
is_text None meant = false
is_text (Some text) meant = bytes_eq text meant

-- a word without a value is given
abbrev pub is_given : Found → List ℕ → Bool
is_given f name = is_text (first_value f name) (codes "true")

-- the number that a text spells in at most 18 digits, where there is a text; none at all where it spells none
abbrev pub number_of : Option (List ℕ) → Option (Option ℕ)
number_of None = Some None
number_of (Some text) = option_map Some (decimal_number 18 text)

-- the books that a text names, where there is a text; none at all where it names none
abbrev pub books_of : Option (List ℕ) → Option (Option (List Span))
books_of None = Some None
books_of (Some text) = option_map Some (books_in text)

-- a word with a value is given
abbrev pub is_there : Found → List ℕ → Bool
is_there f name = is_some (first_value f name)

-- how many values a word has
abbrev pub count_in : Option (List (List ℕ)) → ℕ
count_in None = 0
count_in (Some values) = length values

abbrev pub count_of : Found → List ℕ → ℕ
count_of f name = count_in (option_map raw_values (matched_of f name))
