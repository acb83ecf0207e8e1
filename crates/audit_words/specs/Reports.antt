-- Which report on tables the words of a command line ask for.
use Rattle.std.specs.Prelude.{ℕ, ◌-◌, ◌^◌, ◌&&◌, ◌||◌, List, [], ◌∷◌, Option, Some, None, option_map, unwrap_or, is_none, Bool, bytes_eq, codes, if◌then◌else◌}
use Rattle.std.specs.Option.{option_flatten}
use Rattle.clap.specs.Words.{first_value}
use Rattle.clap.specs.declared.parser.matches.Found.{Found}
use Rattle.claim_reports.specs.declared.books.Span.{Span}
use Rattle.claim_reports.specs.declared.choice.Choice.{Choice}
use Rattle.claim_reports.specs.declared.daily.DailyRemittance.{DailyRemittance}
use Rattle.claim_reports.specs.declared.reporting.Report.{Report}
use Rattle.claim_reports.specs.declared.reporting.Report.TheVariants.{Totals, Lines, Sums, DailyLines, DailySums, Compare, Receipts, Ruled}
use Rattle.claim_reports.specs.declared.rulings.Remittance.{Remittance}
use Rattle.claim_reports.specs.declared.sides.Between.{Between}
use Rattle.claim_reports.specs.declared.totalling.Days.{Days}
use Rattle.claim_reports.specs.declared.totalling.Days.TheVariants.{Service, Ruling}
use Rattle.claim_reports.specs.declared.totals.By.{By}
use Rattle.claim_reports.specs.declared.totals.By.TheVariants.{Payer, Pharmacy, Day, All}
use Rattle.claim_reports.specs.Shelves.{one_of}
use Rattle.audit_words.specs.Choosing.{asked_ones, fitting, one_at_most, ◌>>=◌}
use Rattle.audit_words.specs.Found.{books_of, is_given, is_there, number_of}

-- ---- whom and what a report is about

-- the number under a word, where one is given; the number under a word that has to be there
abbrev pub maybe : Found → List ℕ → Option (Option ℕ)
maybe f name = number_of (first_value f name)

abbrev pub wanted : Found → List ℕ → Option ℕ
wanted f name = option_flatten (maybe f name)

-- the books under `--payer`, where some are given; those that have to be
abbrev pub maybe_books : Found → Option (Option (List Span))
maybe_books f = books_of (first_value f (codes "payer"))

abbrev pub wanted_books : Found → Option (List Span)
wanted_books f = option_flatten (maybe_books f)

unfoldable pub between_in : Found → Option Between
between_in f = do
  books ← wanted_books f
  pharmacy ← wanted f (codes "pharmacy")
  Some (record { books = books; pharmacy = pharmacy })

unfoldable pub choice_in : Found → Option Choice
choice_in f = do
  books ← maybe_books f
  pharmacy ← maybe f (codes "pharmacy")
  from ← maybe f (codes "from")
  to ← maybe f (codes "to")
  Some (record { books = books; pharmacy = pharmacy; from = from; to = to })

-- a remittance of one book is of all rulings, and of one that owed nothing, where nothing else is said
unfoldable pub remittance_in : Found → ℕ → Option Remittance
remittance_in f payer = do
  pharmacy ← wanted f (codes "pharmacy")
  after ← maybe f (codes "after")
  up_to ← maybe f (codes "up-to")
  owed ← maybe f (codes "owed")
  Some (record { payer = payer; pharmacy = pharmacy; after = unwrap_or after 0; up_to = unwrap_or up_to (2 ^ 64 - 1); owed = unwrap_or owed 0 })

-- one of several books is of days of ruling, and the places of rulings are not said
unfoldable pub daily_in : Found → List Span → Option DailyRemittance
daily_in f books =
    if is_there f (codes "after") || is_there f (codes "up-to") then None else do
      pharmacy ← wanted f (codes "pharmacy")
      from ← maybe f (codes "from")
      to ← maybe f (codes "to")
      owed ← maybe f (codes "owed")
      Some (record { books = books; pharmacy = pharmacy; from = from; to = to; owed = unwrap_or owed 0 })

-- totals are by days of service, or, where that is said, by days of ruling
abbrev pub days_in : Found → Days
days_in f = if is_given f (codes "by-ruling") then Ruling else Service

abbrev pub by_named : List ℕ → Option By
by_named word =
    if bytes_eq word (codes "payer") then Some Payer else
    if bytes_eq word (codes "pharmacy") then Some Pharmacy else
    if bytes_eq word (codes "day") then Some Day else
    if bytes_eq word (codes "all") then Some All else None

abbrev pub totals_by : Found → List ℕ → Option Report
totals_by f word = do
  by ← by_named word
  choice ← choice_in f
  Some (Totals by (days_in f) choice)

abbrev pub daily_named : Found → List ℕ → List Span → Option Report
daily_named f word books = do
  asked ← daily_in f books
  if bytes_eq word (codes "lines") then Some (DailyLines asked) else if bytes_eq word (codes "sums") then Some (DailySums asked) else None

abbrev pub placed_named : Found → List ℕ → ℕ → Option Report
placed_named f word payer = do
  asked ← remittance_in f payer
  if bytes_eq word (codes "lines") then Some (Lines asked) else if bytes_eq word (codes "sums") then Some (Sums asked) else None

-- of one book by the places of its rulings, of several by days
abbrev pub by_count : Found → List ℕ → List Span → Option ℕ → Option Report
by_count f word books (Some payer) = placed_named f word payer
by_count f word books None = daily_named f word books

abbrev pub remittance_named : Found → List ℕ → Option Report
remittance_named f word = do
  books ← wanted_books f
  by_count f word books (one_of books)

-- ---- the five reports: each where its own word is given, and then what it is, where the other words fit it

abbrev pub compare_in : Found → Option (Option Report)
compare_in f = if is_given f (codes "compare") then Some (option_map Compare (between_in f)) else None

abbrev pub receipts_in : Found → Option (Option Report)
receipts_in f = if is_given f (codes "receipts") then Some (option_map Receipts (wanted f (codes "pharmacy"))) else None

abbrev pub ruled_in : Found → Option (Option Report)
ruled_in f = if is_given f (codes "ruled") then Some (Some Ruled) else None

abbrev pub totals_in : Found → Option (Option Report)
totals_in f = option_map (totals_by f) (first_value f (codes "totals"))

abbrev pub remittances_in : Found → Option (Option Report)
remittances_in f = option_map (remittance_named f) (first_value f (codes "remittance"))

-- those whose words are given
abbrev pub reports_in : Found → List (Option Report)
reports_in f = asked_ones (compare_in f ∷ receipts_in f ∷ ruled_in f ∷ totals_in f ∷ remittances_in f ∷ [])

-- days of ruling are of totals alone
abbrev pub is_stray : Found → Bool
is_stray f = is_none (totals_in f) && is_given f (codes "by-ruling")

-- the report that is asked for, if one is: one at most, and the other words fit it
abbrev pub report_in : Found → Option (Option Report)
report_in f = if is_stray f then None else (one_at_most (reports_in f) >>= fitting)

-- how many tables a report has after the first
abbrev pub other_tables : Report → ℕ
other_tables (Compare between) = 2
other_tables (Receipts pharmacy) = 2
other_tables Ruled = 1
other_tables (Totals by days choice) = 0
other_tables (Lines asked) = 0
other_tables (Sums asked) = 0
other_tables (DailyLines asked) = 0
other_tables (DailySums asked) = 0
