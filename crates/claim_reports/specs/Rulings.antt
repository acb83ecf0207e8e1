-- The rulings of a payer's table of rows that move a pharmacy's money, before a period and in it.
use Rattle.std.specs.Prelude.{◌≡◌, ℕ, ◌+◌, ◌==◌, ◌++◌, cond, List, [], ◌∷◌, Option, Some, None, bytes_eq, codes, filter, if◌then◌else◌, length, map, nat_le, nat_lt, option_map, take, ◌&&◌, Bool, unwrap_or}
use Rattle.std.specs.Option.{option_or}
use Rattle.claim_reports.specs.declared.ledger.Move.{Move}
use Rattle.claim_reports.specs.declared.ledger.Move.TheVariants.{Paid, Reversed}
use Rattle.claim_reports.specs.declared.rulings.Remittance.{Remittance}
use Rattle.claim_reports.specs.declared.rulings.RulingColumns.{RulingColumns}
use Rattle.claim_reports.specs.declared.naming.Name.TheVariants as name
use Rattle.claim_reports.specs.Names.{name_text}
use Rattle.claim_reports.specs.Causes.{Cause, bad_at, bad_if, bad_number, column_in, is_this, missing}
use Rattle.claim_reports.specs.Tables.{rows_of, column_of, cell, number_in, given, given_by, ◌>>=◌}

-- the columns of a table of rows
abbrev pub ruling_columns_in : List (List (List ℕ)) → RulingColumns
ruling_columns_in records = record {
  payer = column_in records name.Payer;
  pharmacy = column_in records name.Pharmacy;
  number = column_in records name.Number;
  transaction = column_in records name.Transaction;
  ruling = column_in records name.Ruling;
  auth = column_in records name.Authorization;
  prescription = column_in records name.Prescription;
  day = column_in records name.DateOfService;
  cents = column_in records name.PaidCents;
}

-- a ruling that moves money: its number among those of the payer, its row, and what it moves
pub record Ruling : Type 0 where
  pub number : ℕ
  pub row : List (List ℕ)
  pub moves : Move

-- a row, where it is one of the payer's
abbrev pub own_row : RulingColumns → ℕ → List (List ℕ) → Option (Option (List (List ℕ)))
own_row c payer row = option_map (λ (of : ℕ). cond (of == payer) (Some row) None) (number_in c.payer.place row)

-- what a payment moves, and a reversal
abbrev pub payment_of : RulingColumns → List (List ℕ) → Option (Option Move)
payment_of c row = do
  auth ← number_in c.auth.place row
  cents ← number_in c.cents.place row
  Some (Some (Paid auth cents))

abbrev pub reversal_of : RulingColumns → List (List ℕ) → Option (Option Move)
reversal_of c row = option_map (λ (auth : ℕ). Some (Reversed auth)) (number_in c.auth.place row)

-- what a ruling moves, if it moves anything
unfoldable pub move_of : RulingColumns → List (List ℕ) → Option (Option Move)
move_of c row =
    if bytes_eq (cell c.ruling.place row) (codes "paid") then payment_of c row else
    if bytes_eq (cell c.ruling.place row) (codes "reversed") then reversal_of c row else
    if bytes_eq (cell c.ruling.place row) (codes "duplicate") then Some None else
    if bytes_eq (cell c.ruling.place row) (codes "rejected") then Some None else None

-- where it is one of the pharmacy's
abbrev pub move_to : RulingColumns → ℕ → List (List ℕ) → Option (Option Move)
move_to c pharmacy row = do
  of ← number_in c.pharmacy.place row
  if of == pharmacy then move_of c row else Some None

-- a ruling of this number, where it moves something
abbrev pub numbered : ℕ → List (List ℕ) → Option Move → List Ruling
numbered number row one = map (λ (m : Move). record { number = number; row = row; moves = m }) (given one)

-- those rulings of a payer that move the pharmacy's money, of all its rulings in their order, of which the first has this number
abbrev pub rulings_from : RulingColumns → ℕ → ℕ → List (List (List ℕ)) → Option (List Ruling)
rulings_from c pharmacy number [] = Some []
rulings_from c pharmacy number (row ∷ more) = do
  one ← move_to c pharmacy row
  others ← rulings_from c pharmacy (number + 1) more
  Some (numbered number row one ++ others)

-- those of a table, up to the end of a period, and how many rulings the payer made up to there
pub record AreRulings (asked : Remittance) (records : List (List (List ℕ))) (c : RulingColumns) (rulings : List Ruling) (up_to : ℕ) : Type 0 where
  pub made : List (List (List ℕ))
  pub own : given_by (own_row c asked.payer) (rows_of records) ≡ Some made
  pub moved : rulings_from c asked.pharmacy 1 (take asked.up_to made) ≡ Some rulings
  pub count : up_to ≡ length (take asked.up_to made)

-- what those before a period moved; those in it, and what they moved
abbrev pub moves_before : ℕ → List Ruling → List Move
moves_before after rulings = map (λ (r : Ruling). r.moves) (filter (λ (r : Ruling). nat_le r.number after) rulings)

abbrev pub rulings_behind : ℕ → List Ruling → List Ruling
rulings_behind after rulings = filter (λ (r : Ruling). nat_lt after r.number) rulings

abbrev pub moves_behind : ℕ → List Ruling → List Move
moves_behind after rulings = map (λ (r : Ruling). r.moves) (rulings_behind after rulings)

-- ---- row by row

-- what was read so far
pub record Read : Type 0 where
  pub rulings : List Ruling
  pub up_to : ℕ

-- with a ruling more of the payer
abbrev pub with_ruling : Read → List (List ℕ) → Option Move → Read
with_ruling r row one = record { rulings = r.rulings ++ numbered (r.up_to + 1) row one; up_to = r.up_to + 1 }

abbrev pub read_own : RulingColumns → ℕ → Read → List (List ℕ) → Option Read
read_own c pharmacy r row = option_map (with_ruling r row) (move_to c pharmacy row)

-- with a row more: one of the payer counts up to the end of the period
unfoldable pub read_row : RulingColumns → Remittance → Read → List (List ℕ) → Option Read
read_row c asked r row = do
  payer ← number_in c.payer.place row
  if payer == asked.payer then (if nat_lt r.up_to asked.up_to then read_own c asked.pharmacy r row else Some r) else Some r

abbrev pub read_rows : RulingColumns → Remittance → Read → List (List (List ℕ)) → Option Read
read_rows c asked r [] = Some r
read_rows c asked r (row ∷ more) = do
  next ← read_row c asked r row
  read_rows c asked next more

-- ---- what is wrong with them

-- the first column that is not there
unfoldable pub ruling_columns_missing : ℕ → List (List (List ℕ)) → Option Cause
ruling_columns_missing table records =
    option_or (missing table records name.Payer) (option_or (missing table records name.Pharmacy) (option_or (missing table records name.Number)
    (option_or (missing table records name.Transaction) (option_or (missing table records name.Ruling) (option_or (missing table records name.Authorization)
    (option_or (missing table records name.Prescription) (option_or (missing table records name.DateOfService) (missing table records name.PaidCents))))))))

-- the first bad value of a ruling: of one of the pharmacy's the word for it; of a payment its authorization, then its cents; of a reversal its authorization
unfoldable pub payment_bad : RulingColumns → List (List ℕ) → Option (List ℕ)
payment_bad c row = option_or (bad_number c.auth row) (bad_number c.cents row)

unfoldable pub move_bad : RulingColumns → List (List ℕ) → Option (List ℕ)
move_bad c row =
    if bytes_eq (cell c.ruling.place row) (codes "paid") then payment_bad c row else
    if bytes_eq (cell c.ruling.place row) (codes "reversed") then bad_number c.auth row else
    if bytes_eq (cell c.ruling.place row) (codes "duplicate") then None else
    if bytes_eq (cell c.ruling.place row) (codes "rejected") then None else Some (name_text c.ruling.name)

unfoldable pub moved_bad : RulingColumns → ℕ → List (List ℕ) → Option (List ℕ)
moved_bad c pharmacy row = option_or (bad_number c.pharmacy row) (bad_if (is_this (number_in c.pharmacy.place row) pharmacy) (move_bad c row))

-- a row is a ruling of the payer up to the end of the period, where this many were before it
abbrev pub is_taken : RulingColumns → Remittance → ℕ → List (List ℕ) → Bool
is_taken c asked count row = is_this (number_in c.payer.place row) asked.payer && nat_lt count asked.up_to

unfoldable pub count_with : RulingColumns → Remittance → ℕ → List (List ℕ) → ℕ
count_with c asked count row = if is_taken c asked count row then count + 1 else count

-- of each row the payer is looked at, of such a ruling all else
unfoldable pub ruling_bad : RulingColumns → Remittance → ℕ → List (List ℕ) → Option (List ℕ)
ruling_bad c asked count row = option_or (bad_number c.payer row) (bad_if (is_taken c asked count row) (moved_bad c asked.pharmacy row))

-- the first bad value of rows, of which the first has this number, where this many of the payer's rulings were before them
abbrev pub rulings_bad : ℕ → RulingColumns → Remittance → ℕ → ℕ → List (List (List ℕ)) → Option Cause
rulings_bad table c asked count number [] = None
rulings_bad table c asked count number (row ∷ more) =
    option_or (bad_at table number (ruling_bad c asked count row)) (rulings_bad table c asked (count_with c asked count row) (number + 1) more)

-- rulings that move the pharmacy's money, each with its table and its row's place in it
pub record Placed : Type 0 where
  pub table : ℕ
  pub at : ℕ
  pub ruling : Ruling

abbrev pub placed : ℕ → ℕ → ℕ → List (List ℕ) → Option Move → List Placed
placed table at number row one = map (λ (r : Ruling). record { table = table; at = at; ruling = r }) (numbered number row one)

unfoldable pub placed_row : ℕ → RulingColumns → Remittance → ℕ → ℕ → List (List ℕ) → List Placed
placed_row table c asked count at row = if is_taken c asked count row then placed table at (count + 1) row (unwrap_or (move_to c asked.pharmacy row) None) else []

abbrev pub placed_from : ℕ → RulingColumns → Remittance → ℕ → ℕ → List (List (List ℕ)) → List Placed
placed_from table c asked count at [] = []
placed_from table c asked count at (row ∷ more) = placed_row table c asked count at row ++ placed_from table c asked (count_with c asked count row) (at + 1) more

-- these rulings, and those in the period
abbrev pub rulings_at : List Placed → List Ruling
rulings_at ps = map (λ (p : Placed). p.ruling) ps

abbrev pub placed_behind : ℕ → List Placed → List Placed
placed_behind after ps = filter (λ (p : Placed). nat_lt after p.ruling.number) ps
