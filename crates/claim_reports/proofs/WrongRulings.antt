-- What is wrong with rows of rulings, row by row, and where those that are read stand.
use Rattle.std.proofs.Common.{◌≡◌, ◌<◌, ◌≤◌, ℕ, ◌+◌, List, ◌++◌, length, get_or, map, drop, sym, ap, ◌∙◌, append_assoc, append-nil, arith}
use Rattle.std.specs.Prelude.{Option, None}
use Rattle.std.specs.Option.{option_or}
use Rattle.std.proofs.Math.ListN.{drop_of_length-le}
use Rattle.std.proofs.lemmas.List.{drop_more}
use Rattle.claim_reports.specs.declared.fault.ReportFault.{ReportFault}
use Rattle.claim_reports.specs.declared.rulings.Remittance.{Remittance}
use Rattle.claim_reports.specs.declared.rulings.RulingColumns.{RulingColumns}
use Rattle.claim_reports.specs.Causes.{Cause, Tells, bad_at}
use Rattle.claim_reports.specs.Rulings.{Placed, count_with, placed_from, placed_row, ruling_bad, rulings_bad}
use Rattle.claim_reports.proofs.Telling.{IsRowAt, tells_first, tells_same}

numbered : {B : Type 0} (table : ℕ) (records : List B) (i t n : ℕ) (held z : B) → IsRowAt table records i t n held z → n ≡ i + 1
numbered table records i t n held z row = let lt = row.lt in let few = row.few in row.at (omega arith)

next : {B : Type 0} (fields_of : B → List (List ℕ)) (table : ℕ) (c : RulingColumns) (asked : Remittance) (count i : ℕ) (records : List B) (z : B) → i < length records
    → rulings_bad table c asked count (i + 1) (map fields_of (drop i records))
    ≡ option_or (bad_at table (i + 1) (ruling_bad c asked count (fields_of (get_or records i z))))
    (rulings_bad table c asked (count_with c asked count (fields_of (get_or records i z))) (i + 1 + 1) (map fields_of (drop (i + 1) records)))
next {B} fields_of table c asked count i records z lt = ap (λ (xs : List B). rulings_bad table c asked count (i + 1) (map fields_of xs)) (drop_more records i z lt)

pub good_more : {B : Type 0} (fields_of : B → List (List ℕ)) (table : ℕ) (c : RulingColumns) (asked : Remittance) (count more i t n : ℕ) (records : List B) (held z : B) (all : Option Cause)
    → IsRowAt table records i t n held z → bad_at t n (ruling_bad c asked count (fields_of held)) ≡ None → more ≡ count_with c asked count (fields_of held)
    → all ≡ rulings_bad table c asked count (i + 1) (map fields_of (drop i records))
    → all ≡ rulings_bad table c asked more (i + 1 + 1) (map fields_of (drop (i + 1) records))
good_more {B} fields_of table c asked count more i t n records held z all row none counts so_far =
    so_far ∙ next fields_of table c asked count i records z row.lt
    ∙ (λ j. option_or (bad_at (sym row.of j) (sym (numbered table records i t n held z row) j) (ruling_bad c asked count (fields_of (sym row.is j))))
    (rulings_bad table c asked (count_with c asked count (fields_of (sym row.is j))) (i + 1 + 1) (map fields_of (drop (i + 1) records))))
    ∙ (λ j. option_or (none j) (rulings_bad table c asked (sym counts j) (i + 1 + 1) (map fields_of (drop (i + 1) records))))

pub bad_here : {B : Type 0} (fields_of : B → List (List ℕ)) (table : ℕ) (c : RulingColumns) (asked : Remittance) (count i t n : ℕ) (records : List B) (held z : B) (all : Option Cause) (e : ReportFault)
    → IsRowAt table records i t n held z → Tells e (bad_at t n (ruling_bad c asked count (fields_of held)))
    → all ≡ rulings_bad table c asked count (i + 1) (map fields_of (drop i records)) → Tells e all
bad_here fields_of table c asked count i t n records held z all e row is so_far =
    tells_same e _ all (so_far ∙ next fields_of table c asked count i records z row.lt)
    (tells_first e _ _ (tells_same e _ _ (λ j. bad_at (sym row.of j) (sym (numbered table records i t n held z row) j) (ruling_bad c asked count (fields_of (sym row.is j)))) is))

pub good_end : {B : Type 0} (fields_of : B → List (List ℕ)) (table : ℕ) (c : RulingColumns) (asked : Remittance) (count i : ℕ) (records : List B) (all : Option Cause) → length records ≤ i
    → all ≡ rulings_bad table c asked count (i + 1) (map fields_of (drop i records)) → all ≡ None
good_end {B} fields_of table c asked count i records all le so_far =
    so_far ∙ ap (λ (xs : List B). rulings_bad table c asked count (i + 1) (map fields_of xs)) (drop_of_length-le records le)

-- ---- where they stand

pub placed_more : {B : Type 0} (fields_of : B → List (List ℕ)) (table : ℕ) (c : RulingColumns) (asked : Remittance) (count more i t n : ℕ) (records : List B) (held z : B) (all old new : List Placed)
    → IsRowAt table records i t n held z → new ≡ old ++ placed_row t c asked count n (fields_of held) → more ≡ count_with c asked count (fields_of held)
    → all ≡ old ++ placed_from table c asked count (i + 1) (map fields_of (drop i records))
    → all ≡ new ++ placed_from table c asked more (i + 1 + 1) (map fields_of (drop (i + 1) records))
placed_more {B} fields_of table c asked count more i t n records held z all old new row adds counts so_far =
    so_far
    ∙ ap (λ (xs : List B). old ++ placed_from table c asked count (i + 1) (map fields_of xs)) (drop_more records i z row.lt)
    ∙ (λ j. old ++ (placed_row (sym row.of j) c asked count (sym (numbered table records i t n held z row) j) (fields_of (sym row.is j))
    ++ placed_from table c asked (count_with c asked count (fields_of (sym row.is j))) (i + 1 + 1) (map fields_of (drop (i + 1) records))))
    ∙ sym (append_assoc old (placed_row t c asked count n (fields_of held)) (placed_from table c asked (count_with c asked count (fields_of held)) (i + 1 + 1) (map fields_of (drop (i + 1) records))))
    ∙ (λ j. sym adds j ++ placed_from table c asked (sym counts j) (i + 1 + 1) (map fields_of (drop (i + 1) records)))

pub placed_end : {B : Type 0} (fields_of : B → List (List ℕ)) (table : ℕ) (c : RulingColumns) (asked : Remittance) (count i : ℕ) (records : List B) (all old : List Placed) → length records ≤ i
    → all ≡ old ++ placed_from table c asked count (i + 1) (map fields_of (drop i records)) → all ≡ old
placed_end {B} fields_of table c asked count i records all old le so_far =
    so_far ∙ ap (λ (xs : List B). old ++ placed_from table c asked count (i + 1) (map fields_of xs)) (drop_of_length-le records le) ∙ append-nil old
