-- What is wrong with the lines of a remittance, line by line.
use Rattle.std.proofs.Common.{◌≡◌, ◌<◌, ◌≤◌, ℕ, ◌+◌, List, [], ◌∷◌, ◌++◌, length, get_or, map, drop, take, refl, sym, ap, ◌∙◌, append_assoc, append-nil, arith}
use Rattle.std.specs.Prelude.{Option, None}
use Rattle.std.specs.Option.{option_or}
use Rattle.std.proofs.Math.ListN.{drop_of_length-le}
use Rattle.std.proofs.lemmas.List.{drop_more, map-append, take_more}
use Rattle.claim_reports.specs.declared.fault.ReportFault.{ReportFault}
use Rattle.claim_reports.specs.declared.ledger.Move.{Move}
use Rattle.claim_reports.specs.declared.rulings.Line.{Line}
use Rattle.claim_reports.specs.declared.rulings.RulingColumns.{RulingColumns}
use Rattle.claim_reports.specs.Causes.{Cause, Tells, bad_at}
use Rattle.claim_reports.specs.Ledger.{moves_cause}
use Rattle.claim_reports.specs.Remitted.{lines_cause}
use Rattle.claim_reports.specs.Statement.{numbers_bad}
use Rattle.claim_reports.specs.Rulings.{Placed, Ruling, rulings_at}
use Rattle.claim_reports.specs.RulingsSeen.{line_placed, line_seen, lines_placed, lines_seen}
use Rattle.claim_reports.proofs.Telling.{tells_first, tells_same, tells_then}

-- what the lines up to a place moved, after the rulings before them
abbrev pub moved_by : List Move → ℕ → List Line → List Move
moved_by before i lines = before ++ map (λ (r : Ruling). r.moves) (lines_seen (take i lines))

-- what is wrong with a line
abbrev pub row_cause : RulingColumns → Placed → Option Cause
row_cause c p = bad_at p.table p.at (numbers_bad c p.ruling.row)

next : (c : RulingColumns) (before : List Move) (number i : ℕ) (lines : List Line) (d : Line) → i < length lines
    → lines_cause c before number (lines_placed (drop i lines))
    ≡ option_or (moves_cause before number 0 0 ((line_seen (get_or lines i d)).moves ∷ [])) (option_or (row_cause c (line_placed (get_or lines i d)))
    (lines_cause c (before ++ (line_seen (get_or lines i d)).moves ∷ []) (number + 1) (lines_placed (drop (i + 1) lines))))
unfolding lines_cause
next c before number i lines d lt = ap (λ (xs : List Line). lines_cause c before number (lines_placed xs)) (drop_more lines i d lt)

moved_more : (before : List Move) (i : ℕ) (lines : List Line) (d : Line) → i < length lines → moved_by before i lines ++ (line_seen (get_or lines i d)).moves ∷ [] ≡ moved_by before (i + 1) lines
moved_more before i lines d lt =
    let moves = λ (r : Ruling). r.moves in
    let line = get_or lines i d in
    append_assoc before (map moves (lines_seen (take i lines))) ((line_seen line).moves ∷ [])
    ∙ ap (λ (xs : List Move). before ++ xs)
    (sym
    (ap (λ (xs : List Line). map moves (lines_seen xs)) (take_more lines i d lt)
    ∙ ap (map moves) (map-append line_seen (take i lines) (line ∷ [])) ∙ map-append moves (lines_seen (take i lines)) (line_seen line ∷ [])))

pub lines_begin : (c : RulingColumns) (before : List Move) (lines : List Line)
    → lines_cause c before (length before + 1) (lines_placed lines) ≡ lines_cause c (moved_by before 0 lines) (length before + 0 + 1) (lines_placed lines)
lines_begin c before lines =
    let number : length before + 1 ≡ length before + 0 + 1 = omega arith in
    λ j. lines_cause c (sym (append-nil before) j) (number j) (lines_placed lines)

pub lines_good : (c : RulingColumns) (before : List Move) (number i : ℕ) (lines : List Line) (d : Line) (all : Option Cause) → i < length lines
    → moves_cause (moved_by before i lines) number 0 0 ((line_seen (get_or lines i d)).moves ∷ []) ≡ None → row_cause c (line_placed (get_or lines i d)) ≡ None
    → all ≡ lines_cause c (moved_by before i lines) number (lines_placed (drop i lines))
    → all ≡ lines_cause c (moved_by before (i + 1) lines) (number + 1) (lines_placed (drop (i + 1) lines))
lines_good c before number i lines d all lt none good so_far =
    so_far ∙ next c (moved_by before i lines) number i lines d lt
    ∙ (λ j. option_or (none j) (option_or (good j) (lines_cause c (moved_more before i lines d lt j) (number + 1) (lines_placed (drop (i + 1) lines)))))

pub move_wrong : (c : RulingColumns) (before : List Move) (number i : ℕ) (lines : List Line) (d : Line) (all : Option Cause) (e : ReportFault) → i < length lines
    → Tells e (moves_cause (moved_by before i lines) number 0 0 ((line_seen (get_or lines i d)).moves ∷ []))
    → all ≡ lines_cause c (moved_by before i lines) number (lines_placed (drop i lines)) → Tells e all
move_wrong c before number i lines d all e lt is so_far =
    tells_same e _ all (so_far ∙ next c (moved_by before i lines) number i lines d lt) (tells_first e _ _ is)

pub row_wrong : (c : RulingColumns) (before : List Move) (number i : ℕ) (lines : List Line) (d : Line) (all : Option Cause) (e : ReportFault) → i < length lines
    → moves_cause (moved_by before i lines) number 0 0 ((line_seen (get_or lines i d)).moves ∷ []) ≡ None → Tells e (row_cause c (line_placed (get_or lines i d)))
    → all ≡ lines_cause c (moved_by before i lines) number (lines_placed (drop i lines)) → Tells e all
row_wrong c before number i lines d all e lt none is so_far =
    tells_same e _ all (so_far ∙ next c (moved_by before i lines) number i lines d lt) (tells_then e _ _ none (tells_first e _ _ is))

pub lines_fine : (c : RulingColumns) (before : List Move) (number i : ℕ) (lines : List Line) (all : Option Cause) → length lines ≤ i
    → all ≡ lines_cause c (moved_by before i lines) number (lines_placed (drop i lines)) → all ≡ None
unfolding lines_cause
lines_fine c before number i lines all le so_far =
    so_far ∙ ap (λ (xs : List Line). lines_cause c (moved_by before i lines) number (lines_placed xs)) (drop_of_length-le lines le)

-- rulings without their places
pub seen_is : (lines : List Line) → rulings_at (lines_placed lines) ≡ lines_seen lines
seen_is [] = refl
seen_is (l ∷ more) = ap (λ (rs : List Ruling). line_seen l ∷ rs) (seen_is more)
