-- Rulings that are read row by row, and their lines.
use Rattle.std.proofs.Common.{◌≡◌, ◌<◌, ℕ, ◌+◌, ◌-◌, ◌==◌, Bool, true, false, cond, List, [], ◌∷◌, ◌++◌, length, get_or, map, take, drop, refl, sym, ap, subst, ◌∙◌, append_assoc, append-nil, arith}
use Rattle.std.specs.Prelude.{Option, Some, None, Result, Ok, Err, IfOk, codes, suc, if◌then◌else◌, nat_lt, option_map, unwrap_or}
use Rattle.std.proofs.Math.Seq.{take-nil}
use Rattle.std.proofs.lemmas.Bool.{ltb-true, ltb-false}
use Rattle.std.proofs.lemmas.List.{drop_more, map-append, take_more}
use Rattle.claim_reports.specs.declared.ledger.Move.{Move}
use Rattle.claim_reports.specs.declared.rulings.Remittance.{Remittance}
use Rattle.claim_reports.specs.declared.rulings.RulingColumns.{RulingColumns}
use Rattle.table_text.specs.Rows.{head_text}
use Rattle.claim_reports.specs.Rulings.{ruling_columns_in, moves_before, moves_behind, rulings_behind, Ruling, Read, own_row, move_to, numbered, rulings_from, AreRulings, with_ruling, read_own, read_row, read_rows}
use Rattle.claim_reports.specs.declared.ledger.Ledger.{Ledger}
use Rattle.claim_reports.specs.declared.ledger.Moved.{Moved}
use Rattle.claim_reports.specs.Ledger.{IsLedgerOf, TakesAll, back_cents, taken_back}
use Rattle.claim_reports.specs.Remitted.{AddsLine, AddsLines, IsRemitted, IsSummed, line_text, lines_text, title_of}
use Rattle.claim_reports.specs.Statement.{IsSums, Title, line_names}
use Rattle.claim_reports.specs.Tables.{AreRecordsOf, given, given_by, rows_of, number_in, ◌>>=◌}
use Rattle.claim_reports.proofs.Rowwise.{behind, behind_nothing, by_one}

-- a row more
pub reads_on : {B : Type 0} (c : RulingColumns) (asked : Remittance) (fields_of : B → List (List ℕ)) (records : List B) (i : ℕ) (d : B) (r next : Read) (all : Option Read) → i < length records
    → read_row c asked r (fields_of (get_or records i d)) ≡ Some next
    → all ≡ read_rows c asked r (map fields_of (drop i records)) → all ≡ read_rows c asked next (map fields_of (drop (i + 1) records))
reads_on c asked fields_of records i d r next all lt e so_far =
    so_far ∙ ap (λ rows. read_rows c asked r (map fields_of rows)) (drop_more records i d lt)
    ∙ ap (λ (o : Option Read). o >>= (λ (n : Read). read_rows c asked n (map fields_of (drop (i + 1) records)))) e

-- ---- what is read row by row is what lists say

-- what is read of rows after others
record IsRead (c : RulingColumns) (asked : Remittance) (old : Read) (rows : List (List (List ℕ))) (new : Read) : Type 0 where
  made : List (List (List ℕ))
  own : given_by (own_row c asked.payer) rows ≡ Some made
  more : List Ruling
  moved : rulings_from c asked.pharmacy (old.up_to + 1) (take (asked.up_to - old.up_to) made) ≡ Some more
  rulings : new.rulings ≡ old.rulings ++ more
  count : new.up_to ≡ old.up_to + length (take (asked.up_to - old.up_to) made)

-- the rows of a payer, with one before them that is its own or is not
own_before : (c : RulingColumns) (payer p : ℕ) (b : Bool) (row : List (List ℕ)) (rest made : List (List (List ℕ))) → number_in c.payer.place row ≡ Some p → (p == payer) ≡ b
    → given_by (own_row c payer) rest ≡ Some made → given_by (own_row c payer) (row ∷ rest) ≡ Some (given (cond b (Some row) None) ++ made)
own_before c payer p b row rest made is same own =
    by_one (own_row c payer) row rest (cond b (Some row) None)
    (ap (option_map (λ (of : ℕ). cond (of == payer) (Some row) None)) is ∙ ap (λ (t : Bool). let o : Option (Option (List (List ℕ))) = Some (cond t (Some row) None) in o) same)
    ∙ ap (option_map (λ ys. given (cond b (Some row) None) ++ ys)) own

none_taken : {A : Type 0} (k : ℕ) (xs ys : List A) → k ≡ 0 → take k xs ≡ take k ys
none_taken {A} k xs ys none = ap (λ (n : ℕ). take n xs) none ∙ sym (ap (λ (n : ℕ). take n ys) none)

one_taken : {A : Type 0} (k l : ℕ) (x : A) (xs : List A) → k ≡ suc l → take k (x ∷ xs) ≡ x ∷ take l xs
one_taken {A} k l x xs e = ap (λ (n : ℕ). take n (x ∷ xs)) e

-- a row of another payer
of_another : (c : RulingColumns) (asked : Remittance) (p : ℕ) (row : List (List ℕ)) (rest : List (List (List ℕ))) (old new : Read) → number_in c.payer.place row ≡ Some p → (p == asked.payer) ≡ false
    → IsRead c asked old rest new → IsRead c asked old (row ∷ rest) new
of_another c asked p row rest old new is other read = record {
  made = read.made;
  own = own_before c asked.payer p false row rest read.made is other read.own;
  more = read.more;
  moved = read.moved;
  rulings = read.rulings;
  count = read.count;
}

-- a row of the payer after the end of the period
behind_end : (c : RulingColumns) (asked : Remittance) (p : ℕ) (row : List (List ℕ)) (rest : List (List (List ℕ))) (old new : Read) → number_in c.payer.place row ≡ Some p → (p == asked.payer) ≡ true
    → asked.up_to - old.up_to ≡ 0 → IsRead c asked old rest new → IsRead c asked old (row ∷ rest) new
behind_end c asked p row rest old new is own past read =
    let alike = none_taken (asked.up_to - old.up_to) (row ∷ read.made) read.made past in
    record {
      made = row ∷ read.made;
      own = own_before c asked.payer p true row rest read.made is own read.own;
      more = read.more;
      moved = ap (rulings_from c asked.pharmacy (old.up_to + 1)) alike ∙ read.moved;
      rulings = read.rulings;
      count = read.count ∙ ap (λ (xs : List (List (List ℕ))). old.up_to + length xs) (sym alike);
    }

rulings_before : (c : RulingColumns) (pharmacy number : ℕ) (row : List (List ℕ)) (one : Option Move) (rest : List (List (List ℕ))) (more : List Ruling) → move_to c pharmacy row ≡ Some one
    → rulings_from c pharmacy (number + 1) rest ≡ Some more → rulings_from c pharmacy number (row ∷ rest) ≡ Some (numbered number row one ++ more)
rulings_before c pharmacy number row one rest more is others = rw (is, others) refl

-- a ruling of the payer
of_payer : (c : RulingColumns) (asked : Remittance) (p : ℕ) (row : List (List ℕ)) (rest : List (List (List ℕ))) (old new : Read) (one : Option Move) → number_in c.payer.place row ≡ Some p
    → (p == asked.payer) ≡ true → old.up_to < asked.up_to → move_to c asked.pharmacy row ≡ Some one
    → IsRead c asked (with_ruling old row one) rest new → IsRead c asked old (row ∷ rest) new
of_payer c asked p row rest old new one is own lt moves read =
    let left = take (asked.up_to - (old.up_to + 1)) read.made in
    let taken : take (asked.up_to - old.up_to) (row ∷ read.made) ≡ row ∷ left =
    one_taken (asked.up_to - old.up_to) (asked.up_to - (old.up_to + 1)) row read.made (omega (arith, lt)) in
    record {
      made = row ∷ read.made;
      own = own_before c asked.payer p true row rest read.made is own read.own;
      more = numbered (old.up_to + 1) row one ++ read.more;
      moved =
          ap (rulings_from c asked.pharmacy (old.up_to + 1)) taken
          ∙ rulings_before c asked.pharmacy (old.up_to + 1) row one left read.more moves read.moved;
      rulings = read.rulings ∙ append_assoc old.rulings (numbered (old.up_to + 1) row one) read.more;
      count =
          let step : old.up_to + 1 + length left ≡ old.up_to + length (row ∷ left) = omega arith in
          read.count ∙ step ∙ ap (λ (xs : List (List (List ℕ))). old.up_to + length xs) (sym taken);
    }

no_more : (u U : ℕ) → nat_lt u U ≡ false → U - u ≡ 0
no_more u U lt = let le = ltb-false u U lt in omega (arith, le)

-- the rows after a row are read with it
abbrev Goes : RulingColumns → Remittance → List (List (List ℕ)) → Read → Type 0
Goes c asked rest new = (r : Read) → read_rows c asked r rest ≡ Some new → IsRead c asked r rest new

by_move : (c : RulingColumns) (asked : Remittance) (p : ℕ) (row : List (List ℕ)) (rest : List (List (List ℕ))) (old new : Read) (m : Option (Option Move)) → number_in c.payer.place row ≡ Some p
    → (p == asked.payer) ≡ true → old.up_to < asked.up_to → move_to c asked.pharmacy row ≡ m → Goes c asked rest new
    → (option_map (with_ruling old row) m >>= (λ (n : Read). read_rows c asked n rest)) ≡ Some new → IsRead c asked old (row ∷ rest) new
by_move c asked p row rest old new None is own lt moves goes e = absurd (cc e)
by_move c asked p row rest old new (Some one) is own lt moves goes e = of_payer c asked p row rest old new one is own lt moves (goes (with_ruling old row one) e)

by_tests : (c : RulingColumns) (asked : Remittance) (p : ℕ) (row : List (List ℕ)) (rest : List (List (List ℕ))) (old new : Read) (b l : Bool) → number_in c.payer.place row ≡ Some p
    → (p == asked.payer) ≡ b → nat_lt old.up_to asked.up_to ≡ l → Goes c asked rest new
    → ((if b then (if l then read_own c asked.pharmacy old row else Some old) else Some old) >>= (λ (n : Read). read_rows c asked n rest)) ≡ Some new → IsRead c asked old (row ∷ rest) new
by_tests c asked p row rest old new false l is own lt goes e = of_another c asked p row rest old new is own (goes old e)
by_tests c asked p row rest old new true false is own lt goes e = behind_end c asked p row rest old new is own (no_more old.up_to asked.up_to lt) (goes old e)
by_tests c asked p row rest old new true true is own lt goes e =
    by_move c asked p row rest old new (move_to c asked.pharmacy row) is own (ltb-true old.up_to asked.up_to lt) refl goes e

by_payer : (c : RulingColumns) (asked : Remittance) (row : List (List ℕ)) (rest : List (List (List ℕ))) (old new : Read) (o : Option ℕ) → number_in c.payer.place row ≡ o → Goes c asked rest new
    → ((o >>= (λ (p : ℕ). if p == asked.payer then (if nat_lt old.up_to asked.up_to then read_own c asked.pharmacy old row else Some old) else Some old)) >>= (λ (n : Read). read_rows c asked n rest)) ≡ Some new
    → IsRead c asked old (row ∷ rest) new
by_payer c asked row rest old new None is goes e = absurd (cc e)
by_payer c asked row rest old new (Some p) is goes e = by_tests c asked p row rest old new (p == asked.payer) (nat_lt old.up_to asked.up_to) is refl refl goes e

nothing_read : (c : RulingColumns) (asked : Remittance) (old new : Read) → old ≡ new → IsRead c asked old [] new
nothing_read c asked old new same =
    let none = take-nil {A = List (List ℕ)} (asked.up_to - old.up_to) in
    let step : old.up_to ≡ old.up_to + 0 = omega arith in
    record {
      made = [];
      own = refl;
      more = [];
      moved = ap (rulings_from c asked.pharmacy (old.up_to + 1)) none;
      rulings = ap (λ (r : Read). r.rulings) (sym same) ∙ sym (append-nil old.rulings);
      count = ap (λ (r : Read). r.up_to) (sym same) ∙ step ∙ ap (λ (xs : List (List (List ℕ))). old.up_to + length xs) (sym none);
    }

read_is : (c : RulingColumns) (asked : Remittance) (rows : List (List (List ℕ))) (new old : Read) → read_rows c asked old rows ≡ Some new → IsRead c asked old rows new
unfolding read_row
read_is c asked [] new old e = nothing_read c asked old new (ap (λ (o : Option Read). unwrap_or o old) e)
read_is c asked (row ∷ rest) new old e = by_payer c asked row rest old new (number_in c.payer.place row) refl (read_is c asked rest new) e

pub are_rulings : (c : RulingColumns) (asked : Remittance) (records : List (List (List ℕ))) (new : Read) → read_rows c asked (record { rulings = []; up_to = 0 }) (rows_of records) ≡ Some new
    → AreRulings asked records c new.rulings new.up_to
are_rulings c asked records new e =
    let read = read_is c asked (rows_of records) new (record { rulings = []; up_to = 0 }) e in
    let whole : asked.up_to - 0 ≡ asked.up_to = omega arith in
    let step : 0 + length (take (asked.up_to - 0) read.made) ≡ length (take (asked.up_to - 0) read.made) = omega arith in
    record {
      made = read.made;
      own = read.own;
      moved = ap (λ (n : ℕ). rulings_from c asked.pharmacy 1 (take n read.made)) (sym whole) ∙ read.moved ∙ ap (λ (rs : List Ruling). let o : Option (List Ruling) = Some rs in o) (sym read.rulings);
      count = read.count ∙ step ∙ ap (λ (n : ℕ). length (take n read.made)) whole;
    }

-- ---- lines

-- a line more
pub lines_on : (c : RulingColumns) (asked : Remittance) (before : List Move) (r : Ruling) (more : List Ruling) (text line : List ℕ) (all : Option (List ℕ)) (back : ℕ)
    → back ≡ back_cents (before ++ r.moves ∷ []) r.moves → line_text c asked back r ≡ Some line
    → all ≡ behind text (lines_text c asked before (r ∷ more)) → all ≡ behind (text ++ line) (lines_text c asked (before ++ r.moves ∷ []) more)
lines_on c asked before r more text line all back gives told so_far =
    so_far
    ∙ ap (λ (o : Option (List ℕ)). behind text (o >>= (λ (l : List ℕ). lines_text c asked (before ++ r.moves ∷ []) more >>= (λ (others : List ℕ). Some (l ++ others)))))
    (ap (λ (b : ℕ). line_text c asked b r) (sym gives) ∙ told)
    ∙ joined (lines_text c asked (before ++ r.moves ∷ []) more)
  where
    joined : (o : Option (List ℕ)) → behind text (o >>= (λ (others : List ℕ). Some (line ++ others))) ≡ behind (text ++ line) o
    joined None = refl
    joined (Some others) = ap (λ (t : List ℕ). let o : Option (List ℕ) = Some t in o) (sym (append_assoc text line others))

-- lines of some rulings so far, and a ledger after them
pub record LinesSoFar (c : RulingColumns) (asked : Remittance) (before passed : List Move) (rulings left : List Ruling) (first out : List ℕ) (ledger : Ledger) : Type 0 where
  pub is : IsLedgerOf (before ++ passed) ledger
  pub text : List ℕ
  pub told : out ≡ first ++ text
  pub lines : lines_text c asked before rulings ≡ behind text (lines_text c asked (before ++ passed) left)

pub lines_none : (c : RulingColumns) (asked : Remittance) (before : List Move) (rulings : List Ruling) (first : List ℕ) (ledger : Ledger) → IsLedgerOf before ledger
    → LinesSoFar c asked before [] rulings rulings first first ledger
lines_none c asked before rulings first ledger is = record {
  is = subst (λ (ms : List Move). IsLedgerOf ms ledger) (sym (append-nil before)) is;
  text = [];
  told = sym (append-nil first);
  lines = behind_nothing (lines_text c asked before rulings) ∙ ap (λ (ms : List Move). behind [] (lines_text c asked ms rulings)) (sym (append-nil before));
}

one_taken_back : (all : List Move) (m : Move) → taken_back all (m ∷ []) ≡ back_cents all m
one_taken_back all m = omega arith

pub lines_more : (c : RulingColumns) (asked : Remittance) (before passed : List Move) (rulings : List Ruling) (r : Ruling) (left : List Ruling) (first out new : List ℕ) (old ledger : Ledger) (moved : Moved)
    → TakesAll (before ++ passed) (r.moves ∷ []) old ledger moved → AddsLine c asked moved.reversed r out new
    → LinesSoFar c asked before passed rulings (r ∷ left) first out old → LinesSoFar c asked before (passed ++ r.moves ∷ []) rulings left first new ledger
lines_more c asked before passed rulings r left first out new old ledger moved takes adds so_far =
    let all : (before ++ passed) ++ r.moves ∷ [] ≡ before ++ (passed ++ r.moves ∷ []) = append_assoc before passed (r.moves ∷ []) in
    let gives : moved.reversed ≡ back_cents ((before ++ passed) ++ r.moves ∷ []) r.moves = takes.reversed ∙ one_taken_back ((before ++ passed) ++ r.moves ∷ []) r.moves in
    record {
      is = subst (λ (ms : List Move). IsLedgerOf ms ledger) all takes.is;
      text = so_far.text ++ adds.0;
      told = adds.2 ∙ ap (λ (t : List ℕ). t ++ adds.0) so_far.told ∙ append_assoc first so_far.text adds.0;
      lines =
          lines_on c asked (before ++ passed) r left so_far.text adds.0 (lines_text c asked before rulings) moved.reversed gives adds.1 so_far.lines
          ∙ ap (λ (ms : List Move). behind (so_far.text ++ adds.0) (lines_text c asked ms left)) all;
    }

-- the same of a list, at a place
pub lines_next : {B : Type 0} (seen : B → Ruling) (c : RulingColumns) (asked : Remittance) (before : List Move) (lines : List B) (i : ℕ) (d : B) (first out new : List ℕ) (old ledger : Ledger) (moved : Moved)
    → i < length lines → TakesAll (before ++ map (λ (r : Ruling). r.moves) (map seen (take i lines))) ((seen (get_or lines i d)).moves ∷ []) old ledger moved
    → AddsLine c asked moved.reversed (seen (get_or lines i d)) out new
    → LinesSoFar c asked before (map (λ (r : Ruling). r.moves) (map seen (take i lines))) (map seen lines) (map seen (drop i lines)) first out old
    → LinesSoFar c asked before (map (λ (r : Ruling). r.moves) (map seen (take (i + 1) lines))) (map seen lines) (map seen (drop (i + 1) lines)) first new ledger
lines_next {B} seen c asked before lines i d first out new old ledger moved lt takes adds so_far =
    let line = get_or lines i d in
    let moves = λ (r : Ruling). r.moves in
    let passed = map moves (map seen (take i lines)) in
    let more : map moves (map seen (take (i + 1) lines)) ≡ passed ++ (seen line).moves ∷ [] =
    ap (λ (xs : List B). map moves (map seen xs)) (take_more lines i d lt)
    ∙ ap (map moves) (map-append seen (take i lines) (line ∷ [])) ∙ map-append moves (map seen (take i lines)) (seen line ∷ []) in
    subst (λ (ms : List Move). LinesSoFar c asked before ms (map seen lines) (map seen (drop (i + 1) lines)) first new ledger) (sym more)
    (lines_more c asked before passed (map seen lines) (seen line) (map seen (drop (i + 1) lines)) first out new old ledger moved takes adds
    (subst (λ (xs : List B). LinesSoFar c asked before passed (map seen lines) (map seen xs) first out old) (drop_more lines i d lt) so_far))

pub lines_end : (c : RulingColumns) (asked : Remittance) (before passed : List Move) (rulings left : List Ruling) (first out : List ℕ) (ledger : Ledger) → left ≡ []
    → LinesSoFar c asked before passed rulings left first out ledger → AddsLines c asked before rulings first out
lines_end c asked before passed rulings left first out ledger none so_far =
    (so_far.text, so_far.lines ∙ ap (λ (rs : List Ruling). behind so_far.text (lines_text c asked (before ++ passed) rs)) none ∙ ap (λ (t : List ℕ). let o : Option (List ℕ) = Some t in o) (append-nil so_far.text), so_far.told)

-- ---- sums, and lines under the names of their columns

pub summed_is : {A E : Type 0} (items : A → List ℕ) (r : Result A E) (table : List ℕ) (asked : Remittance) (records : List (List (List ℕ))) (columns : RulingColumns) (rulings : List Ruling) (up_to : ℕ) (before moves : List Move) (lines : List Ruling) (title : Title)
    → AreRecordsOf table records → columns ≡ ruling_columns_in records → AreRulings asked records columns rulings up_to
    → before ≡ moves_before asked.after rulings → lines ≡ rulings_behind asked.after rulings → moves ≡ map (λ (r : Ruling). r.moves) lines → title ≡ title_of asked up_to
    → IfOk r (λ text. IsSums title before moves asked.owed (items text)) → IfOk r (λ text. IsSummed table asked (items text))
summed_is items (Ok text) table asked records columns rulings up_to before moves lines title are have read is_before are_behind is_behind titled sums = record {
  records = records;
  are = are;
  columns = columns;
  have = have;
  rulings = rulings;
  up_to = up_to;
  read = read;
  sums = rw (titled, is_before, is_behind, are_behind) at sums;
}
summed_is items (Err e) table asked records columns rulings up_to before moves lines title are have read is_before are_behind is_behind titled sums = tt

pub remitted_is : {A E : Type 0} (items : A → List ℕ) (r : Result A E) (table : List ℕ) (asked : Remittance) (records : List (List (List ℕ))) (columns : RulingColumns) (rulings : List Ruling) (up_to : ℕ) (before : List Move) (lines : List Ruling)
    → AreRecordsOf table records → columns ≡ ruling_columns_in records → AreRulings asked records columns rulings up_to
    → before ≡ moves_before asked.after rulings → lines ≡ rulings_behind asked.after rulings
    → IfOk r (λ text. AddsLines columns asked before lines (head_text (line_names (codes "ruling"))) (items text)) → IfOk r (λ text. IsRemitted table asked (items text))
remitted_is items (Ok text) table asked records columns rulings up_to before lines are have read is_before are_behind adds = record {
  records = records;
  are = are;
  columns = columns;
  have = have;
  rulings = rulings;
  up_to = up_to;
  read = read;
  lines = adds.0;
  of = (λ i. lines_text columns asked (sym is_before i) (sym are_behind i)) ∙ adds.1;
  told = adds.2;
}
remitted_is items (Err e) table asked records columns rulings up_to before lines are have read is_before are_behind adds = tt
