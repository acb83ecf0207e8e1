-- The rows that are read are those that stand there, and the rows of a book that can be made are read.
use Rattle.std.proofs.Common.{◌≡◌, ℕ, zero, suc, ◌-◌, true, List, [], ◌∷◌, ◌++◌, length, Option, Some, None, Ok, refl, ap, subst, ◌∙◌}
use Rattle.std.specs.List.{AllByRecursion}
use Rattle.std.proofs.lemmas.Option.{same_Some}
use Rattle.claim_model.specs.Rows.{Book}
use Rattle.payer_book.specs.Added.{KeptRow, added, added_all}
use Rattle.payer_book.specs.Following.{KeepsRows}
use Rattle.kept_records.specs.declared.fault.RecordFault.{RecordFault}
use Rattle.kept_records.specs.declared.fault.RecordFault.TheVariants.{BadRecord}
use Rattle.kept_records.specs.Faults.{◌>>=◌, some_or, when_or, each_in}
use Rattle.kept_records.specs.Rows.{row_codec, rows_text}
use Rattle.kept_records.specs.Versions.{fits_version}
use Rattle.kept_records.specs.Books.{is_id, row_in}
use Rattle.codec.specs.Laws.{AreBytes, IsTaken}
use Rattle.codec.proofs.CodecLaws.{both_taken}
use Rattle.kept_records.proofs.Chains.{some_or_then, when_or_then, result_then, ok_same}
use Rattle.kept_records.proofs.Formats.{row_is}

-- a row that may stand in a record of this version: its parts fit, and neither its pharmacy nor its number is zero
pub record IsKeptIn (version : ℕ) (k : KeptRow) : Type 0 where
  pub fits : row_codec.Fits k
  pub named : is_id k.id ≡ true
  pub fitting : fits_version version k.request ≡ true

abbrev pub AreKeptIn : ℕ → List KeptRow → Type 0
AreKeptIn version rows = AllByRecursion (IsKeptIn version) rows

-- the book has one row more, which stands at the front of the bytes
pub record IsEntered (version : ℕ) (b new : Book) (bytes rest : List ℕ) : Type 0 where
  pub row : KeptRow
  pub taken : IsTaken bytes (row_codec.text row) rest
  pub is_added : added b row.id row.request row.answer ≡ Some new
  pub kept : IsKeptIn version row

entered_is : (version place : ℕ) (b new : Book) (bytes rest : List ℕ) → AreBytes bytes → row_in version place b bytes ≡ Ok (new, rest) → IsEntered version b new bytes rest
unfolding row_in
entered_is version place b new bytes rest are h =
    let a = some_or_then (BadRecord place) (row_codec.at bytes) (λ row. when_or (BadRecord place) (is_id row.0.id) row >>= λ named. when_or (BadRecord place) (fits_version version row.0.request) named >>= λ fitting. some_or (BadRecord place) (added b fitting.0.id fitting.0.request fitting.0.answer) >>= λ changed. Ok (changed, fitting.1)) (new, rest) h in
    let p : KeptRow × List ℕ = a.0 in
    let c = when_or_then (BadRecord place) (is_id p.0.id) p (λ named. when_or (BadRecord place) (fits_version version p.0.request) named >>= λ fitting. some_or (BadRecord place) (added b fitting.0.id fitting.0.request fitting.0.answer) >>= λ changed. Ok (changed, fitting.1)) (new, rest) a.2 in
    let d = when_or_then (BadRecord place) (fits_version version p.0.request) p (λ fitting. some_or (BadRecord place) (added b fitting.0.id fitting.0.request fitting.0.answer) >>= λ changed. Ok (changed, fitting.1)) (new, rest) c.1 in
    let e = some_or_then (BadRecord place) (added b p.0.id p.0.request p.0.answer) (λ changed. Ok (changed, p.1)) (new, rest) d.1 in
    made p.0 p.1 e.0 a.1 c.0 d.0 e.1 (ok_same (e.0, p.1) (new, rest) e.2)
  where
    made : (row : KeptRow) (tail : List ℕ) (changed : Book) → row_codec.at bytes ≡ Some (row, tail) → is_id row.id ≡ true → fits_version version row.request ≡ true → added b row.id row.request row.answer ≡ Some changed
        → ◌≡◌ {A = Book × List ℕ} (changed, tail) (new, rest) → IsEntered version b new bytes rest
    made row tail changed found named fitting grown same =
        let taken = row_is.only bytes row tail are found in
        subst (λ (x : Book × List ℕ). IsEntered version b x.0 bytes x.1) same (record { row = row; taken = taken.0; is_added = grown; kept = record { fits = taken.1; named = named; fitting = fitting } })

-- the book has these rows more, which stand at the front of the bytes
pub record AreEntered (version : ℕ) (b new : Book) (count : ℕ) (bytes rest : List ℕ) : Type 0 where
  pub rows : List KeptRow
  pub taken : IsTaken bytes (rows_text rows) rest
  pub counted : length rows ≡ count
  pub are_added : added_all (Some b) rows ≡ Some new
  pub kept : AreKeptIn version rows

pub rows_are : (version total left : ℕ) (b new : Book) (bytes rest : List ℕ) → AreBytes bytes → each_in (row_in version) total left b bytes ≡ Ok (new, rest) → AreEntered version b new left bytes rest
unfolding each_in
rows_are version total zero b new bytes rest are h =
    subst (λ (x : Book × List ℕ). AreEntered version b x.0 zero bytes x.1) (ok_same (b, bytes) (new, rest) h)
    (record { rows = []; taken = record { all = refl; rest_bytes = are }; counted = refl; are_added = refl; kept = tt })
rows_are version total (suc left) b new bytes rest are h =
    let a = result_then (row_in version (total - length bytes) b bytes) (λ next. each_in (row_in version) total left next.0 next.1) (new, rest) h in
    let first = entered_is version (total - length bytes) b a.0.0 bytes a.0.1 are a.1 in
    joined a.0.0 a.0.1 first (rows_are version total left a.0.0 new a.0.1 rest first.taken.rest_bytes a.2)
  where
    joined : (between : Book) (mid : List ℕ) → IsEntered version b between bytes mid → AreEntered version between new left mid rest → AreEntered version b new (suc left) bytes rest
    joined between mid first others = record {
      rows = first.row ∷ others.rows;
      taken = both_taken bytes (row_codec.text first.row) mid (rows_text others.rows) rest first.taken others.taken;
      counted = ap suc others.counted;
      are_added = ap (λ (o : Option Book). added_all o others.rows) first.is_added ∙ others.are_added;
      kept = (first.kept, others.kept);
    }

entered_again : (version place : ℕ) (b new : Book) (k : KeptRow) (rest : List ℕ) → IsKeptIn version k → added b k.id k.request k.answer ≡ Some new → row_in version place b (row_codec.text k ++ rest) ≡ Ok (new, rest)
unfolding row_in
entered_again version place b new k rest kept grown = rw (row_is.back k rest kept.fits, kept.named, kept.fitting, grown) refl

-- what was added after the first row
pub first_added : (o : Option Book) (ks : List KeptRow) (new : Book) → added_all o ks ≡ Some new → (x : Book) × (o ≡ Some x) × (added_all (Some x) ks ≡ Some new)
first_added None ks new h = cc
first_added (Some x) ks new h = (x, refl, h)

pub rows_again : (version total : ℕ) (b new : Book) (ks : List KeptRow) → AreKeptIn version ks → added_all (Some b) ks ≡ Some new → each_in (row_in version) total (length ks) b (rows_text ks) ≡ Ok (new, [])
unfolding each_in
rows_again version total b new [] kept grown = ap (λ (x : Book). Ok (x, [])) (same_Some b new grown)
rows_again version total b new (k ∷ ks) kept grown =
    let a = first_added (added b k.id k.request k.answer) ks new grown in
    let first = entered_again version (total - length (row_codec.text k ++ rows_text ks)) b a.0 k (rows_text ks) kept.0 a.1 in
    rw first (rows_again version total a.0 new ks kept.1 a.2)

-- rows that were added are kept after those that were there
abbrev pub AddedAreKept : Type 0
AddedAreKept = (b : Book) (rows : List KeptRow) (after : Book) → added_all (Some b) rows ≡ Some after → KeepsRows b rows after
