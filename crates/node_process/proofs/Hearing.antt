-- Bytes that are taken line by line.
use Rattle.std.proofs.Common.{◌≡◌, ℕ, ◌+◌, ◌<◌, ◌≤◌, false, List, [], ◌∷◌, ◌++◌, take, drop, length, length-drop, Some, Result, Ok, Err, OnOk, IfErr, refl, sym, ap, ◌∙◌, subst, arith}
use Rattle.std.proofs.lemmas.List.Quantifiers.{position-Some}
use Rattle.std.specs.List.{AllByRecursion}
use Rattle.std.specs.Prelude.{position}
use Rattle.std.specs.Str.Lines.{strip_carriage_return}
use Rattle.claim_model.proofs.Lists.{all_append}
use Rattle.kept_logs.specs.Fits.{FitsStamped}
use Rattle.node_service.specs.Serving.{Serving, after_line}
use Rattle.node_service.specs.Lines.{after_lines, line_kept, lines_kept}
use Rattle.node_process.specs.declared.unserved.Unserved.{Unserved}
use Rattle.node_process.specs.declared.unserved.Unserved.TheVariants.{OutOfMemory, Refused, FewCalls, LongLine, TooManyTurns, Io}
use Rattle.node_process.specs.Ends.{most_bytes, IsTooMuch, IsUnheeded}
use Rattle.node_process.specs.Heard.{is_newline, whole_lines, begun_line, NoNewline}
use Rattle.node_process.proofs.Splitting.{whole_one, begun_one, whole_none, begun_all}

-- lines that were served, what has begun of the next, and the bytes that are left are all that came
pub record IsTaken (before : Serving) (text : List ℕ) (s : Serving) (pending rest : List ℕ) : Type 0 where
  pub none : NoNewline pending
  pub lines : after_lines before (whole_lines text) ≡ after_lines s (whole_lines (pending ++ rest))
  pub begun : begun_line text ≡ begun_line (pending ++ rest)
  -- where the records of the lines that are left fit, all do
  pub fits : AllByRecursion FitsStamped (lines_kept s (whole_lines (pending ++ rest))) → AllByRecursion FitsStamped (lines_kept before (whole_lines text))

pub taken_first : (before : Serving) (pending bytes : List ℕ) → NoNewline pending → IsTaken before (pending ++ bytes) before pending bytes
taken_first before pending bytes none = record { none = none; lines = refl; begun = refl; fits = λ f. f }

pub taken_line : (before : Serving) (text : List ℕ) (s next : Serving) (pending empty rest left : List ℕ) (end : ℕ) → IsTaken before text s pending rest → position is_newline rest ≡ Some end → next ≡ after_line s (strip_carriage_return (pending ++ take end rest)) → empty ≡ []
    → left ≡ drop (end + 1) rest → AllByRecursion FitsStamped (line_kept s (strip_carriage_return (pending ++ take end rest))) → IsTaken before text next empty left
taken_line before text s next pending empty rest left end t found serves none behind one =
    let line = strip_carriage_return (pending ++ take end rest) in
    let gone : empty ++ left ≡ drop (end + 1) rest = ap (λ (x : List ℕ). x ++ left) none ∙ behind in
    record {
      none = subst NoNewline (sym none) tt;
      lines =
          t.lines
          ∙ (ap (after_lines s) (whole_one pending rest end t.none found)
          ∙ (ap (λ (x : Serving). after_lines x (whole_lines (drop (end + 1) rest))) (sym serves) ∙ ap (λ (x : List ℕ). after_lines next (whole_lines x)) (sym gone)));
      begun = t.begun ∙ (begun_one pending rest end t.none found ∙ ap begun_line (sym gone));
      fits = λ more.
          t.fits (subst (λ (lines : List (List ℕ)). AllByRecursion FitsStamped (lines_kept s lines)) (sym (whole_one pending rest end t.none found))
          (all_append FitsStamped (line_kept s line) (lines_kept (after_line s line) (whole_lines (drop (end + 1) rest))) one
          (subst (λ (x : Serving). AllByRecursion FitsStamped (lines_kept x (whole_lines (drop (end + 1) rest)))) serves
          (subst (λ (x : List ℕ). AllByRecursion FitsStamped (lines_kept next (whole_lines x))) gone more))));
    }

-- where no line ends any more
pub taken_all : (before : Serving) (text : List ℕ) (s : Serving) (pending rest : List ℕ) → IsTaken before text s pending rest → NoNewline rest → (s ≡ after_lines before (whole_lines text)) × ((pending ++ rest ≡ begun_line text) × NoNewline (pending ++ rest))
taken_all before text s pending rest t none =
    let all : NoNewline (pending ++ rest) = all_append (λ (byte : ℕ). is_newline byte ≡ false) pending rest t.none none in
    (sym (t.lines ∙ ap (after_lines s) (whole_none (pending ++ rest) all)), (sym (t.begun ∙ begun_all (pending ++ rest) all), all))

pub taken_fits : (before : Serving) (text : List ℕ) (s : Serving) (pending rest : List ℕ) → IsTaken before text s pending rest → NoNewline rest → AllByRecursion FitsStamped (lines_kept before (whole_lines text))
taken_fits before text s pending rest t none =
    let all : NoNewline (pending ++ rest) = all_append (λ (byte : ℕ). is_newline byte ≡ false) pending rest t.none none in
    t.fits (subst (λ (lines : List (List ℕ)). AllByRecursion FitsStamped (lines_kept s lines)) (sym (whole_none (pending ++ rest) all)) tt)

pub nothing_ends : (rest : List ℕ) → length rest ≤ 0 → NoNewline rest
nothing_ends [] h = tt
nothing_ends (b ∷ rest) h = absurd (omega arith)

pub shorter : (rest : List ℕ) (end count total : ℕ) → count + length rest ≤ total → end < length rest → (count + 1) + length (drop (end + 1) rest) ≤ total
shorter rest end count total h less = let d = length-drop (end + 1) rest in omega (arith, h, less, d)

pub place_within : (rest : List ℕ) (end : ℕ) → position is_newline rest ≡ Some end → end < length rest
place_within rest end found = (position-Some is_newline rest end 0 found).0

pub on_ok : {T E P Q : Type 0} (r : Result T E) → (P → Q) → OnOk r P → OnOk r Q
on_ok (Ok x) f p = f p
on_ok (Err e) f p = tt

pub whatever : {T E P : Type 0} (r : Result T E) → P → OnOk r P
whatever (Ok x) p = p
whatever (Err e) p = tt

pub none_left : (rest : List ℕ) (count total : ℕ) → count + length rest ≤ total → total ≤ count → length rest ≤ 0
none_left rest count total h over = omega (arith, h, over)

-- a line that is too long is one of what came
unheeded : (text begun : List ℕ) (why : Unserved) → begun ≡ begun_line text → IsTooMuch begun why → IsUnheeded text why
unheeded text begun OutOfMemory same u = tt
unheeded text begun (Refused fault) same u = u
unheeded text begun (FewCalls calls) same u = u
unheeded text begun LongLine same u = subst (λ (x : List ℕ). most_bytes < length x) same u
unheeded text begun TooManyTurns same u = u
unheeded text begun (Io error) same u = u

pub too_much : {T : Type 0} (text begun : List ℕ) (r : Result T Unserved) → begun ≡ begun_line text → IfErr r (IsTooMuch begun) → IfErr r (IsUnheeded text)
too_much text begun (Ok x) same u = tt
too_much text begun (Err why) same u = unheeded text begun why same u
