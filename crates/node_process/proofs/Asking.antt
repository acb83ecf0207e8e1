-- The node after an input that comes in pieces.
use Rattle.std.proofs.Common.{◌≡◌, ℕ, List, [], ◌∷◌, ◌++◌, Option, Some, None, refl, sym, ap, ◌∙◌, subst, append_assoc}
use Rattle.std.specs.List.{AllByRecursion}
use Rattle.claim_model.specs.Node.{Call}
use Rattle.claim_model.proofs.Lists.{all_append}
use Rattle.world_setup.specs.Seen.{call_seen}
use Rattle.kept_logs.specs.Stamps.{Stamp, Stamped}
use Rattle.kept_logs.specs.Fits.{FitsStamped}
use Rattle.node_service.specs.Serving.{Serving, after_line, cleared, known}
use Rattle.node_service.specs.Asking.{Asked, Calls, Tells, asked_of}
use Rattle.node_service.specs.Lines.{joined, after_lines, kept_asked, kept_once, line_kept, lines_kept}
use Rattle.node_service.proofs.Lines.{adds, adds_all}
use Rattle.node_process.specs.Heard.{whole_lines, begun_line}
use Rattle.node_process.specs.Safe.{asked, FitsInput}
use Rattle.node_process.proofs.Splitting.{whole_append}

lines_append : (s : Serving) (lines more : List (List ℕ)) → after_lines s (lines ++ more) ≡ after_lines (after_lines s lines) more
lines_append s [] more = refl
lines_append s (line ∷ lines) more = lines_append (after_line s line) lines more

-- what a node is after more of the input, where it was this after the input so far
pub record IsFurther (start : Serving) (input bytes : List ℕ) (s : Serving) : Type 0 where
  pub added : Serving
  pub own : after_lines s (whole_lines (begun_line input ++ bytes)) ≡ joined s added
  pub all : asked start (input ++ bytes) ≡ joined (asked start input) added

pub asked_more : (start : Serving) (input bytes : List ℕ) (s : Serving) → cleared s ≡ cleared (asked start input) → IsFurther start input bytes s
asked_more start input bytes s same =
    let lines = whole_lines (begun_line input ++ bytes) in
    let before = asked start input in
    record {
      added = after_lines (cleared s) lines;
      own = adds_all s lines;
      all =
          ap (after_lines start) (whole_append input bytes)
          ∙ (lines_append start (whole_lines input) lines
          ∙ (adds_all before lines ∙ ap (λ (x : Serving). joined before (after_lines x lines)) (sym same)));
    }

-- the records of lines hang on what the node is, and not on what is to be appended or written
once_same : (s : Serving) (stamp : Stamp) (call : Call) (o : Option ℕ) → kept_once s stamp call o ≡ kept_once (cleared s) stamp call o
once_same s stamp call (Some number) = refl
once_same s stamp call None = refl

one_same : (s : Serving) (a : Option Asked) → kept_asked s a ≡ kept_asked (cleared s) a
one_same s None = refl
one_same s (Some (Calls n)) = once_same s n.stamp (call_seen n.call) (known s.references n.stamp.reference (call_seen n.call))
one_same s (Some (Tells question)) = refl

kept_same : (s t : Serving) (lines : List (List ℕ)) → cleared s ≡ cleared t → lines_kept s lines ≡ lines_kept t lines
kept_same s t [] same = refl
kept_same s t (line ∷ lines) same =
    let a = asked_of line in
    let one : line_kept s line ≡ line_kept t line = one_same s a ∙ (ap (λ (x : Serving). kept_asked x a) same ∙ sym (one_same t a)) in
    let next : cleared (after_line s line) ≡ cleared (after_line t line) =
    ap cleared (adds s line) ∙ (ap (λ (x : Serving). cleared (after_line x line)) same ∙ ap cleared (sym (adds t line))) in
    ap (λ (calls : List Stamped). calls ++ lines_kept (after_line s line) lines) one
    ∙ ap (λ (calls : List Stamped). line_kept t line ++ calls) (kept_same (after_line s line) (after_line t line) lines next)

kept_append : (s : Serving) (lines more : List (List ℕ)) → lines_kept s (lines ++ more) ≡ lines_kept s lines ++ lines_kept (after_lines s lines) more
kept_append s [] more = refl
kept_append s (line ∷ lines) more =
    ap (λ (calls : List Stamped). line_kept s line ++ calls) (kept_append (after_line s line) lines more)
    ∙ sym (append_assoc (line_kept s line) (lines_kept (after_line s line) lines) (lines_kept (after_lines (after_line s line) lines) more))

-- the records that more of the input adds
kept_more : (start : Serving) (input bytes : List ℕ)
    → lines_kept start (whole_lines (input ++ bytes)) ≡ lines_kept start (whole_lines input) ++ lines_kept (asked start input) (whole_lines (begun_line input ++ bytes))
kept_more start input bytes = ap (lines_kept start) (whole_append input bytes) ∙ kept_append start (whole_lines input) (whole_lines (begun_line input ++ bytes))

pub fits_more : (start : Serving) (input bytes : List ℕ) (s : Serving) → cleared s ≡ cleared (asked start input) → FitsInput start input → FitsInput s (begun_line input ++ bytes) → FitsInput start (input ++ bytes)
fits_more start input bytes s same first more =
    let lines = whole_lines (begun_line input ++ bytes) in
    subst (AllByRecursion FitsStamped) (sym (kept_more start input bytes))
    (all_append FitsStamped (lines_kept start (whole_lines input)) (lines_kept (asked start input) lines) first (subst (AllByRecursion FitsStamped) (kept_same s (asked start input) lines same) more))
