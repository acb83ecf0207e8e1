-- Marks, and the bytes of their words.
use Rattle.std.proofs.Common.{◌≡◌, ℕ, ◌+◌, ◌-◌, ◌≤◌, ◌<◌, Bool, true, false, List, [], ◌∷◌, ◌++◌, length, take, drop, get_or, refl, sym, ap, ◌∙◌, arith, append_assoc}
use Rattle.std.specs.Prelude.{◌==◌, if◌then◌else◌}
use Rattle.std.proofs.lemmas.Bool.{eq-eqb, ne_eqb}
use Rattle.std.proofs.lemmas.List.{length-drop, take-append-le, drop-append-le, take-append-drop, take_all, drop_all, at_drop_more}
use Rattle.node_handle.specs.declared.waiting.Mark.{Mark}
use Rattle.node_handle.specs.Waiting.{Waiting, all_lowered}
use Rattle.node_handle.specs.Marks.{pieces, sizes, told_at, untold_at, IsPassed}

pub sizes_more : (marks : List Mark) (m : Mark) → sizes (marks ++ m ∷ []) ≡ sizes marks + m.size
sizes_more [] m = omega arith
sizes_more (x ∷ marks) m = omega (arith, sizes_more marks m)

-- the words of one call more, behind all bytes
pub pieces_more : (marks : List Mark) (upto : ℕ) (bytes text : List ℕ) → sizes marks ≡ length bytes
    → pieces (marks ++ record { upto = upto; size = length text } ∷ []) (bytes ++ text) ≡ pieces marks bytes ++ record { mark = upto; text = text } ∷ []
pieces_more [] upto [] text is = ap (λ (t : List ℕ). record { mark = upto; text = t } ∷ []) (take_all (length text) text (omega arith))
pieces_more [] upto (b ∷ bytes) text is = absurd cc
pieces_more (m ∷ marks) upto bytes text is =
    let fits : m.size ≤ length bytes = omega (arith, is) in
    let last : Mark = record { upto = upto; size = length text } in
    let left : sizes marks ≡ length (drop m.size bytes) = omega (arith, is, length-drop m.size bytes) in
    rw (take-append-le m.size bytes text fits, drop-append-le m.size bytes text fits)
    (ap (λ (more : List Waiting). record { mark = m.upto; text = take m.size bytes } ∷ more) (pieces_more marks upto (drop m.size bytes) text left))

-- what is left, after so many marks whose words may be told
pub record IsSoFar (kept : ℕ) (marks : List Mark) (bytes : List ℕ) (place : ℕ) (rest : List ℕ) : Type 0 where
  pub told : (more : List ℕ) → told_at kept (drop place marks) rest ++ more ≡ rest → told_at kept marks bytes ++ more ≡ bytes
  pub untold : untold_at kept marks bytes ≡ untold_at kept (drop place marks) rest
  pub sizes : sizes (drop place marks) ≡ length rest

pub begins_so : (kept : ℕ) (marks : List Mark) (bytes : List ℕ) → sizes marks ≡ length bytes → IsSoFar kept marks bytes 0 bytes
begins_so kept marks bytes is = record { told = λ more e. e; untold = refl; sizes = is }

-- the mark at a place, in front of those after it
there : (marks : List Mark) (place : ℕ) (m : Mark) → place < length marks → m ≡ get_or marks place m → drop place marks ≡ m ∷ drop (place + 1) marks
there marks place m lt is = at_drop_more (λ (xs : List Mark). xs) marks place m lt ∙ ap (λ (x : Mark). x ∷ drop (place + 1) marks) (sym is)

pub has_room : (kept : ℕ) (marks : List Mark) (bytes : List ℕ) (place : ℕ) (rest : List ℕ) (m : Mark) → place < length marks → m ≡ get_or marks place m → IsSoFar kept marks bytes place rest → m.size ≤ length rest
has_room kept marks bytes place rest m lt is s =
    let all : sizes (m ∷ drop (place + 1) marks) ≡ length rest = sym (ap sizes (there marks place m lt is)) ∙ s.sizes in
    omega (arith, all)

passes : (kept : ℕ) (m : Mark) → m.upto ≤ kept → (m.upto - kept == 0) ≡ true
passes kept m le = eq-eqb (m.upto - kept) 0 (omega arith)

waits : (kept : ℕ) (m : Mark) → kept < m.upto → (m.upto - kept == 0) ≡ false
waits kept m lt = ne_eqb (m.upto - kept) 0 (λ e. omega (arith, e))

-- one call more whose words may be told
pub goes_on : (kept : ℕ) (marks : List Mark) (bytes : List ℕ) (place : ℕ) (rest : List ℕ) (m : Mark) → place < length marks → m ≡ get_or marks place m → m.upto ≤ kept → IsSoFar kept marks bytes place rest
    → IsSoFar kept marks bytes (place + 1) (drop m.size rest)
goes_on kept marks bytes place rest m lt is le s =
    let more_marks : List Mark = drop (place + 1) marks in
    let at : drop place marks ≡ m ∷ more_marks = there marks place m lt is in
    let behind : List ℕ = drop m.size rest in
    let now : told_at kept (drop place marks) rest ≡ take m.size rest ++ told_at kept more_marks behind =
    ap (λ (ms : List Mark). told_at kept ms rest) at ∙ ap (λ (t : Bool). if t then take m.size rest ++ told_at kept more_marks behind else []) (passes kept m le) in
    let then_left : untold_at kept (drop place marks) rest ≡ untold_at kept more_marks behind =
    ap (λ (ms : List Mark). untold_at kept ms rest) at ∙ ap (λ (t : Bool). if t then untold_at kept more_marks behind else (record { mark = m.upto - kept; text = take m.size rest } ∷ all_lowered kept (pieces more_marks behind))) (passes kept m le) in
    let sum : sizes (m ∷ more_marks) ≡ length rest = sym (ap sizes at) ∙ s.sizes in
    record {
      told = λ more e. s.told more (ap (λ (xs : List ℕ). xs ++ more) now ∙ (append_assoc (take m.size rest) (told_at kept more_marks behind) more ∙ (ap (λ (xs : List ℕ). take m.size rest ++ xs) e ∙ take-append-drop m.size rest)));
      untold = s.untold ∙ then_left;
      sizes = omega (arith, sum, length-drop m.size rest);
    }

-- a call whose records are not all on disk: it and those after it wait
pub stops : (kept : ℕ) (marks : List Mark) (bytes : List ℕ) (place : ℕ) (rest : List ℕ) (m : Mark) → place < length marks → m ≡ get_or marks place m → kept < m.upto → IsSoFar kept marks bytes place rest
    → IsPassed kept marks bytes place rest
stops kept marks bytes place rest m lt is over s =
    let more_marks : List Mark = drop (place + 1) marks in
    let at : drop place marks ≡ m ∷ more_marks = there marks place m lt is in
    let behind : List ℕ = drop m.size rest in
    let none : told_at kept (drop place marks) rest ≡ [] =
    ap (λ (ms : List Mark). told_at kept ms rest) at ∙ ap (λ (t : Bool). if t then take m.size rest ++ told_at kept more_marks behind else []) (waits kept m over) in
    let all : untold_at kept (drop place marks) rest ≡ all_lowered kept (pieces (drop place marks) rest) =
    ap (λ (ms : List Mark). untold_at kept ms rest) at
    ∙ (ap (λ (t : Bool). if t then untold_at kept more_marks behind else (record { mark = m.upto - kept; text = take m.size rest } ∷ all_lowered kept (pieces more_marks behind))) (waits kept m over)
    ∙ sym (ap (λ (ms : List Mark). all_lowered kept (pieces ms rest)) at)) in
    record { told = s.told rest (ap (λ (xs : List ℕ). xs ++ rest) none); untold = s.untold ∙ all; sizes = s.sizes; within = omega arith }

-- no call is left
pub ends : (kept : ℕ) (marks : List Mark) (bytes : List ℕ) (place : ℕ) (rest : List ℕ) → length marks ≤ place → IsSoFar kept marks bytes place rest → IsPassed kept marks bytes (length marks) rest
ends kept marks bytes place rest le s =
    let none : drop place marks ≡ [] = drop_all place marks le in
    let same : drop (length marks) marks ≡ [] = drop_all (length marks) marks (omega arith) in
    record {
      told = s.told rest (ap (λ (ms : List Mark). told_at kept ms rest ++ rest) none);
      untold = s.untold ∙ (ap (λ (ms : List Mark). untold_at kept ms rest) none ∙ sym (ap (λ (ms : List Mark). all_lowered kept (pieces ms rest)) same));
      sizes = ap sizes same ∙ (sym (ap sizes none) ∙ s.sizes);
      within = omega arith;
    }
