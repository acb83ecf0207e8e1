-- Words come in the order of their records.
use Rattle.std.proofs.Common.{◌≡◌, ℕ, zero, suc, ◌+◌, ◌-◌, ◌≤◌, ◌<◌, Bool, true, false, List, [], ◌∷◌, ◌++◌, length, drop, refl, sym, ap, ◌∙◌, arith, subst, cond}
use Rattle.std.specs.Prelude.{◌==◌, filter, if◌then◌else◌}
use Rattle.std.specs.List.{flat_map}
use Rattle.std.proofs.lemmas.Bool.{eq-eqb, ne_eqb}
use Rattle.std.proofs.lemmas.List.{length-append, length-drop}
use Rattle.node_service.specs.Serving.{Serving, after_line, cleared}
use Rattle.node_handle.specs.Waiting.{Waiting, all_lowered, lowered, told, untold}
use Rattle.node_handle.specs.Hosting.{Hosting, just_opened, line_served, bytes_kept, words_cleared}
use Rattle.node_handle.specs.InOrder.{Rise, AreInOrder, text_of, is_on_disk, on_disk, all_of}

from_lower : (low first : ℕ) (words : List Waiting) (high : ℕ) → low ≤ first → Rise first words high → Rise low words high
from_lower low first [] high le r = omega arith
from_lower low first (w ∷ words) high le r = (omega (arith, r.0), r.1)

rises_more : (low : ℕ) (words : List Waiting) (high mark : ℕ) (text : List ℕ) → high ≤ mark → Rise low words high → Rise low (words ++ record { mark = mark; text = text } ∷ []) mark
rises_more low [] high mark text le r = (omega arith, omega arith)
rises_more low (w ∷ words) high mark text le r = (r.0, rises_more w.mark words high mark text le r.1)

rises_kept : (size low : ℕ) (words : List Waiting) (high : ℕ) → Rise low words high → Rise (low - size) (all_lowered size words) (high - size)
rises_kept size low [] high r = omega arith
rises_kept size low (w ∷ words) high r = (omega (arith, r.0), rises_kept size w.mark words high r.1)

rises_cleared : (words : List Waiting) (high : ℕ) → Rise 0 words high → Rise 0 (untold words) high
rises_cleared [] high r = r
rises_cleared (w ∷ words) high r = by_test (w.mark == 0) r (rises_cleared words high (from_lower 0 w.mark words high (omega arith) r.1))
  where
    by_test : (t : Bool) → Rise 0 (w ∷ words) high → Rise 0 (untold words) high → Rise 0 (if t then untold words else w ∷ words) high
    by_test true all more = more
    by_test false all more = all

-- behind a mark that is not 0 there is none
none_later : (low : ℕ) (words : List Waiting) (high : ℕ) → 0 < low → Rise low words high → on_disk words ≡ []
none_later low [] high lt r = refl
none_later low (w ∷ words) high lt r =
    ap (λ (t : Bool). flat_map text_of (cond t (w ∷ filter is_on_disk words) (filter is_on_disk words))) (ne_eqb w.mark 0 (λ e. omega (arith, e, r.0)))
    ∙ none_later w.mark words high (omega (arith, r.0)) r.1

pub told_is_on_disk : (words : List Waiting) (high : ℕ) → Rise 0 words high → told words ≡ on_disk words
told_is_on_disk [] high r = refl
told_is_on_disk (w ∷ words) high r = by_mark w.mark r.1 (λ rises. told_is_on_disk words high rises)
  where
    by_mark : (n : ℕ) → Rise n words high → (Rise 0 words high → told words ≡ on_disk words)
        → (if n == 0 then w.text ++ told words else []) ≡ flat_map text_of (cond (n == 0) (w ∷ filter is_on_disk words) (filter is_on_disk words))
    by_mark zero rises more = ap (λ (xs : List ℕ). w.text ++ xs) (more rises)
    by_mark (suc n) rises more =
        let not : (suc n == 0) ≡ false = ne_eqb (suc n) 0 (λ e. omega (arith, e)) in
        ap (λ (t : Bool). if t then w.text ++ told words else []) not
        ∙ (sym (none_later (suc n) words high (omega arith) rises) ∙ sym (ap (λ (t : Bool). flat_map text_of (cond t (w ∷ filter is_on_disk words) (filter is_on_disk words))) not))

no_mark : (low : ℕ) (words : List Waiting) → 0 < low → Rise low words 0 → ⊥
no_mark low [] lt r = omega arith
no_mark low (w ∷ words) lt r = no_mark w.mark words (omega (arith, r.0)) r.1

pub all_told : (words : List Waiting) → Rise 0 words 0 → told words ≡ all_of words
all_told [] r = refl
all_told (w ∷ words) r = by_mark w.mark r.1 (λ rises. all_told words rises)
  where
    by_mark : (n : ℕ) → Rise n words 0 → (Rise 0 words 0 → told words ≡ all_of words) → (if n == 0 then w.text ++ told words else []) ≡ w.text ++ all_of words
    by_mark zero rises more = ap (λ (xs : List ℕ). w.text ++ xs) (more rises)
    by_mark (suc n) rises more = absurd (no_mark (suc n) words (omega arith) rises)

pub opened_in_order : (closed : ℕ) (s : Serving) → AreInOrder (just_opened closed s)
opened_in_order closed s = omega arith

pub served_in_order : (h : Hosting) (line : List ℕ) → AreInOrder h → AreInOrder (line_served h line)
served_in_order h line is =
    let more : List ℕ = (after_line (cleared h.serving) line).records in
    rises_more 0 h.words (length h.serving.records) (length (h.serving.records ++ more)) (after_line (cleared h.serving) line).out (omega (arith, length-append h.serving.records more)) is

pub kept_in_order : (h : Hosting) (size : ℕ) → AreInOrder h → AreInOrder (bytes_kept size h)
kept_in_order h size is =
    subst (λ (n : ℕ). Rise 0 (all_lowered size h.words) n) (sym (length-drop size h.serving.records)) (from_lower 0 (0 - size) (all_lowered size h.words) (length h.serving.records - size) (omega arith) (rises_kept size 0 h.words (length h.serving.records) is))

pub cleared_in_order : (h : Hosting) → AreInOrder h → AreInOrder (words_cleared h)
cleared_in_order h is = rises_cleared h.words (length h.serving.records) is

pub on_disk_is_told : (h : Hosting) → AreInOrder h → told h.words ≡ on_disk h.words
on_disk_is_told h is = told_is_on_disk h.words (length h.serving.records) is

pub settled_tells_all : (h : Hosting) → AreInOrder h → length h.serving.records ≡ 0 → told h.words ≡ all_of h.words
settled_tells_all h is none = all_told h.words (subst (λ (n : ℕ). Rise 0 h.words n) none is)
