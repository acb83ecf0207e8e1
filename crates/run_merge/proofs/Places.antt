-- Elements of lists by their places.
use Rattle.std.proofs.Common.{◌≡◌, ℕ, zero, suc, ◌+◌, ◌<◌, ◌==◌, true, false, List, [], ◌∷◌, ◌++◌, map, length, get_or, Some, slice_get, refl, sym, ap, ◌∙◌, subst, inl, inr, arith, eqb-true}
use Rattle.std.specs.List.{list_all}
use Rattle.std.proofs.lemmas.Bool.{and_parts, and_cases, eq-eqb, cases_eq}
use Rattle.claim_model.specs.World.{Packet}
use Rattle.claim_model.specs.Logs.{Logged, NodeLog}
use Rattle.claim_model.proofs.Options.{same_some}
use Rattle.run_merge.specs.Line.{Waits, AllWait, AllPlaced}
use Rattle.run_merge.specs.LineSeen.{line_seen, lines_seen}
use Rattle.run_merge.specs.declared.line.Line.{Line}

pub found_at : {A B : Type 0} (f : A → B) (xs : List A) (k : ℕ) (x : A) → k < length xs → x ≡ get_or xs k x → slice_get (map f xs) k ≡ Some (f x)
found_at f [] k x h e = absurd (omega arith)
found_at f (y ∷ xs) zero x h e = ap (λ z. Some (f z)) (sym e)
found_at f (y ∷ xs) (suc k) x h e = found_at f xs k x (omega arith) e

pub get_below : {A B : Type 0} (f : A → B) (xs : List A) (k : ℕ) (y : B) → slice_get (map f xs) k ≡ Some y → k < length xs
get_below f [] k y h = absurd cc
get_below f (x ∷ xs) zero y h = omega arith
get_below f (x ∷ xs) (suc k) y h = let r = get_below f xs k y h in omega arith

pub map_more : {A B : Type 0} (f : A → B) (xs : List A) (x : A) → map f (xs ++ x ∷ []) ≡ map f xs ++ f x ∷ []
map_more f [] x = refl
map_more f (y ∷ xs) x = ap (λ ys. f y ∷ ys) (map_more f xs x)

-- the logs before a place wait
pub record WaitBefore (place : ℕ) (packets : List Packet) (lines : List NodeLog) : Type 0 where
  pub wait : (k : ℕ) (log : NodeLog) → k < place → slice_get lines k ≡ Some log → Waits packets log

pub wait_before_next : (packets : List Packet) (lines : List Line) (place : ℕ) (line : Line) → place < length lines → line ≡ get_or lines place line → Waits packets (line_seen line) → WaitBefore place packets (lines_seen lines) → WaitBefore (place + 1) packets (lines_seen lines)
wait_before_next packets lines place line h e w b =
    record {
      wait = λ k log l g. elim (cases_eq k place) [
        | inl s ↦
            let f : line_seen line ≡ log = same_some (line_seen line) log (sym (found_at line_seen lines place line h e) ∙ (ap (slice_get (lines_seen lines)) (sym s) ∙ g)) in
            subst (Waits packets) f w
        | inr d ↦ b.wait k log (omega arith) g
      ];
    }

pub all_wait : (packets : List Packet) (lines : List Line) (place : ℕ) → length lines ≡ place → WaitBefore place packets (lines_seen lines) → AllWait packets (lines_seen lines)
all_wait packets lines place h b k log e = let l = get_below line_seen lines k log e in b.wait k log (omega arith) e

no_calls : (calls : List Logged) → length calls ≡ 0 → calls ≡ []
no_calls [] h = refl
no_calls (r ∷ calls) h = absurd (omega arith)

-- lines of which each is placed
pub placed_all : (lines : List Line) → list_all (λ line. length line.left.now == 0) lines ≡ true → AllPlaced (lines_seen lines)
placed_all [] h k log e = absurd cc
placed_all (line ∷ lines) h zero log e =
    let p = and_parts (length line.left.now == 0) (list_all (λ x. length x.left.now == 0) lines) h in
    subst (λ (x : NodeLog). x.calls ≡ []) (same_some (line_seen line) log e) (no_calls line.left.now (eqb-true (length line.left.now) 0 p.0))
placed_all (line ∷ lines) h (suc k) log e =
    let p = and_parts (length line.left.now == 0) (list_all (λ x. length x.left.now == 0) lines) h in
    placed_all lines p.1 k log e

pub placed_not : (lines : List Line) → list_all (λ line. length line.left.now == 0) lines ≡ false → AllPlaced (lines_seen lines) → ⊥
placed_not [] h f = absurd cc
placed_not (line ∷ lines) h f = elim (and_cases (length line.left.now == 0) (list_all (λ x. length x.left.now == 0) lines) h) [
  | inl a ↦ let e : (length line.left.now == 0) ≡ true = eq-eqb (length line.left.now) 0 (ap length (f zero (line_seen line) refl)) in let x : true ≡ false = sym e ∙ a in absurd cc
  | inr b ↦ placed_not lines b (λ k log e. f (suc k) log e)
]
