-- The lines of an input that are skipped, one after another.
use Rattle.std.proofs.Common.{◌≡◌, ℕ, zero, suc, ◌<◌, ◌+◌, ◌-◌, ◌^◌, Bool, true, false, List, length, nat_lt, min, Option, Some, None, IfSome, refl, subst, sym, ap, ◌∙◌, arith}
use Rattle.std.proofs.lemmas.Bool.Decides.{nat_tests}
use Rattle.input_text.specs.Lines.{is_skipped}
use Rattle.message_words.specs.InputLines.{IsNextLine, first_line}
use Rattle.message_lines.specs.Input.{HasSkipped, IsNextTold, Skips, number_behind}

-- before the first line nothing was skipped
pub none_skipped : (left : Option (List ℕ)) (number : ℕ) → IfSome left (λ bytes. HasSkipped bytes number number left)
none_skipped None number = tt
none_skipped (Some bytes) number = record { passed = 0; behind = bytes; skips = refl; rest = refl; count = refl }

-- one more, behind those before it
one_more : (passed : ℕ) (bytes behind : List ℕ) → Skips passed bytes behind → 0 < length behind → is_skipped (first_line behind).0 ≡ true
    → Skips (suc passed) bytes (first_line behind).1
one_more zero bytes behind skips some is = rw (← skips) (some, is, refl)
one_more (suc passed) bytes behind skips some is = (skips.0, skips.1, one_more passed (first_line bytes).1 behind skips.2 some is)

there_are : (bytes : List ℕ) → true ≡ nat_lt 0 (length bytes) → 0 < length bytes
there_are bytes e = grind (arith, nat_tests)

goes_on_from : (bytes : List ℕ) (before number next : ℕ) (left after : Option (List ℕ)) (some : Bool) (line : List ℕ) → HasSkipped bytes before number left
    → IfSome left (λ behind. IsNextLine behind some line after) → some ≡ true → is_skipped line ≡ true → next ≡ number_behind number 1
    → HasSkipped bytes before next after
goes_on_from bytes before number next left after some line has read there is count =
    let line_is : IsNextLine has.behind some line after = subst (λ (o : Option (List ℕ)). IfSome o (λ behind. IsNextLine behind some line after)) has.rest read in
    record {
      passed = suc has.passed;
      behind = (first_line has.behind).1;
      skips = one_more has.passed bytes has.behind has.skips (there_are has.behind (sym there ∙ line_is.there)) (rw (← line_is.first) is);
      rest = line_is.behind;
      count = count ∙ ap (λ n. min (n + 1) (2 ^ 64 - 1)) has.count;
    }

pub goes_on : (given : Option (List ℕ)) (before number next : ℕ) (left after : Option (List ℕ)) (some : Bool) (line : List ℕ)
    → IfSome given (λ bytes. HasSkipped bytes before number left)
    → IfSome left (λ behind. IsNextLine behind some line after) → some ≡ true → is_skipped line ≡ true → next ≡ number_behind number 1
    → IfSome given (λ bytes. HasSkipped bytes before next after)
goes_on None before number next left after some line has read there is count = tt
goes_on (Some bytes) before number next left after some line has read there is count = goes_on_from bytes before number next left after some line has read there is count

ends_from : (bytes : List ℕ) (before number next : ℕ) (left after : Option (List ℕ)) (some : Bool) (line : List ℕ) → HasSkipped bytes before number left
    → IfSome left (λ behind. IsNextLine behind some line after) → (some ≡ true → is_skipped line ≡ false) → next ≡ number_behind number 1
    → IsNextTold bytes before some next line after
ends_from bytes before number next left after some line has read told count =
    record {
      passed = has.passed;
      behind = has.behind;
      skips = has.skips;
      next = subst (λ (o : Option (List ℕ)). IfSome o (λ behind. IsNextLine behind some line after)) has.rest read;
      told = told;
      count = count ∙ ap (λ n. min (n + 1) (2 ^ 64 - 1)) has.count;
    }

pub ends : (given : Option (List ℕ)) (before number next : ℕ) (left after : Option (List ℕ)) (some : Bool) (line : List ℕ)
    → IfSome given (λ bytes. HasSkipped bytes before number left)
    → IfSome left (λ behind. IsNextLine behind some line after) → (some ≡ true → is_skipped line ≡ false) → next ≡ number_behind number 1
    → IfSome given (λ bytes. IsNextTold bytes before some next line after)
ends None before number next left after some line has read told count = tt
ends (Some bytes) before number next left after some line has read told count = ends_from bytes before number next left after some line has read told count
