-- Maps of the elements of lists, and what is found by them.
use Rattle.std.proofs.Common.{◌≡◌, ℕ, ◌==◌, Bool, true, false, cond, List, [], ◌∷◌, ◌++◌, map, refl, ap, ◌∙◌}
use Rattle.std.specs.Prelude.{Option, Some, None}
use Rattle.std.specs.Option.{option_or}
use Rattle.std.specs.Ordering.{eq_by_cmp, nat_cmp}
use Rattle.std.specs.List.{cons_option, filter_map, flat_map}
use Rattle.std.specs.Map.{update, update_all}
use Rattle.std.specs.BTreeMap.{BTreeMap, IsFromIterResult, get}
use Rattle.claim_reports.specs.declared.differences.Counted.{Counted}
use Rattle.claim_reports.specs.declared.differences.Made.{Made}
use Rattle.claim_reports.specs.declared.differences.Entry.{Entry}
use Rattle.claim_reports.specs.declared.differences.Difference.{Difference}
use Rattle.claim_reports.specs.Comparing.{last_with, told, counted_finding, made_finding, findings, Findings}
use Rattle.claim_reports.proofs.Adding.{at_nat}
use Rattle.claim_reports.proofs.Snocs.{or_none}

-- a map of elements by their numbers has the last one of each number
entered : {A : Type 0} (o : Option A) (b : Bool) (x : A) (p : Option A) → option_or o (cond b (Some x) p) ≡ option_or (option_or o (cond b (Some x) None)) p
entered None true x p = refl
entered None false x p = refl
entered (Some y) b x p = refl

last_among : {A : Type 0} (number : A → ℕ) (n : ℕ) (xs : List A) (f : ℕ → Option A)
    → update_all (eq_by_cmp nat_cmp) f (map (λ x. (number x, x)) xs) n ≡ option_or (last_with number n xs) (f n)
last_among number n [] f = refl
last_among number n (x ∷ more) f =
    last_among number n more (update (eq_by_cmp nat_cmp) f (number x) (Some x))
    ∙ ap (λ (b : Bool). option_or (last_with number n more) (cond b (Some x) (f n))) (at_nat (number x) n)
    ∙ entered (last_with number n more) (number x == n) x (f n)

pub last_is : {A : Type 0} (number : A → ℕ) (xs : List A) (by : BTreeMap ℕ A) → IsFromIterResult nat_cmp (map (λ x. (number x, x)) xs) by → (n : ℕ) → get nat_cmp by n ≡ last_with number n xs
last_is number xs by made n = made.0 n ∙ last_among number n xs (λ _. None) ∙ or_none (last_with number n xs)

-- what is found of elements
picked : {A : Type 0} (find : A → Option Difference) (xs : List A) → filter_map find xs ≡ flat_map (λ x. told (find x)) xs
picked find [] = refl
picked find (x ∷ more) = one (find x) (filter_map find more) ∙ ap (λ (found : List Difference). told (find x) ++ found) (picked find more)
  where
    one : (o : Option Difference) (found : List Difference) → cons_option o found ≡ told o ++ found
    one None found = refl
    one (Some f) found = refl

-- what is found by maps is what is found of the lists
pub found_is : (counted : List Counted) (entries : List Entry) (made : List Made) (held : BTreeMap ℕ Entry) (known : BTreeMap ℕ Counted) (paid : BTreeMap ℕ Made) (all : List Difference)
    → IsFromIterResult nat_cmp (map (λ (e : Entry). (e.number, e)) entries) held → IsFromIterResult nat_cmp (map (λ (c : Counted). (c.auth, c)) counted) known
    → IsFromIterResult nat_cmp (map (λ (m : Made). (m.auth, m)) made) paid
    → all ≡ filter_map (counted_finding (get nat_cmp held) (get nat_cmp paid)) counted ++ filter_map (made_finding (get nat_cmp held) (get nat_cmp known)) made
    → Findings counted entries made all
found_is counted entries made held known paid all opens knows pays is =
    is ∙ (λ i. picked (counted_finding (get nat_cmp held) (get nat_cmp paid)) counted i ++ picked (made_finding (get nat_cmp held) (get nat_cmp known)) made i)
    ∙ (λ i. findings (λ n. last_is (λ (e : Entry). e.number) entries held opens n i) (λ a. last_is (λ (c : Counted). c.auth) counted known knows a i)
    (λ a. last_is (λ (m : Made). m.auth) made paid pays a i) counted made)
