-- The name of a node is one word.
use Rattle.std.proofs.Common.{◌≡◌, ℕ, Bool, true, false, ◌&&◌, not, List, [], ◌∷◌, length, take, drop, Some, None, Option, codes, refl, sym, ap, ◌∙◌, subst, nat_le}
use Rattle.std.specs.Prelude.{is_some, bytes_eq, if◌then◌else◌}
use Rattle.std.specs.List.{list_all}
use Rattle.std.specs.Option.{option_map, option_or}
use Rattle.std.proofs.lemmas.Bool.{eqb-true, false≢true}
use Rattle.std.proofs.lemmas.List.{take-append-drop}
use Rattle.std.proofs.lemmas.List.Folds.{list_all-append}
use Rattle.std.proofs.lemmas.Slice.Eq.{bytes_eq-Decides}
use Rattle.input_text.specs.Options.{◌>>=◌}
use Rattle.input_text.specs.Words.{is_space}
use Rattle.input_text.specs.Decimals.{is_digit, decimal_value}
use Rattle.world_setup.specs.declared.node.Node.{Node}
use Rattle.world_setup.specs.declared.node.Node.TheVariants.{Pharmacy, Switch, Payer}
use Rattle.schedule.specs.Nodes.{known_number, node_in, node_number, numbered, pharmacy_in, switch_in, payer_in}

-- a byte that is no space
abbrev pub is_inner : ℕ → Bool
is_inner byte = not (is_space byte)

no_number : (x y t : Bool) (value : ℕ) → t ≡ false → (if x && y && t then Some value else None) ≡ None
no_number true true t value e = ap (λ (s : Bool). if s then Some value else None) e
no_number true false t value e = refl
no_number false y t value e = refl

digits_of_number : (digits : List ℕ) (number : ℕ) → node_number digits ≡ Some number → list_all is_digit digits ≡ true
digits_of_number digits number named = by_test (list_all is_digit digits) refl
  where
    by_test : (t : Bool) → list_all is_digit digits ≡ t → list_all is_digit digits ≡ true
    by_test true e = e
    by_test false e =
        let gone : node_number digits ≡ None = ap (option_map known_number) (no_number (nat_le 1 (length digits)) (nat_le (length digits) 5) (list_all is_digit digits) (decimal_value digits) e) in
        absurd (false≢true (ap is_some (sym gone ∙ named)))

both : (x y : Bool) → (x && y) ≡ true → (x ≡ true) × (y ≡ true)
both true y e = (refl, e)
both false y e = absurd (false≢true e)

inner_digit : (d : ℕ) → is_digit d ≡ true → is_inner d ≡ true
inner_digit d digit = by_test (is_space d) refl
  where
    by_test : (t : Bool) → is_space d ≡ t → is_inner d ≡ true
    by_test true e = absurd (false≢true (subst (λ (n : ℕ). nat_le 48 n ≡ true) (eqb-true d 32 e) ((both (nat_le 48 d) (nat_le d 57) digit).0)))
    by_test false e = ap not e

digits_inner : (digits : List ℕ) → list_all is_digit digits ≡ true → list_all is_inner digits ≡ true
digits_inner [] all = refl
digits_inner (d ∷ rest) all =
    let parts = both (is_digit d) (list_all is_digit rest) all in
    rw (inner_digit d parts.0, digits_inner rest parts.1) refl

-- a word of letters without a space and a number has none
numbered_inner : (letters word : List ℕ) (number : ℕ) → list_all is_inner letters ≡ true → numbered letters word ≡ Some number → list_all is_inner word ≡ true
numbered_inner letters word number inner named = by_test (bytes_eq front letters) refl
  where
    front : List ℕ
    front = take (length letters) word

    rest : List ℕ
    rest = drop (length letters) word

    found : Bool → Option ℕ
    found t = (if t then Some rest else None) >>= node_number

    by_test : (t : Bool) → bytes_eq front letters ≡ t → list_all is_inner word ≡ true
    by_test false e = absurd (false≢true (ap is_some (sym (ap found e) ∙ named)))
    by_test true e =
        let same = subst (λ (l : List ℕ). list_all is_inner l ≡ true) (sym ((bytes_eq-Decides front letters).0 e)) inner in
        let digits = digits_inner rest (digits_of_number rest number (sym (ap found e) ∙ named)) in
        subst (λ (w : List ℕ). list_all is_inner w ≡ true) (take-append-drop (length letters) word) (list_all-append is_inner front rest ∙ rw (same, digits) refl)

-- a node's name has no space
pub name_inner : (from : List ℕ) (node : Node) → node_in from ≡ Some node → list_all is_inner from ≡ true
unfolding node_in
name_inner from node named = by_kinds (pharmacy_in from) (switch_in from) (payer_in from) refl refl refl named
  where
    by_kinds : (a b c : Option ℕ) → pharmacy_in from ≡ a → switch_in from ≡ b → payer_in from ≡ c
        → option_or (option_map Pharmacy a) (option_or (option_map Switch b) (option_map Payer c)) ≡ Some node → list_all is_inner from ≡ true
    by_kinds (Some n) b c ea eb ec picked = numbered_inner (codes "ph") from n refl ea
    by_kinds None (Some n) c ea eb ec picked = numbered_inner (codes "sw") from n refl eb
    by_kinds None None (Some n) ea eb ec picked = numbered_inner (codes "pr") from n refl ec
    by_kinds None None None ea eb ec picked = absurd (false≢true (ap is_some picked))
