-- References that are added, and found again.
use Rattle.std.proofs.Common.{◌≡◌, ℕ, Bool, true, false, cond, List, [], ◌∷◌, ◌++◌, Option, Some, None, refl, sym, ap, ◌∙◌, subst}
use Rattle.std.specs.Prelude.{bytes_eq}
use Rattle.std.specs.Map.{lookup}
use Rattle.std.specs.Global.{Vec}
use Rattle.claim_model.proofs.Tests.{bytes_same}
use Rattle.kept_logs.specs.References.{Reference}
use Rattle.node_service.specs.Serving.{found}
use Rattle.node_service.specs.Numbers.{HasNumbers, is_name}

-- what is found first, or else after it
abbrev or_else : Option ℕ → Option ℕ → Option ℕ
or_else None other = other
or_else (Some number) other = Some number

abbrev one_of : Bool → ℕ → Option ℕ
one_of here number = cond here (Some number) None

first_or : (here : Bool) (number : ℕ) (with_one more : Option ℕ) (one : Option ℕ) → with_one ≡ or_else more one → cond here (Some number) with_one ≡ or_else (cond here (Some number) more) one
first_or true number with_one more one e = refl
first_or false number with_one more one e = e

lookup_end : (test : Vec ℕ → Bool) (es : List (Vec ℕ × ℕ)) (k : Vec ℕ) (v : ℕ) → lookup test (es ++ (k, v) ∷ []) ≡ or_else (lookup test es) (one_of (test k) v)
lookup_end test [] k v = refl
lookup_end test (e ∷ es) k v = first_or (test e.0) e.1 (lookup test (es ++ (k, v) ∷ [])) (lookup test es) (one_of (test k) v) (lookup_end test es k v)

found_end : (list : List Reference) (r : Reference) (name : List ℕ) → found (list ++ r ∷ []) name ≡ or_else (found list name) (one_of (bytes_eq name r.name) r.number)
found_end [] r name = refl
found_end (first ∷ list) r name = first_or (bytes_eq name first.name) first.number (found (list ++ r ∷ []) name) (found list name) (one_of (bytes_eq name r.name) r.number) (found_end list r name)

-- a name that is new
pub added_new : (list : List Reference) (entries : List (Vec ℕ × ℕ)) (key : Vec ℕ) (r : Reference) → key.items ≡ r.name → HasNumbers list entries → HasNumbers (list ++ r ∷ []) (entries ++ (key, r.number) ∷ [])
added_new list entries key r same has name =
    lookup_end (is_name name) entries key r.number
    ∙ (ap (λ (o : Option ℕ). or_else o (one_of (bytes_eq name key.items) r.number)) (has name)
    ∙ (ap (λ (items : List ℕ). or_else (found list name) (one_of (bytes_eq name items) r.number)) same ∙ sym (found_end list r name)))

-- a name that has a number already
pub added_again : (list : List Reference) (entries : List (Vec ℕ × ℕ)) (r : Reference) (number : ℕ) → lookup (is_name r.name) entries ≡ Some number → HasNumbers list entries → HasNumbers (list ++ r ∷ []) entries
added_again list entries r number known has name = has name ∙ (by_test (bytes_eq name r.name) refl ∙ sym (found_end list r name))
  where
    by_test : (here : Bool) → bytes_eq name r.name ≡ here → found list name ≡ or_else (found list name) (one_of here r.number)
    by_test false e = by_found (found list name)
      where
        by_found : (o : Option ℕ) → o ≡ or_else o None
        by_found None = refl
        by_found (Some n) = refl
    by_test true e =
        let here : found list name ≡ Some number = ap (found list) (bytes_same name r.name e) ∙ (sym (has r.name) ∙ known) in
        here ∙ ap (λ (o : Option ℕ). or_else o (one_of true r.number)) (sym here)
