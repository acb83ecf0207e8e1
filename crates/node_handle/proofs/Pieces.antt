-- How bytes are cut into pieces, one after another.
use Rattle.std.proofs.Common.{◌≡◌, ℕ, ◌+◌, ◌<◌, ◌≤◌, Bool, false, List, [], ◌∷◌, ◌++◌, length, take, drop, get_or, map, Option, Some, None, refl, sym, ap, ◌∙◌, append_assoc, append-nil}
use Rattle.std.specs.Prelude.{nat_lt, if◌then◌else◌, MatchOption}
use Rattle.std.specs.Option.{option_map}
use Rattle.std.proofs.lemmas.List.{at_drop_more, drop_all, map-append}
use Rattle.node_handle.specs.Audits.{cut_at}

-- pieces, and after them others, where there are any
abbrev pub joined : List (List ℕ) → Option (List (List ℕ)) → Option (List (List ℕ))
joined before after = option_map (λ (more : List (List ℕ)). before ++ more) after

moved : (before : List (List ℕ)) (piece : List ℕ) (after : Option (List (List ℕ))) → joined (before ++ piece ∷ []) after ≡ joined before (option_map (λ (more : List (List ℕ)). piece ∷ more) after)
moved before piece None = refl
moved before piece (Some more) = ap Some (append_assoc before (piece ∷ []) more)

cut_one : (size : ℕ) (sizes bytes : List ℕ) → nat_lt (length bytes) size ≡ false → cut_at (size ∷ sizes) bytes ≡ option_map (λ (more : List (List ℕ)). take size bytes ∷ more) (cut_at sizes (drop size bytes))
cut_one size sizes bytes fits = ap (λ (t : Bool). if t then None else option_map (λ (more : List (List ℕ)). take size bytes ∷ more) (cut_at sizes (drop size bytes))) fits

-- one piece more
pub cuts_on : {A : Type 0} (see : A → List ℕ) (sizes : List ℕ) (i size : ℕ) (old new : List A) (piece : A) (rest more : List ℕ) (whole : Option (List (List ℕ))) → i < length sizes → size ≡ get_or sizes i size
    → nat_lt (length rest) size ≡ false → see piece ≡ take size rest → more ≡ drop size rest → new ≡ old ++ piece ∷ []
    → joined (map see old) (cut_at (drop i sizes) rest) ≡ whole → joined (map see new) (cut_at (drop (i + 1) sizes) more) ≡ whole
cuts_on {A} see sizes i size old new piece rest more whole lt is fits taken behind one so_far =
    let left = λ (sizes : List ℕ). joined (map see old) (cut_at sizes rest) in
    let others = drop (i + 1) sizes in
    ap (λ (pieces : List A). joined (map see pieces) (cut_at others more)) one
    ∙ (ap (λ (pieces : List (List ℕ)). joined pieces (cut_at others more)) (map-append see old (piece ∷ []))
    ∙ (moved (map see old) (see piece) (cut_at others more)
    ∙ (ap (λ (p : List ℕ). joined (map see old) (option_map (λ (xs : List (List ℕ)). p ∷ xs) (cut_at others more))) taken
    ∙ (ap (λ (b : List ℕ). joined (map see old) (option_map (λ (xs : List (List ℕ)). take size rest ∷ xs) (cut_at others b))) behind
    ∙ (sym (ap (joined (map see old)) (cut_one size others rest fits))
    ∙ (ap (λ (n : ℕ). left (n ∷ others)) is ∙ (sym (at_drop_more left sizes i size lt) ∙ so_far)))))))

-- no size more
pub cuts_end : {A : Type 0} (see : A → List ℕ) (sizes : List ℕ) (i : ℕ) (old : List A) (rest : List ℕ) (whole : Option (List (List ℕ))) → length sizes ≤ i
    → joined (map see old) (cut_at (drop i sizes) rest) ≡ whole → joined (map see old) (cut_at [] rest) ≡ whole
cuts_end {A} see sizes i old rest whole le so_far = sym (ap (λ (s : List ℕ). joined (map see old) (cut_at s rest)) (drop_all i sizes le)) ∙ so_far

joined_none : (before : List (List ℕ)) (after whole : Option (List (List ℕ))) → joined before after ≡ whole → after ≡ None → whole ≡ None
joined_none before after whole so_far none = sym so_far ∙ ap (joined before) none

joined_all : (before : List (List ℕ)) (after whole : Option (List (List ℕ))) → joined before after ≡ whole → after ≡ Some [] → whole ≡ Some before
joined_all before after whole so_far all = sym so_far ∙ (ap (joined before) all ∙ ap Some (append-nil before))

-- all pieces, where no bytes are left
pub cuts_all : {A V : Type 0} (see : A → List ℕ) (items : V → List A) (found : Option V) (pieces : V) (after whole : Option (List (List ℕ))) → joined (map see (items pieces)) after ≡ whole
    → MatchOption found (after ≡ None) (λ (all : V). (all ≡ pieces) × (after ≡ Some [])) → MatchOption found (whole ≡ None) (λ (all : V). whole ≡ Some (map see (items all)))
cuts_all {A} {V} see items None pieces after whole so_far none = joined_none (map see (items pieces)) after whole so_far none
cuts_all {A} {V} see items (Some all) pieces after whole so_far is =
    joined_all (map see (items pieces)) after whole so_far is.1 ∙ ap (λ (v : V). Some (map see (items v))) (sym is.0)
