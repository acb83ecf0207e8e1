-- References as they are looked up, and as they follow one another.
use Rattle.std.proofs.Common.{◌≡◌, ℕ, ◌+◌, ◌==◌, Bool, true, false, cond, ◌||◌, List, [], ◌∷◌, ◌++◌, length, Option, Some, None, refl, sym, ap, ◌∙◌}
use Rattle.std.specs.Prelude.{bytes_eq, Result, Ok, Err, IfOk}
use Rattle.std.specs.List.{list_any}
use Rattle.std.specs.Ordering.{nat_cmp, is_eq, match_ordering}
use Rattle.std.specs.BTreeMap.{is_at}
use Rattle.std.specs.BTreeSet.{insert_key}
use Rattle.std.specs.Cmp.Lexicographic.{slice_cmp, texts_ties}
use Rattle.std.specs.declared.cmp.Ordering.{Ordering}
use Rattle.std.specs.declared.cmp.Ordering.TheVariants.{Less, Equal, Greater}
use Rattle.claim_model.proofs.Tests.{bytes_same}
use Rattle.kept_logs.specs.References.{Reference}
use Rattle.log_audit.specs.Names.{Use, fault_of, first_misnamed, noted, or_more, uses_before}
use Rattle.log_audit.specs.NamesSeen.{Finds, all_noted, first_sorted, known_in, noted_in}
use Rattle.log_audit.specs.declared.fault.ReferenceFault.{ReferenceFault}
use Rattle.log_audit.specs.declared.reading.referring.Misnamed.{Misnamed}

-- ---- references in order

same_at : (name key : List ℕ) → is_at (slice_cmp nat_cmp name) key ≡ bytes_eq name key
same_at name key = sym (texts_ties name key)

same_key : (key other : List ℕ) → slice_cmp nat_cmp key other ≡ Equal → key ≡ other
same_key key other e = bytes_same key other (texts_ties key other ∙ ap is_eq e)

or_swap : (a b c : Bool) → (a || (b || c)) ≡ (b || (a || c))
or_swap true true c = refl
or_swap true false c = refl
or_swap false true c = refl
or_swap false false c = refl

or_twice : (a b : Bool) → (a || b) ≡ (a || (a || b))
or_twice true b = refl
or_twice false b = refl

-- one more is one more to be found
known_more : (name key : List ℕ) (keys : List (List ℕ)) → known_in name (insert_key (slice_cmp nat_cmp) keys key) ≡ (bytes_eq name key || known_in name keys)
known_more name key [] = ap (λ (b : Bool). b || false) (same_at name key)
known_more name key (x ∷ keys) = at_order (known_more name key keys) (slice_cmp nat_cmp key x) refl
  where
    at_order : known_in name (insert_key (slice_cmp nat_cmp) keys key) ≡ (bytes_eq name key || known_in name keys) → (o : Ordering) → slice_cmp nat_cmp key x ≡ o → known_in name (match_ordering o (key ∷ x ∷ keys) (x ∷ keys) (x ∷ insert_key (slice_cmp nat_cmp) keys key)) ≡ (bytes_eq name key || known_in name (x ∷ keys))
    at_order more Less e = ap (λ (b : Bool). b || known_in name (x ∷ keys)) (same_at name key)
    at_order more Equal e =
        let here : bytes_eq name key ≡ is_at (slice_cmp nat_cmp name) x = sym (same_at name key) ∙ ap (is_at (slice_cmp nat_cmp name)) (same_key key x e) in
        or_twice (is_at (slice_cmp nat_cmp name) x) (known_in name keys) ∙ ap (λ (b : Bool). b || known_in name (x ∷ keys)) (sym here)
    at_order more Greater e =
        ap (λ (b : Bool). is_at (slice_cmp nat_cmp name) x || b) more
        ∙ or_swap (is_at (slice_cmp nat_cmp name) x) (bytes_eq name key) (known_in name keys)

-- the same references, in order and as they came
abbrev HasSame : List (List ℕ) → List (List ℕ) → Type 0
HasSame keys before = (name : List ℕ) → known_in name keys ≡ list_any (bytes_eq name) before

noted_same : (keys before : List (List ℕ)) (key : List ℕ) → HasSame keys before → HasSame (noted_in key keys) (noted key before)
noted_same keys before key same = at_none (length key == 0)
  where
    at_none : (none : Bool) → HasSame (cond none keys (insert_key (slice_cmp nat_cmp) keys key)) (cond none before (key ∷ before))
    at_none true name = same name
    at_none false name = known_more name key keys ∙ ap (λ (b : Bool). bytes_eq name key || b) (same name)

pub sorted_same : (keys before : List (List ℕ)) (uses : List Use) → HasSame keys before → first_sorted keys uses ≡ first_misnamed before uses
sorted_same keys before [] same = refl
sorted_same keys before (u ∷ more) same =
    ap (λ (b : Bool). or_more (fault_of b u.submits u.name) u.call (first_sorted (noted_in u.name keys) more)) (same u.name)
    ∙ ap (or_more (fault_of (list_any (bytes_eq u.name) before) u.submits u.name) u.call) (sorted_same (noted_in u.name keys) (noted u.name before) more (noted_same keys before u.name same))

-- ---- calls after those before a log

found_first : (fault : Option ReferenceFault) (call : ℕ) (here more : Option Misnamed) (it : Misnamed) → (here ≡ Some it → more ≡ Some it) → or_more fault call here ≡ Some it → or_more fault call more ≡ Some it
found_first (Some why) call here more it later is = is
found_first None call here more it later is = later is

pub found_before : (keys : List (List ℕ)) (xs ys : List Use) (it : Misnamed) → first_sorted keys xs ≡ Some it → first_sorted keys (xs ++ ys) ≡ Some it
found_before keys [] ys it is = cc
found_before keys (u ∷ xs) ys it is =
    found_first (fault_of (known_in u.name keys) u.submits u.name) u.call (first_sorted (noted_in u.name keys) xs) (first_sorted (noted_in u.name keys) (xs ++ ys)) it (found_before (noted_in u.name keys) xs ys it) is

none_first : (fault : Option ReferenceFault) (call : ℕ) (here more last : Option Misnamed) → (here ≡ None → more ≡ last) → or_more fault call here ≡ None → or_more fault call more ≡ last
none_first (Some why) call here more last later is = cc
none_first None call here more last later is = later is

pub none_before : (keys : List (List ℕ)) (xs ys : List Use) → first_sorted keys xs ≡ None → first_sorted keys (xs ++ ys) ≡ first_sorted (all_noted keys xs) ys
none_before keys [] ys is = refl
none_before keys (u ∷ xs) ys is =
    none_first (fault_of (known_in u.name keys) u.submits u.name) u.call (first_sorted (noted_in u.name keys) xs) (first_sorted (noted_in u.name keys) (xs ++ ys)) (first_sorted (all_noted (noted_in u.name keys) xs) ys)
    (none_before (noted_in u.name keys) xs ys) is

-- where one is found before the log, and where none is
pub all_found : (xs ys : List Use) (it : Misnamed) → Some it ≡ first_sorted [] xs → Some it ≡ first_misnamed [] (xs ++ ys)
all_found xs ys it is = sym (found_before [] xs ys it (sym is)) ∙ sorted_same [] [] (xs ++ ys) (λ name. refl)

pub then_found : (xs ys : List Use) (keys : List (List ℕ)) (none found : Option Misnamed) → none ≡ None → none ≡ first_sorted [] xs → (none ≡ None → keys ≡ all_noted [] xs) → found ≡ first_sorted keys ys → found ≡ first_misnamed [] (xs ++ ys)
then_found xs ys keys none found is first known last =
    last ∙ (ap (λ (k : List (List ℕ)). first_sorted k ys) (known is) ∙ (sym (none_before [] xs ys (sym first ∙ is)) ∙ sorted_same [] [] (xs ++ ys) (λ name. refl)))

-- before the log, by what was found there
pub before_found : (old new : List (List ℕ)) (slice items refs : List Reference) (uses : List Use) (found : Option Misnamed) (it : Misnamed) → old ≡ [] → slice ≡ items → items ≡ refs → found ≡ Some it
    → Finds old new (uses_before slice) found → Some it ≡ first_misnamed [] (uses_before refs ++ uses)
before_found old new slice items refs uses found it none same are is finds =
    let here : found ≡ first_sorted [] (uses_before refs) = finds.first ∙ (ap (λ (k : List (List ℕ)). first_sorted k (uses_before slice)) none ∙ ap (λ (rs : List Reference). first_sorted [] (uses_before rs)) (same ∙ are)) in
    all_found (uses_before refs) uses it (sym is ∙ here)

-- and in it, where nothing was
pub behind_found : {E : Type 0} (old new : List (List ℕ)) (slice items refs : List Reference) (uses : List Use) (found : Option Misnamed) (result : Result (Option Misnamed) E) → old ≡ [] → slice ≡ items → items ≡ refs
    → found ≡ None → Finds old new (uses_before slice) found → IfOk result (λ last. last ≡ first_sorted new uses) → IfOk result (λ last. last ≡ first_misnamed [] (uses_before refs ++ uses))
behind_found old new slice items refs uses found (Err why) none same are is finds last = tt
behind_found old new slice items refs uses found (Ok it) none same are is finds last =
    let here = ap (λ (k : List (List ℕ)). first_sorted k (uses_before slice)) none ∙ ap (λ (rs : List Reference). first_sorted [] (uses_before rs)) (same ∙ are) in
    let noted = ap (λ (k : List (List ℕ)). all_noted k (uses_before slice)) none ∙ ap (λ (rs : List Reference). all_noted [] (uses_before rs)) (same ∙ are) in
    then_found (uses_before refs) uses new found it is (finds.first ∙ here) (λ empty. finds.known empty ∙ noted) last
