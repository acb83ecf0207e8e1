-- What a map in parts finds, as keys come and go.
use Rattle.std.proofs.Common.{◌≡◌, ◌≢◌, ℕ, zero, suc, ◌<◌, ◌≤◌, Bool, true, false, cond, List, [], ◌∷◌, ◌++◌, length, Option, Some, None, slice_get, slice_set, refl, sym, ap, ◌∙◌, subst, ⊎_elim}
use Rattle.std.specs.Prelude.{option_and_then}
use Rattle.std.specs.Option.{option_or}
use Rattle.std.specs.Cmp.{IsEquivalence}
use Rattle.std.specs.Prelude.{Result, Ok, Err, is_ok, OnErr}
use Rattle.std.specs.Map.{lookup}
use Rattle.std.specs.Hash.{HashWrites}
use Rattle.std.specs.HashMap.{HashMap, get, get_by, hasher_of}
use Rattle.std.proofs.lemmas.Bool.{cases_eq, cond-true, cond-false}
use Rattle.std.proofs.lemmas.Option.{slice_get_past}
use Rattle.payer_book.specs.declared.keys.HashStart.{HashStart}
use Rattle.payer_book.specs.PlaceMaps.{get_at, number_from, Puts, SameAt, IsEmptyAt}
use Rattle.payer_book.proofs.Lists.{get_set, get_set_other}

-- a key that is nowhere is not in its own map, and not in the first
pub none_apart : (a f : Option ℕ) → option_or a f ≡ None → a ≡ None
none_apart None f e = refl
none_apart (Some p) f e = absurd cc

module _ {K : Type 0} (eq : K → K → Bool) (n : K → ℕ) (alike : (x y : K) → eq x y ≡ true → n x ≡ n y) (key : K) where
  -- the key is put into its own map, or taken out of both
  module _ (place : Option ℕ) (a b : ℕ → K → Option ℕ) (there : (k : K) → b (n key) k ≡ cond (eq key k) place (a (n key) k)) (others : (m : ℕ) (k : K) → m ≢ n key → b m k ≡ a m k) where
    pub there_apart : (k : K) → eq key k ≡ true → b (n k) k ≡ place
    there_apart k is = ap (λ m. b m k) (sym (alike key k is)) ∙ there k ∙ cond-true (eq key k) place (a (n key) k) is

    pub other_apart : (k : K) → eq key k ≡ false → b (n k) k ≡ a (n k) k
    other_apart k is = ⊎_elim
        (λ (same : n k ≡ n key). ap (λ m. b m k) same ∙ there k ∙ cond-false (eq key k) place (a (n key) k) is ∙ ap (λ m. a m k) (sym same))
        (λ (other : n k ≡ n key → ⊥). others (n k) k other)
        (cases_eq (n k) (n key))

  pub put_apart : (place : ℕ) (a b : ℕ → K → Option ℕ) (f : K → Option ℕ) → ((k : K) → b (n key) k ≡ cond (eq key k) (Some place) (a (n key) k)) → ((m : ℕ) (k : K) → m ≢ n key → b m k ≡ a m k)
      → (k : K) → option_or (b (n k) k) (f k) ≡ cond (eq key k) (Some place) (option_or (a (n k) k) (f k))
  put_apart place a b f there others k = by_test (eq key k) refl
    where
      by_test : (t : Bool) → eq key k ≡ t → option_or (b (n k) k) (f k) ≡ cond t (Some place) (option_or (a (n k) k) (f k))
      by_test true is = ap (λ o. option_or o (f k)) (there_apart (Some place) a b there others k is)
      by_test false is = ap (λ o. option_or o (f k)) (other_apart (Some place) a b there others k is)

  pub put_first : (place : ℕ) (a : ℕ → K → Option ℕ) (f g : K → Option ℕ) → ((m : ℕ) (k : K) → eq key k ≡ true → a m key ≡ a m k) → a (n key) key ≡ None → ((k : K) → g k ≡ cond (eq key k) (Some place) (f k))
      → (k : K) → option_or (a (n k) k) (g k) ≡ cond (eq key k) (Some place) (option_or (a (n k) k) (f k))
  put_first place a f g same none put k = by_test (eq key k) refl
    where
      by_test : (t : Bool) → eq key k ≡ t → option_or (a (n k) k) (g k) ≡ cond t (Some place) (option_or (a (n k) k) (f k))
      by_test true is =
          let here : a (n k) k ≡ None = ap (λ m. a m k) (sym (alike key k is)) ∙ sym (same (n key) k is) ∙ none in
          ap (λ o. option_or o (g k)) here ∙ put k ∙ cond-true (eq key k) (Some place) (f k) is
      by_test false is = ap (option_or (a (n k) k)) (put k ∙ cond-false (eq key k) (Some place) (f k) is)

  pub taken_out : (a b : ℕ → K → Option ℕ) (f g : K → Option ℕ) → ((k : K) → b (n key) k ≡ cond (eq key k) None (a (n key) k)) → ((m : ℕ) (k : K) → m ≢ n key → b m k ≡ a m k) → ((k : K) → g k ≡ cond (eq key k) None (f k))
      → (k : K) → option_or (b (n k) k) (g k) ≡ cond (eq key k) None (option_or (a (n k) k) (f k))
  taken_out a b f g there others out k = by_test (eq key k) refl
    where
      by_test : (t : Bool) → eq key k ≡ t → option_or (b (n k) k) (g k) ≡ cond t None (option_or (a (n k) k) (f k))
      by_test true is = ap (λ o. option_or o (g k)) (there_apart None a b there others k is) ∙ out k ∙ cond-true (eq key k) None (f k) is
      by_test false is =
          ap (λ o. option_or o (g k)) (other_apart None a b there others k is) ∙ ap (option_or (a (n k) k)) (out k ∙ cond-false (eq key k) None (f k) is)

module _ {K : Type 0} (eq : K → K → Bool) where
  -- equal keys are found alike
  pub found_alike : IsEquivalence eq → (shards : List (HashMap K ℕ HashStart)) (m : ℕ) (key k : K) → eq key k ≡ true → get_at eq shards m key ≡ get_at eq shards m k
  found_alike laws shards m key k is = ap (λ (test : K → Bool). option_and_then (λ s. get_by test s) (slice_get shards m)) (λ i z. laws.congr key k z is i)

  -- the same entries, the same places
  pub found_same : (old new : HashMap K ℕ HashStart) → new.entries ≡ old.entries → (k : K) → get eq new k ≡ get eq old k
  found_same old new same k = ap (lookup (eq k)) same

  -- one of the maps is another one
  module _ (shards : List (HashMap K ℕ HashStart)) (number : ℕ) (old new : HashMap K ℕ HashStart) (within : number < length shards) (there : slice_get shards number ≡ Some old) where
    pub at_number : (k : K) → get_at eq (slice_set shards number new) number k ≡ get eq new k
    at_number k = ap (option_and_then (λ s. get eq s k)) (get_set shards number new within)

    pub at_other : (n : ℕ) (k : K) → n ≢ number → get_at eq (slice_set shards number new) n k ≡ get_at eq shards n k
    at_other n k other = ap (option_and_then (λ s. get eq s k)) (get_set_other shards number n new other)

    pub puts : (key : K) (place : Option ℕ) → ((k : K) → get eq new k ≡ cond (eq key k) place (get eq old k)) → Puts eq number key place shards (slice_set shards number new)
    puts key place updates = record {
      there = λ k. at_number k ∙ updates k ∙ ap (λ (o : Option (HashMap K ℕ HashStart)). cond (eq key k) place (option_and_then (λ s. get eq s k) o)) (sym there);
      others = at_other;
    }

    pub same_at : ((k : K) → get eq new k ≡ get eq old k) → SameAt eq shards (slice_set shards number new)
    same_at same n k = ⊎_elim
        (λ (is : n ≡ number). ap (λ m. get_at eq (slice_set shards number new) m k) is ∙ at_number k ∙ same k ∙ ap (option_and_then (λ s. get eq s k)) (sym there) ∙ ap (λ m. get_at eq shards m k) (sym is))
        (λ (other : n ≡ number → ⊥). at_other n k other)
        (cases_eq n number)

  both_none : (t : Bool) (o : Option ℕ) → o ≡ None → cond t None o ≡ None
  both_none true o e = refl
  both_none false o e = e

  -- no map has that number, and a key is taken out of nothing
  pub out_of_none : (shards : List (HashMap K ℕ HashStart)) (number : ℕ) (key : K) → length shards ≤ number → Puts eq number key None shards shards
  out_of_none shards number key past =
      let none : (k : K) → get_at eq shards number k ≡ None = λ k. ap (option_and_then (λ s. get eq s k)) (slice_get_past shards number past) in
      record {
        there = λ k. none k ∙ sym (both_none (eq key k) (get_at eq shards number k) (none k));
        others = λ n k other. refl;
      }

  -- maps without a key beside the first, where there were none
  pub opened : (old new : List (HashMap K ℕ HashStart)) → length old ≡ 0 → IsEmptyAt eq new → (f : Option ℕ) (n : ℕ) (k : K) → option_or (get_at eq new n k) f ≡ option_or (get_at eq old n k) f
  opened [] new e none f n k = ap (λ o. option_or o f) (none n k)
  opened (m ∷ ms) new e none f n k = absurd cc

  -- nothing is found in maps without keys
  pub none_without : (shards : List (HashMap K ℕ HashStart)) (f : HashMap K ℕ HashStart) → shards ≡ [] → f.entries ≡ [] → (n : ℕ) (k : K) → option_or (get_at eq shards n k) (get eq f k) ≡ None
  none_without shards f none empty n k = ap (λ ms. option_or (get_at eq ms n k) (get eq f k)) none ∙ ap (lookup (eq k)) empty

  -- one map without a key more
  pub empty_more : (shards : List (HashMap K ℕ HashStart)) (m : HashMap K ℕ HashStart) → m.entries ≡ [] → IsEmptyAt eq shards → IsEmptyAt eq (shards ++ m ∷ [])
  empty_more [] m e none zero k = ap (lookup (eq k)) e
  empty_more [] m e none (suc n) k = refl
  empty_more (s ∷ ss) m e none zero k = none zero k
  empty_more (s ∷ ss) m e none (suc n) k = empty_more ss m e (λ n k. none (suc n) k) n k

-- the places of keys, by the map that is first and those beside it
module _ {K : Type 0} (eq : K → K → Bool) (laws : IsEquivalence eq) (input : K → HashWrites) (respects : (x y : K) → eq x y ≡ true → input x ≡ input y) (key : K) where
  abbrev at : List (HashMap K ℕ HashStart) → HashMap K ℕ HashStart → HashStart → K → Option ℕ
  at shards f s k = option_or (get_at eq shards (number_from s (input k)) k) (get eq f k)

  alike : (s : HashStart) (x y : K) → eq x y ≡ true → number_from s (input x) ≡ number_from s (input y)
  alike s x y e = ap (number_from s) (respects x y e)

  pub first_keyed : (place : ℕ) (shards : List (HashMap K ℕ HashStart)) (f g : HashMap K ℕ HashStart) → hasher_of g ≡ hasher_of f → at shards f (hasher_of f) key ≡ None
      → ((k : K) → get eq g k ≡ cond (eq key k) (Some place) (get eq f k)) → (k : K) → at shards g (hasher_of g) k ≡ cond (eq key k) (Some place) (at shards f (hasher_of f) k)
  first_keyed place shards f g start none updates k =
      ap (λ s. at shards g s k) start
      ∙ put_first eq (λ x. number_from (hasher_of f) (input x)) (alike (hasher_of f)) key place (get_at eq shards) (get eq f) (get eq g)
      (λ m x e. found_alike eq laws shards m key x e) (none_apart (get_at eq shards (number_from (hasher_of f) (input key)) key) (get eq f key) none) updates k

  pub apart_keyed : (place : ℕ) (shards others : List (HashMap K ℕ HashStart)) (f : HashMap K ℕ HashStart) (number : ℕ) → number ≡ number_from (hasher_of f) (input key) → Puts eq number key (Some place) shards others
      → (k : K) → at others f (hasher_of f) k ≡ cond (eq key k) (Some place) (at shards f (hasher_of f) k)
  apart_keyed place shards others f number is put k =
      let p = subst (λ n. Puts eq n key (Some place) shards others) is put in
      put_apart eq (λ x. number_from (hasher_of f) (input x)) (alike (hasher_of f)) key place (get_at eq shards) (get_at eq others) (get eq f) p.there p.others k

  pub unkeyed : (shards others : List (HashMap K ℕ HashStart)) (f g : HashMap K ℕ HashStart) (number : ℕ) → hasher_of g ≡ hasher_of f → number ≡ number_from (hasher_of g) (input key) → Puts eq number key None shards others
      → ((k : K) → get eq g k ≡ cond (eq key k) None (get eq f k)) → (k : K) → at others g (hasher_of g) k ≡ cond (eq key k) None (at shards f (hasher_of f) k)
  unkeyed shards others f g number start is take updates k =
      let p = subst (λ n. Puts eq n key None shards others) is take in
      taken_out eq (λ x. number_from (hasher_of g) (input x)) (alike (hasher_of g)) key (get_at eq shards) (get_at eq others) (get eq f) (get eq g) p.there p.others updates k
      ∙ ap (λ s. cond (eq key k) None (at shards f s k)) start

pub err_holds : {T E : Type 0} (r : Result T E) (P : Type 0) → is_ok r ≡ false → OnErr r P → P
err_holds (Ok x) P is h = absurd cc
err_holds (Err e) P is h = h
