-- Files that are replaced one after the other.
use Rattle.std.proofs.Common.{◌≡◌, ℕ, ◌+◌, ◌<◌, Bool, true, false, List, [], ◌∷◌, ◌++◌, length, get_or, drop, refl, sym, ap, ◌∙◌, subst}
use Rattle.std.specs.Prelude.{if◌then◌else◌}
use Rattle.std.specs.List.{list_any}
use Rattle.std.proofs.lemmas.List.{at_drop_more}
use Rattle.replaced_files.specs.declared.replacing.Fate.{Fate}
use Rattle.replaced_files.specs.Steps.{Plan, IsFollowed, all_done}
use Rattle.replaced_files.specs.Deeds.{Deed}
use Rattle.replaced_files.specs.Plans.{plan_at, plan_from, replacing_plan, stays}
use Rattle.replaced_files.proofs.Following.{first_part, second_part, both_parts}

-- those before a place are replaced: what is followed of the rest is followed of all
pub record IsBehind (fates : List Fate) (place : ℕ) (old now : List Deed) : Type 0 where
  pub followed : (new : List Deed) → IsFollowed (plan_from place (drop place fates)) now new → IsFollowed (plan_from 0 fates) old new
  pub done : all_done (plan_from place (drop place fates)) now ≡ all_done (plan_from 0 fates) old

pub at_first : (fates : List Fate) (old : List Deed) → IsBehind fates 0 old old
at_first fates old = record { followed = λ new f. f; done = refl }

plan_next : (fates : List Fate) (place : ℕ) (fate : Fate) → place < length fates → fate ≡ get_or fates place fate → plan_from place (drop place fates) ≡ plan_at place fate ++ plan_from (place + 1) (drop (place + 1) fates)
plan_next fates place fate within is = at_drop_more (plan_from place) fates place fate within ∙ sym (ap (λ (f : Fate). plan_from place (f ∷ drop (place + 1) fates)) is)

pub behind_next : (fates : List Fate) (place : ℕ) (fate : Fate) (old now next : List Deed) → place < length fates → fate ≡ get_or fates place fate → IsBehind fates place old now
    → next ≡ all_done (plan_at place fate) now → IsBehind fates (place + 1) old next
behind_next fates place fate old now next within is b e =
    let plan = plan_next fates place fate within is in
    record {
      followed = λ new f. b.followed new (subst (λ (p : Plan Deed). IsFollowed p now new) (sym plan) (second_part (plan_at place fate) (plan_from (place + 1) (drop (place + 1) fates)) now new (subst (λ (d : List Deed). IsFollowed (plan_from (place + 1) (drop (place + 1) fates)) d new) e f)));
      done = ap (all_done (plan_from (place + 1) (drop (place + 1) fates))) e ∙ (sym (both_parts (plan_at place fate) (plan_from (place + 1) (drop (place + 1) fates)) now) ∙ (ap (λ (p : Plan Deed). all_done p now) (sym plan) ∙ b.done));
    }

pub broken_off : (fates : List Fate) (place : ℕ) (fate : Fate) (old now new : List Deed) → place < length fates → fate ≡ get_or fates place fate → IsBehind fates place old now
    → IsFollowed (plan_at place fate) now new → IsFollowed (plan_from 0 fates) old new
broken_off fates place fate old now new within is b f =
    b.followed new (subst (λ (p : Plan Deed). IsFollowed p now new) (sym (plan_next fates place fate within is)) (first_part (plan_at place fate) (plan_from (place + 1) (drop (place + 1) fates)) now new f))

-- where none stays, all are replaced one after the other
pub none_stays : (fates : List Fate) → list_any stays fates ≡ false → plan_from 0 fates ≡ replacing_plan fates
none_stays fates e = by_test (list_any stays fates) e
  where
    by_test : (some_stay : Bool) → some_stay ≡ false → plan_from 0 fates ≡ (if some_stay then [] else plan_from 0 fates)
    by_test some_stay e = rw e refl

pub all_followed : (fates : List Fate) (old new : List Deed) → list_any stays fates ≡ false → IsFollowed (plan_from 0 fates) old new → IsFollowed (replacing_plan fates) old new
all_followed fates old new e f = subst (λ (p : Plan Deed). IsFollowed p old new) (none_stays fates e) f

pub all_replaced : (fates : List Fate) (old new : List Deed) → list_any stays fates ≡ false → new ≡ all_done (plan_from 0 fates) old → new ≡ all_done (replacing_plan fates) old
all_replaced fates old new e f = f ∙ ap (λ (p : Plan Deed). all_done p old) (none_stays fates e)

pub nothing_done : (fates : List Fate) (old new : List Deed) → list_any stays fates ≡ true → new ≡ old → IsFollowed (replacing_plan fates) old new
nothing_done fates old new e f = by_test (list_any stays fates) e
  where
    by_test : (some_stay : Bool) → some_stay ≡ true → IsFollowed (if some_stay then [] else plan_from 0 fates) old new
    by_test some_stay e = rw e f
