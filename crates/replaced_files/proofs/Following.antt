-- Plans that are followed.
use Rattle.std.proofs.Common.{◌≡◌, ◌⊎◌, inl, inr, true, false, List, [], ◌∷◌, ◌++◌, refl, sym, subst}
use Rattle.replaced_files.specs.Steps.{Plan, IsFollowed, all_done}

pub nothing_yet : {D : Type 0} (plan : Plan D) (old new : List D) → new ≡ old → IsFollowed plan old new
nothing_yet [] old new e = e
nothing_yet (step ∷ more) old new e = inl e

pub first_part : {D : Type 0} (front after : Plan D) (old new : List D) → IsFollowed front old new → IsFollowed (front ++ after) old new
first_part [] after old new e = nothing_yet after old new e
first_part (step ∷ more) after old new (inl e) = inl e
first_part (step ∷ more) after old new (inr (inl e)) = inr (inl e)
first_part (step ∷ more) after old new (inr (inr f)) = inr (inr (first_part more after (step true ∷ old) new f))

pub second_part : {D : Type 0} (front after : Plan D) (old new : List D) → IsFollowed after (all_done front old) new → IsFollowed (front ++ after) old new
second_part [] after old new f = f
second_part (step ∷ more) after old new f = inr (inr (second_part more after (step true ∷ old) new f))

pub both_parts : {D : Type 0} (front after : Plan D) (old : List D) → all_done (front ++ after) old ≡ all_done after (all_done front old)
both_parts [] after old = refl
both_parts (step ∷ more) after old = both_parts more after (step true ∷ old)

pub done_is_followed : {D : Type 0} (plan : Plan D) (old : List D) → IsFollowed plan old (all_done plan old)
done_is_followed [] old = refl
done_is_followed (step ∷ more) old = inr (inr (done_is_followed more (step true ∷ old)))

-- what was followed so far is within the first part, or that is done
pub which_part : {D : Type 0} (front after : Plan D) (old new : List D) → IsFollowed (front ++ after) old new → IsFollowed front old new ⊎ IsFollowed after (all_done front old) new
which_part [] after old new f = inr f
which_part (step ∷ more) after old new (inl e) = inl (inl e)
which_part (step ∷ more) after old new (inr (inl e)) = inl (inr (inl e))
which_part (step ∷ more) after old new (inr (inr f)) = within (which_part more after (step true ∷ old) new f)
  where
    within : IsFollowed more (step true ∷ old) new ⊎ IsFollowed after (all_done more (step true ∷ old)) new → IsFollowed (step ∷ more) old new ⊎ IsFollowed after (all_done more (step true ∷ old)) new
    within (inl g) = inl (inr (inr g))
    within (inr g) = inr g

-- something holds at each moment of a plan
abbrev pub AtEachMoment : {D : Type 0} → (List D → Type 0) → Plan D → List D → Type 0
AtEachMoment P [] old = P old
AtEachMoment P (step ∷ more) old = P old × P (step false ∷ old) × AtEachMoment P more (step true ∷ old)

pub at_each_moment : {D : Type 0} (P : List D → Type 0) (plan : Plan D) (old new : List D) → AtEachMoment P plan old → IsFollowed plan old new → P new
at_each_moment P [] old new m e = subst P (sym e) m
at_each_moment P (step ∷ more) old new m (inl e) = subst P (sym e) m.0
at_each_moment P (step ∷ more) old new m (inr (inl e)) = subst P (sym e) m.1
at_each_moment P (step ∷ more) old new m (inr (inr f)) = at_each_moment P more (step true ∷ old) new m.2 f
