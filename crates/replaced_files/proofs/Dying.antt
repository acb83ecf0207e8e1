-- What a death leaves at each moment while files are replaced.
use Rattle.std.proofs.Common.{◌≡◌, ◌⊎◌, inl, inr, ℕ, zero, suc, ◌+◌, ◌<◌, ◌==◌, Bool, true, false, cond, List, [], ◌∷◌, Option, Some, refl, sym, ap, ◌∙◌, subst, arith, eq-eqb}
use Rattle.std.specs.Prelude.{if◌then◌else◌}
use Rattle.std.specs.List.{list_any}
use Rattle.std.proofs.lemmas.Bool.{false≢true, ne_eqb}
use Rattle.replaced_files.specs.declared.replacing.Fate.{Fate}
use Rattle.replaced_files.specs.declared.replacing.Fate.TheVariants.{Stays, Stands, Becomes}
use Rattle.replaced_files.specs.Steps.{IsFollowed, all_done}
use Rattle.replaced_files.specs.Deeds.{Deed, Copied, Exchanged, SyncedNames}
use Rattle.replaced_files.specs.Plans.{plan_at, plan_from, replacing_plan, stays}
use Rattle.replaced_files.specs.Deaths.{Left, untouched, left, copied, exchanged, synced, new_bytes, new_bytes_of, CopyStands, IsOldOr}
use Rattle.replaced_files.proofs.Following.{at_each_moment, done_is_followed, which_part}

-- the name was not given away, or to a file that is whole on the disk
abbrev IsFine : Option (List ℕ) → Left → Type 0
IsFine bytes l = (l.may_have ≡ false) ⊎ ((b : List ℕ) × ((bytes ≡ Some b) × (l.copy ≡ Some b)))

fine : (bytes : Option (List ℕ)) (l : Left) → IsFine bytes l → IsOldOr bytes l
fine bytes l is before standing (inl old) = inl old.1
fine bytes l (inl not_yet) before standing (inr new) = absurd (false≢true (sym not_yet ∙ new.0))
fine bytes l (inr is) before standing (inr new) =
    inr (is.1.0 ∙ ap (λ (b : List ℕ). Some b) (sym (subst (λ (o : Option (List ℕ)). CopyStands o standing) is.1.1 new.1)))

-- the plan of another file leaves this one as it is
skipped : (b : Bool) (l m : Left) → b ≡ false → cond b m l ≡ l
skipped b l m e = rw e refl

elsewhere : (place other : ℕ) (fate : Fate) (old new : List Deed) → (other == place) ≡ false → IsFollowed (plan_at other fate) old new → left place new ≡ left place old
elsewhere place other Stays old new apart f = ap (left place) f
elsewhere place other Stands old new apart f = ap (left place) f
elsewhere place other (Becomes bytes) old new apart f =
    let d0 : List Deed = old in
    let d1 : List Deed = Copied other bytes.items true ∷ d0 in
    let d2 : List Deed = Exchanged other true ∷ d1 in
    let d3 : List Deed = SyncedNames other true ∷ d2 in
    let l0 : Left = left place old in
    let e1 : left place d1 ≡ l0 = skipped (other == place) l0 (copied l0 bytes.items true) apart in
    let e1f : left place (Copied other bytes.items false ∷ d0) ≡ l0 = skipped (other == place) l0 (copied l0 bytes.items false) apart in
    let e2 : left place d2 ≡ l0 = skipped (other == place) (left place d1) (exchanged (left place d1) true) apart ∙ e1 in
    let e2f : left place (Exchanged other false ∷ d1) ≡ l0 = skipped (other == place) (left place d1) (exchanged (left place d1) false) apart ∙ e1 in
    let e3 : left place d3 ≡ l0 = skipped (other == place) (left place d2) (synced (left place d2) true) apart ∙ e2 in
    let e3f : left place (SyncedNames other false ∷ d2) ≡ l0 = skipped (other == place) (left place d2) (synced (left place d2) false) apart ∙ e2 in
    at_each_moment (λ (d : List Deed). left place d ≡ l0) (plan_at other (Becomes bytes)) old new (refl, e1f, (e1, e2f, (e2, e3f, e3))) f

-- the file's own plan
taken : (b : Bool) (l m : Left) → b ≡ true → cond b m l ≡ m
taken b l m e = rw e refl

here : (place : ℕ) (fate : Fate) (old new : List Deed) → left place old ≡ untouched → IsFollowed (plan_at place fate) old new → IsFine (new_bytes_of fate) (left place new)
here place Stays old new before f = inl (ap (λ (d : List Deed). (left place d).may_have) f ∙ ap (λ (l : Left). l.may_have) before)
here place Stands old new before f = inl (ap (λ (d : List Deed). (left place d).may_have) f ∙ ap (λ (l : Left). l.may_have) before)
here place (Becomes bytes) old new before f =
    let own : (place == place) ≡ true = eq-eqb place place refl in
    let d0 : List Deed = old in
    let d1 : List Deed = Copied place bytes.items true ∷ d0 in
    let d2 : List Deed = Exchanged place true ∷ d1 in
    let d3 : List Deed = SyncedNames place true ∷ d2 in
    let l1 : Left = copied untouched bytes.items true in
    let l2 : Left = exchanged l1 true in
    let e1 : left place d1 ≡ l1 = taken (place == place) (left place d0) (copied (left place d0) bytes.items true) own ∙ ap (λ (l : Left). copied l bytes.items true) before in
    let e1f : left place (Copied place bytes.items false ∷ d0) ≡ copied untouched bytes.items false = taken (place == place) (left place d0) (copied (left place d0) bytes.items false) own ∙ ap (λ (l : Left). copied l bytes.items false) before in
    let e2 : left place d2 ≡ l2 = taken (place == place) (left place d1) (exchanged (left place d1) true) own ∙ ap (λ (l : Left). exchanged l true) e1 in
    let e2f : left place (Exchanged place false ∷ d1) ≡ exchanged l1 false = taken (place == place) (left place d1) (exchanged (left place d1) false) own ∙ ap (λ (l : Left). exchanged l false) e1 in
    let e3 : left place d3 ≡ synced l2 true = taken (place == place) (left place d2) (synced (left place d2) true) own ∙ ap (λ (l : Left). synced l true) e2 in
    let e3f : left place (SyncedNames place false ∷ d2) ≡ synced l2 false = taken (place == place) (left place d2) (synced (left place d2) false) own ∙ ap (λ (l : Left). synced l false) e2 in
    let P : Left → Type 0 = IsFine (Some bytes.items) in
    let whole : (l : Left) → l.copy ≡ Some bytes.items → P l = λ l e. inr (bytes.items, (refl, e)) in
    at_each_moment (λ (d : List Deed). IsFine (Some bytes.items) (left place d)) (plan_at place (Becomes bytes)) old new (
      subst P (sym before) (inl refl),
      subst P (sym e1f) (inl refl),
      (
        subst P (sym e1) (inl refl),
        subst P (sym e2f) (whole (exchanged l1 false) refl),
        (subst P (sym e2) (whole l2 refl), subst P (sym e3f) (whole (synced l2 false) refl), subst P (sym e3) (whole (synced l2 true) refl)),
      ),
    )
    f

-- the plans of the files behind it
beyond : (at place : ℕ) (fates : List Fate) (old new : List Deed) → place < at → IsFollowed (plan_from at fates) old new → left place new ≡ left place old
beyond at place [] old new behind f = ap (left place) f
beyond at place (fate ∷ more) old new behind f = by_part (beyond (at + 1) place more (all_done (plan_at at fate) old) new (omega arith)) (which_part (plan_at at fate) (plan_from (at + 1) more) old new f)
  where
    apart : (at == place) ≡ false
    apart = ne_eqb at place (λ e. omega (arith, e))

    by_part : (IsFollowed (plan_from (at + 1) more) (all_done (plan_at at fate) old) new → left place new ≡ left place (all_done (plan_at at fate) old)) → IsFollowed (plan_at at fate) old new ⊎ IsFollowed (plan_from (at + 1) more) (all_done (plan_at at fate) old) new → left place new ≡ left place old
    by_part rest (inl g) = elsewhere place at fate old new apart g
    by_part rest (inr g) = rest g ∙ elsewhere place at fate old (all_done (plan_at at fate) old) apart (done_is_followed (plan_at at fate) old)

-- the file at a place, among those from one on
among : (at n place : ℕ) (fates : List Fate) (old new : List Deed) → place ≡ at + n → left place old ≡ untouched → IsFollowed (plan_from at fates) old new → IsFine (new_bytes n fates) (left place new)
among at n place [] old new is before f = inl (ap (λ (d : List Deed). (left place d).may_have) f ∙ ap (λ (l : Left). l.may_have) before)
among at zero place (fate ∷ more) old new is before f = by_part (which_part (plan_at at fate) (plan_from (at + 1) more) old new f)
  where
    own : at ≡ place
    own = omega arith

    by_part : IsFollowed (plan_at at fate) old new ⊎ IsFollowed (plan_from (at + 1) more) (all_done (plan_at at fate) old) new → IsFine (new_bytes_of fate) (left place new)
    by_part (inl g) = here place fate old new before (subst (λ (k : ℕ). IsFollowed (plan_at k fate) old new) own g)
    by_part (inr g) =
        let done : List Deed = all_done (plan_at at fate) old in
        let whole : IsFollowed (plan_at place fate) old done = subst (λ (k : ℕ). IsFollowed (plan_at k fate) old done) own (done_is_followed (plan_at at fate) old) in
        subst (IsFine (new_bytes_of fate)) (sym (beyond (at + 1) place more done new (omega arith) g)) (here place fate old done before whole)
among at (suc n) place (fate ∷ more) old new is before f = by_part (among (at + 1) n place more (all_done (plan_at at fate) old) new (omega arith)) (which_part (plan_at at fate) (plan_from (at + 1) more) old new f)
  where
    apart : (at == place) ≡ false
    apart = ne_eqb at place (λ e. omega (arith, e))

    by_part : (left place (all_done (plan_at at fate) old) ≡ untouched → IsFollowed (plan_from (at + 1) more) (all_done (plan_at at fate) old) new → IsFine (new_bytes n more) (left place new)) → IsFollowed (plan_at at fate) old new ⊎ IsFollowed (plan_from (at + 1) more) (all_done (plan_at at fate) old) new → IsFine (new_bytes n more) (left place new)
    by_part rest (inl g) = inl (ap (λ (l : Left). l.may_have) (elsewhere place at fate old new apart g ∙ before))
    by_part rest (inr g) = rest (elsewhere place at fate old (all_done (plan_at at fate) old) apart (done_is_followed (plan_at at fate) old) ∙ before) g

pub one_or_the_other : (fates : List Fate) (place : ℕ) (before now : List Deed) → left place before ≡ untouched → IsFollowed (replacing_plan fates) before now → IsOldOr (new_bytes place fates) (left place now)
one_or_the_other fates place before now is f = by_test (list_any stays fates) f
  where
    by_test : (some_stay : Bool) → IsFollowed (if some_stay then [] else plan_from 0 fates) before now → IsOldOr (new_bytes place fates) (left place now)
    by_test true g = fine (new_bytes place fates) (left place now) (inl (ap (λ (d : List Deed). (left place d).may_have) g ∙ ap (λ (l : Left). l.may_have) is))
    by_test false g = fine (new_bytes place fates) (left place now) (among 0 place place fates before now (omega arith) is g)
