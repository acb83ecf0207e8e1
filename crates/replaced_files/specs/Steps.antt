-- Plans of deeds of any kind, and what was done of them, the newest first.
use Rattle.std.specs.Prelude.{◌≡◌, ◌⊎◌, Bool, true, false, List, [], ◌∷◌}

-- the newest deed is such
abbrev pub newest : {D : Type 0} → (D → Bool) → List D → Bool
newest such [] = false
newest such (deed ∷ before) = such deed

-- what is to be done, the first first: each step is the deed that it is, done or not
abbrev pub Plan : Type 0 → Type 0
Plan D = List (Bool → D)

-- a plan is followed from here: nothing of it was done yet; or its first step failed, and nothing was done after it; or that was done, and so on
abbrev pub IsFollowed : {D : Type 0} → Plan D → List D → List D → Type 0
IsFollowed [] old new = new ≡ old
IsFollowed (step ∷ more) old new = (new ≡ old) ⊎ ((new ≡ step false ∷ old) ⊎ IsFollowed more (step true ∷ old) new)

-- all of it was done
abbrev pub all_done : {D : Type 0} → Plan D → List D → List D
all_done [] old = old
all_done (step ∷ more) old = all_done more (step true ∷ old)
