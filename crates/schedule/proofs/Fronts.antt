-- Lines without their numbers.
use Rattle.std.proofs.Common.{◌≡◌, ℕ, ◌+◌, true, List, [], ◌∷◌, map, refl, ap}
use Rattle.std.specs.List.{enumerate_from}
use Rattle.schedule.specs.Division.{is_divider, schedule_lines}

-- the lines without their numbers
abbrev pub texts : List (ℕ × List ℕ) → List (List ℕ)
texts all = map (λ (l : ℕ × List ℕ). l.1) all

pub texts-numbered : (n : ℕ) (all : List (List ℕ)) → texts (enumerate_from n all) ≡ all
texts-numbered n [] = refl
texts-numbered n (line ∷ rest) = ap (λ more. line ∷ more) (texts-numbered (n + 1) rest)

-- after the line that divides stands the schedule
pub behind : (all : List (ℕ × List ℕ)) (line : ℕ × List ℕ) (more : List (ℕ × List ℕ)) → all ≡ line ∷ more → is_divider line.1 ≡ true → texts more ≡ schedule_lines (texts all)
behind all line more steps is = rw steps (rw is refl)
