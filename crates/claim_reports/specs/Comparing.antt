-- What a pharmacy counts beside what a payer paid.
use Rattle.std.specs.Prelude.{◌≡◌, ℕ, ◌==◌, ◌&&◌, ◌||◌, ◌++◌, Bool, false, cond, List, [], ◌∷◌, Option, Some, None, is_some}
use Rattle.std.specs.Option.{option_or}
use Rattle.std.specs.List.{flat_map}
use Rattle.claim_reports.specs.declared.differences.Figures.{Figures}
use Rattle.claim_reports.specs.declared.differences.Counted.{Counted}
use Rattle.claim_reports.specs.declared.differences.Made.{Made}
use Rattle.claim_reports.specs.declared.differences.Entry.{Entry}
use Rattle.claim_reports.specs.declared.differences.Difference.{Difference}
use Rattle.claim_reports.specs.declared.differences.Difference.TheVariants.{NotPaid, Differs, Reversed, NotCounted}

-- the last element with a number
abbrev pub last_with : {A : Type 0} → (A → ℕ) → ℕ → List A → Option A
last_with number n [] = None
last_with number n (x ∷ more) = option_or (last_with number n more) (cond (number x == n) (Some x) None)

-- the payment of an authorization, the entry of a number, and the payment that is counted; of a table that has one twice, the last
abbrev pub made_under : ℕ → List Made → Option Made
made_under auth made = last_with (λ (m : Made). m.auth) auth made

abbrev pub entry_under : ℕ → List Entry → Option Entry
entry_under number entries = last_with (λ (e : Entry). e.number) number entries

abbrev pub counted_under : ℕ → List Counted → Option Counted
counted_under auth counted = last_with (λ (c : Counted). c.auth) auth counted

-- an entry is there, and has no answer yet
abbrev pub is_open_entry : Option Entry → Bool
is_open_entry None = false
is_open_entry (Some e) = e.open

-- each figure is the other's: the total, the amounts that make it, and the fill that it is for
abbrev pub same_figures : Figures → Figures → Bool
same_figures a b = (a.cents == b.cents) && ((a.cost == b.cost) && ((a.fee == b.fee) && ((a.copay == b.copay) && ((a.prescription == b.prescription) && (a.fill == b.fill)))))

-- of a payment that is counted and was made: that it was reversed; else that a figure differs
abbrev pub standing_alike : Counted → Made → Option Difference
standing_alike c m = cond (same_figures m.figures c.figures) None (Some (Differs c.auth c.figures m.figures))

abbrev pub made_alike : (ℕ → Option Entry) → Counted → Made → Option ℕ → Option Difference
made_alike entries c m (Some number) = Some (Reversed c.auth c.figures (is_open_entry (entries number)))
made_alike entries c m None = standing_alike c m

abbrev pub beside : (ℕ → Option Entry) → Counted → Option Made → Option Difference
beside entries c None = Some (NotPaid c.auth c.figures)
beside entries c (Some m) = made_alike entries c m m.reversed_by

-- what is found of a payment that is counted
unfoldable pub counted_finding : (ℕ → Option Entry) → (ℕ → Option Made) → Counted → Option Difference
counted_finding entries made c = beside entries c (made c.auth)

-- what is found of a payment that was made: that it stands and is not counted
abbrev pub made_finding : (ℕ → Option Entry) → (ℕ → Option Counted) → Made → Option Difference
made_finding entries counted m =
    cond (is_some m.reversed_by || is_some (counted m.auth)) None (Some (NotCounted m.auth m.figures (is_open_entry (entries m.number))))

-- a finding, where there is one
abbrev pub told : Option Difference → List Difference
told None = []
told (Some finding) = finding ∷ []

-- what is found of payments that are counted and of payments that were made
abbrev pub findings : (ℕ → Option Entry) → (ℕ → Option Counted) → (ℕ → Option Made) → List Counted → List Made → List Difference
findings entries known paid counted made =
    flat_map (λ c. told (counted_finding entries paid c)) counted ++ flat_map (λ m. told (made_finding entries known m)) made

abbrev pub Findings : List Counted → List Entry → List Made → List Difference → Type 0
Findings counted entries made found =
    found ≡ findings (λ n. entry_under n entries) (λ a. counted_under a counted) (λ a. made_under a made) counted made
