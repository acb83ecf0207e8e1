-- What entries tell, and what one adds to what was told before it.
use Rattle.std.specs.Prelude.{◌≡◌, ℕ, ◌+◌, ◌||◌, Bool, true, false, List, [], ◌∷◌, Option, ◌++◌, length, Result, IfOk}
use Rattle.std.specs.Global.{Vec}
use Rattle.std.specs.List.{list_any, filter_map}
use Rattle.bin_routes.specs.Table.{RouteMaps}
use Rattle.claim_model.specs.Words.{Auth}
use Rattle.claim_model.specs.Bytes.{bytes_with}
use Rattle.claim_model.specs.Payments.{same_auth, is_auth}
use Rattle.claim_model.specs.Counted.{Counted, counted}
use Rattle.claim_model.specs.Journal.{Kept, JournalAtRest}
use Rattle.pharmacy_journal.specs.declared.counting.Told.{Told}
use Rattle.pharmacy_journal.specs.declared.slot.Slot.{Slot}
use Rattle.pharmacy_journal.specs.Entries.{kept_of}
use Rattle.pharmacy_journal.specs.Listing.{Listed, listed_from}
use Rattle.pharmacy_journal.specs.Counting.{Outcome, outcomes_of, named_in, outcome_reverses, has_auth}

-- what an entry tells
abbrev pub told_by : Slot → List Outcome
told_by slot = outcomes_of (kept_of slot).request (kept_of slot).answer

-- these outcomes name these payments
abbrev pub NamesAll : Told → List Outcome → Type 0
NamesAll told all = told.named.items ≡ filter_map named_in all

-- and reverse these authorizations
abbrev pub ReversesAll : Told → List Outcome → Type 0
ReversesAll told all = (a : Auth) → has_auth told.reversed.keys a ≡ list_any (outcome_reverses a) all

-- the payments that these outcomes name come after those that were named before
abbrev pub NamesMore : Told → Told → List Outcome → Type 0
NamesMore old new more = new.named.items ≡ old.named.items ++ filter_map named_in more

-- the authorizations that these outcomes reverse join those that were reversed before
abbrev pub ReversesMore : Told → Told → List Outcome → Type 0
ReversesMore old new more = (a : Auth) → has_auth new.reversed.keys a ≡ (has_auth old.reversed.keys a || list_any (outcome_reverses a) more)

-- this authorization, where there is one, joins these
abbrev pub Joins : Option Auth → List Auth → List Auth → Type 0
Joins auth old new = (a : Auth) → has_auth new a ≡ (has_auth old a || is_auth a auth)

abbrev pub JoinsOne : Auth → List Auth → List Auth → Type 0
JoinsOne auth old new = (a : Auth) → has_auth new a ≡ (has_auth old a || same_auth auth a)

-- the payments are those that the rule counts, alone or beside something else; the rule asks no route, so under all of them
abbrev pub CountsPaid : {E : Type 0} → JournalAtRest → Result (Vec Counted) E → Type 0
CountsPaid j result = (routes : RouteMaps) → IfOk result (λ paid. paid.items ≡ counted (bytes_with routes) j)

abbrev pub TellsPaid : {A E : Type 0} → JournalAtRest → Result (A × Vec Counted) E → Type 0
TellsPaid j result = (routes : RouteMaps) → IfOk result (λ told. told.1.items ≡ counted (bytes_with routes) j)

-- what is told so far, and what these outcomes will tell, is what all outcomes tell
pub record IsTold (told : Told) (left all : List Outcome) : Type 0 where
  pub named : told.named.items ++ filter_map named_in left ≡ filter_map named_in all
  pub reversed : (a : Auth) → (has_auth told.reversed.keys a || list_any (outcome_reverses a) left) ≡ list_any (outcome_reverses a) all

-- a journal that is told entry by entry: the number of the next one, those that are left, all of them, and what was told last
pub record Telling : Type 0 where
  pub number : ℕ
  pub left : List Kept
  pub entries : List Kept
  pub entry : Listed

-- none of these entries is told
pub record Begins (entries : List Kept) (t : Telling) : Type 0 where
  pub number : t.number ≡ 1
  pub left : t.left ≡ entries
  pub all : t.entries ≡ entries

-- the next entry is told, or there is none
abbrev pub TellsNext : Telling → Telling → Bool → Type 0
TellsNext old new true = (listed_from old.number old.left ≡ new.entry ∷ listed_from new.number new.left) × (length old.left ≡ length new.left + 1)
TellsNext old new false = (old.left ≡ []) × (new.left ≡ [])

-- the payments are those that the rule counts of a journal with these entries
abbrev pub CountsIn : {E : Type 0} → List Kept → Result (Vec Counted) E → Type 0
CountsIn entries result = (routes : RouteMaps) (j : JournalAtRest) → j.entries ≡ entries → IfOk result (λ paid. paid.items ≡ counted (bytes_with routes) j)
