-- Which payments a pharmacy counts, by its journal alone.
use Rattle.std.specs.Prelude.{ℕ, ◌+◌, Bool, not, List, [], ◌∷◌, ◌++◌, Option, Some, None, Result, Ok, Err, filter, filter_map}
use Rattle.std.specs.List.{list_any}
use Rattle.claim_model.specs.Words.{TxnId, Auth, Amounts, Fill, Order, Bills, Reverses, Code, Ruling, Paid, Duplicate, Reversed, Rejected}
use Rattle.claim_model.specs.Context.{Context}
use Rattle.claim_model.specs.Readable.{rulings_in}
use Rattle.claim_model.specs.Ruled.{Ruled, ruled_groups}
use Rattle.claim_model.specs.Payments.{same_auth, reverses}
use Rattle.claim_model.specs.Journal.{Kept, JournalAtRest}

-- a payment as a pharmacy knows it
pub record Counted : Type 0 where
  pub auth : Auth
  pub fill : Fill
  pub amounts : Amounts

abbrev pub ruled_answer : Context → TxnId → List ℕ → Option (List ℕ) → List Ruled
ruled_answer ctx id request None = []
ruled_answer ctx id request (Some answer) = ruled_groups ctx id request (rulings_in (ctx.read_answer answer))

-- what a pharmacy was told from a number on, in order of numbers and then of places
abbrev pub ruled_entries : Context → ℕ → ℕ → List Kept → List Ruled
ruled_entries ctx pharmacy number [] = []
ruled_entries ctx pharmacy number (k ∷ more) =
    ruled_answer ctx (record { pharmacy = pharmacy; number = number }) k.request k.answer ++ ruled_entries ctx pharmacy (number + 1) more

-- all that a pharmacy was told
abbrev pub told : Context → JournalAtRest → List Ruled
told ctx j = ruled_entries ctx j.number 1 j.entries

abbrev pub named_by : Result Order (List Code) → Ruling → Option Counted
named_by (Ok (Bills c)) (Paid auth prescription amounts) = Some (record { auth = auth; fill = c.fill; amounts = amounts })
named_by (Ok (Bills c)) (Duplicate auth prescription amounts) = Some (record { auth = auth; fill = c.fill; amounts = amounts })
named_by (Ok (Bills c)) (Reversed auth prescription) = None
named_by (Ok (Bills c)) (Rejected codes) = None
named_by (Ok (Reverses v)) ruling = None
named_by (Err codes) ruling = None

-- the payment that an answer to a claim names, by Paid or by Duplicate
abbrev pub named : Ruled → Option Counted
named r = named_by r.order r.ruling

-- the first of each authorization
abbrev pub firsts : List Counted → List Counted
firsts [] = []
firsts (c ∷ more) = c ∷ filter (λ d. not (same_auth d.auth c.auth)) (firsts more)

abbrev pub is_reversed : List Ruled → Counted → Bool
is_reversed rs c = list_any (reverses c.auth) rs

-- the payments that were named, each as it was named first, without those that a Reversed answer names
abbrev pub counted_of : List Ruled → List Counted
counted_of rs = filter (λ c. not (is_reversed rs c)) (firsts (filter_map named rs))

-- the payments that a pharmacy counts
unfoldable pub counted : Context → JournalAtRest → List Counted
counted ctx j = counted_of (told ctx j)
