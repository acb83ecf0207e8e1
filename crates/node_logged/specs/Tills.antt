-- Tills: what one caller submitted at one pharmacy, and what it heard of it.
use Rattle.std.specs.Prelude.{ℕ, Bool, ◌==◌, List, [], ◌∷◌, ◌++◌, Option, Some, None}
use Rattle.std.specs.List.{list_any}
use Rattle.std.specs.Map.{lookup}

-- the number that a pharmacy gave a request, and the request
pub record Receipt : Type 0 where
  pub number : ℕ
  pub request : List ℕ

-- a caller's receipts at a pharmacy in the order of its submissions, and the answers that it heard, each with its number
pub record Till : Type 0 where
  pub pharmacy : ℕ
  pub receipts : List Receipt
  pub heard : List (ℕ × List ℕ)

-- whether there is a receipt with this number
abbrev pub has_receipt : ℕ → Till → Bool
has_receipt number till = list_any (λ r. r.number == number) till.receipts

-- the answer that was heard for a number
abbrev pub answer_heard : ℕ → Till → Option (List ℕ)
answer_heard number till = lookup (λ n. number == n) till.heard

-- the till with one receipt more
abbrev pub with_receipt : ℕ → List ℕ → Till → Till
with_receipt number request till = record till { receipts = till.receipts ++ record { number = number; request = request } ∷ [] }

-- what was heard, and this answer where none was heard for the number yet
abbrev pub heard_also : ℕ → List ℕ → Option (List ℕ) → List (ℕ × List ℕ) → List (ℕ × List ℕ)
heard_also number answer None heard = heard ++ (number, answer) ∷ []
heard_also number answer (Some before) heard = heard

-- the till after an answer was heard; what was heard first for a number stays
abbrev pub with_answer : ℕ → List ℕ → Till → Till
with_answer number answer till = record till { heard = heard_also number answer (answer_heard number till) till.heard }
