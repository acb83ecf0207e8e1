use Rattle.std.proofs.Common.{◌≡◌, ℕ, [], length}
use Rattle.std.specs.Prelude.{Some}
use Rattle.claim_reports.specs.Shelves.{parts, with_parts}
use Rattle.claim_reports.proofs.books.Books.read.Given as goal

-- what is left of the text, after the numbers so far, names what the whole text does
abbrev pub invariant-loop-place : goal.invariant-loop-place
invariant-loop-place l = with_parts (Some []) (parts l.fn.text) ≡ with_parts l.books (parts l.rest)

abbrev pub decreases-loop-place : goal.decreases-loop-place
decreases-loop-place l = length l.rest
