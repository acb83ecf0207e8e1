-- The rulings of some books in a table, of those of more books.
use Rattle.std.proofs.Common.{◌≡◌, ℕ, Bool, true, false, cond, List, [], ◌∷◌, ◌++◌, refl, sym, ap, ◌∙◌, inl, inr, true≢false}
use Rattle.std.specs.Prelude.{Option, Some, None, filter, if◌then◌else◌, option_map}
use Rattle.std.specs.Option.{option_and_then}
use Rattle.std.proofs.lemmas.Bool.{cases_Bool}
use Rattle.claim_reports.specs.declared.books.Span.{Span}
use Rattle.claim_reports.specs.declared.daily.DailyColumns.{DailyColumns}
use Rattle.claim_reports.specs.declared.daily.DailyRemittance.{DailyRemittance}
use Rattle.claim_reports.specs.declared.daily.DailyRuling.{DailyRuling}
use Rattle.claim_reports.specs.declared.ledger.Move.{Move}
use Rattle.claim_reports.specs.BookLaws.{remitted_of, rulings_of}
use Rattle.claim_reports.specs.Daily.{daily_in, if_moved, of_book_in, values_of}
use Rattle.claim_reports.specs.Rulings.{move_to}
use Rattle.claim_reports.specs.Shelves.{has}
use Rattle.claim_reports.specs.Statement.{numbers_of}
use Rattle.claim_reports.specs.Tables.{given, given_by, number_in, ◌>>=◌}
use Rattle.claim_reports.proofs.Readings.{some_is}

-- what a row gives is of the book that the row says
abbrev IsBook : ℕ → Option DailyRuling → Type 0
IsBook payer None = payer ≡ payer
IsBook payer (Some r) = r.payer ≡ payer

-- where the value of a step is there, that of the one before it was
split_then : {A B : Type 0} (o : Option A) (f : A → Option B) (y : B) → (o >>= f) ≡ Some y → (x : A) × (o ≡ Some x) × (f x ≡ Some y)
split_then None f y e = absurd (cc e)
split_then (Some x) f y e = (x, refl, e)

same_payer : (x y : DailyRuling) → let o : Option DailyRuling = Some x in o ≡ Some y → y.payer ≡ x.payer
same_payer x y e = ap (λ (r : DailyRuling). r.payer) (sym (some_is x y e))

values_book : (c : DailyColumns) (payer : ℕ) (m : Move) (row : List (List ℕ)) (r : DailyRuling) → values_of c payer m row ≡ Some r → r.payer ≡ payer
values_book c payer m row r e =
    let a = split_then (number_in c.ruled_on.place row) _ r e in
    let b = split_then (numbers_of c.rulings row) _ r a.2 in
    let d = split_then (number_in c.rulings.day.place row) _ r b.2 in
    same_payer _ r d.2

moved_book : (c : DailyColumns) (payer : ℕ) (row : List (List ℕ)) (m : Option Move) (one : Option DailyRuling) → if_moved c payer row m ≡ Some one → IsBook payer one
moved_book c payer row m None e = refl
moved_book c payer row None (Some r) e = absurd (cc e)
moved_book c payer row (Some m) (Some r) e = values_book c payer m row r (inner (values_of c payer m row) r e)
  where
    inner : (o : Option DailyRuling) (r : DailyRuling) → option_map Some o ≡ Some (Some r) → o ≡ Some r
    inner None r e = absurd (cc e)
    inner (Some x) r e = cc e

book_of : (c : DailyColumns) (asked : DailyRemittance) (payer : ℕ) (row : List (List ℕ)) (one : Option DailyRuling) → of_book_in c asked payer row ≡ Some one → IsBook payer one
book_of c asked payer row one e =
    let a = split_then (move_to c.rulings asked.pharmacy row) (if_moved c payer row) one e in
    moved_book c payer row a.0 one a.2

-- what is kept of it for these books
abbrev kept : List Span → Option DailyRuling → Option DailyRuling
kept these None = None
kept these (Some r) = cond (has these r.payer) (Some r) None

by_book : (these : List Span) (payer : ℕ) (t : Bool) → has these payer ≡ t → (one : Option DailyRuling) → IsBook payer one → kept these one ≡ cond t one None
by_book these payer true of None is = refl
by_book these payer false of None is = refl
by_book these payer t of (Some r) is = ap (λ (b : Bool). cond b (Some r) None) (ap (has these) is ∙ of)

at_payer : (c : DailyColumns) (asked : DailyRemittance) (all these : List Span) (payer : ℕ) (row : List (List ℕ)) (one : Option DailyRuling) (b t : Bool)
    → (has these payer ≡ true → has all payer ≡ true) → has all payer ≡ b → has these payer ≡ t
    → (if b then of_book_in c asked payer row else Some None) ≡ Some one → (if t then of_book_in c asked payer row else Some None) ≡ Some (kept these one)
at_payer c asked all these payer row one true true within of too e = e ∙ ap Some (sym (by_book these payer true too one (book_of c asked payer row one e)))
at_payer c asked all these payer row one true false within of too e = ap Some (sym (by_book these payer false too one (book_of c asked payer row one e)))
at_payer c asked all these payer row one false true within of too e = absurd (true≢false (sym (within too) ∙ of))
at_payer c asked all these payer row one false false within of too e = ap (λ (o : Option DailyRuling). Some (kept these o)) (none_is one e)
  where
    none_is : (one : Option DailyRuling) → let o : Option (Option DailyRuling) = Some None in o ≡ Some one → None ≡ one
    none_is None e = refl
    none_is (Some r) e = absurd (cc e)

row_members : (c : DailyColumns) (asked : DailyRemittance) (all these : List Span) (row : List (List ℕ)) (one : Option DailyRuling) → ((number : ℕ) → has these number ≡ true → has all number ≡ true)
    → daily_in c (remitted_of asked all) row ≡ Some one → daily_in c (remitted_of asked these) row ≡ Some (kept these one)
unfolding daily_in
row_members c asked all these row one within e =
    let a = split_then (number_in c.rulings.payer.place row) _ one e in
    rw a.1 (at_payer c asked all these a.0 row one (has all a.0) (has these a.0) (within a.0) refl refl a.2)

given_kept : (these : List Span) (one : Option DailyRuling) (others : List DailyRuling) → given (kept these one) ++ rulings_of these others ≡ rulings_of these (given one ++ others)
given_kept these None others = refl
given_kept these (Some r) others = elim (cases_Bool (has these r.payer)) [
  | inl is ↦ rw is refl
  | inr not ↦ rw not refl
]

pub members_ruled : (c : DailyColumns) (asked : DailyRemittance) (all these : List Span) (rows : List (List (List ℕ))) (rulings : List DailyRuling)
    → ((number : ℕ) → has these number ≡ true → has all number ≡ true) → given_by (daily_in c (remitted_of asked all)) rows ≡ Some rulings
    → given_by (daily_in c (remitted_of asked these)) rows ≡ Some (rulings_of these rulings)
members_ruled c asked all these [] rulings within e = ap (λ o. option_map (rulings_of these) o) e
members_ruled c asked all these (row ∷ rows) rulings within e =
    let a = split_then (daily_in c (remitted_of asked all) row) _ rulings e in
    let b = split_then (given_by (daily_in c (remitted_of asked all)) rows) _ rulings a.2 in
    let first = row_members c asked all these row a.0 within a.1 in
    let more = members_ruled c asked all these rows b.0 within b.1 in
    rw (first, more) (ap Some (given_kept these a.0 b.0) ∙ ap (λ o. option_map (rulings_of these) o) b.2)
