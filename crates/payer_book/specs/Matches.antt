-- Whether a reversal is for no standing payment, for one, or for several.
use Rattle.std.specs.Prelude.{ℕ, Bool, not, ◌&&◌, nat_le, nat_lt, cond, if◌then◌else◌, List, [], ◌∷◌, filter, Option, Some, None}
use Rattle.claim_model.specs.Words.{Auth, Fill, Reversal}
use Rattle.payer_book.specs.declared.book.payment.Standing.{Standing}
use Rattle.payer_book.specs.declared.ruling.changes.Change.{Change}
use Rattle.payer_book.specs.declared.ruling.matches.Matches.{Matches}
use Rattle.payer_book.specs.declared.ruling.matches.Matches.TheVariants.{Nothing, One, Several}
use Rattle.payer_book.specs.Ledger.{Ledger, standing_in, standing_of, is_for_payment}
use Rattle.payer_book.specs.Changes.{is_reversed}

-- how many payments there are, as far as it matters, and the authorization of the only one
abbrev pub tally : List Standing → Matches
tally [] = Nothing
tally (s ∷ []) = One s.auth
tally (s ∷ t ∷ more) = Several

-- one payment more, of this authorization
abbrev pub with_one : Matches → Auth → Matches
with_one Nothing auth = One auth
with_one (One other) auth = Several
with_one Several auth = Several

-- the tally with this payment, where the reversal is for it
abbrev pub with_own : Reversal → Standing → Matches → Matches
with_own v s matches = if is_for_payment v s then with_one matches s.auth else matches

-- the payments of two tallies together
abbrev pub together : Matches → Matches → Matches
together Nothing b = b
together (One auth) b = with_one b auth
together Several b = Several

-- the authorization of the payment, where there is exactly one
abbrev pub only_of : Matches → Option Auth
only_of Nothing = None
only_of (One auth) = Some auth
only_of Several = None

-- the fill of a reversal with this number
abbrev pub fill_for : Reversal → ℕ → Fill
fill_for v number = record { bin = v.bin; pcn = v.pcn; qualifier = v.qualifier; provider = v.provider; prescription = v.prescription; fill = number }

-- the reversal is for this payment, which none of the changes reverses
abbrev pub is_match : Reversal → List Change → Standing → Bool
is_match v changes s = is_for_payment v s && not (is_reversed s.auth changes)

-- the tally with this payment, where the reversal is for it
abbrev pub matched : Reversal → List Change → Option Standing → Matches → Matches
matched v changes None matches = matches
matched v changes (Some s) matches = cond (is_match v changes s) (with_one matches s.auth) matches

-- the tally with the standing payment of this fill number, where the reversal is for it
abbrev pub matched_number : Ledger → Reversal → List Change → ℕ → Matches → Matches
matched_number l v changes number matches = matched v changes (standing_of (fill_for v number) (standing_in l.payments)) matches

-- a fill number from one number to below another
abbrev pub is_between : ℕ → ℕ → Standing → Bool
is_between first end s = nat_le first s.claim.fill.fill && nat_lt s.claim.fill.fill end

-- the payments with such a number that the reversal is for
abbrev pub matches_between : Reversal → List Change → ℕ → ℕ → List Standing → List Standing
matches_between v changes first end standing = filter (λ s. is_match v changes s && is_between first end s) standing

-- their tally
abbrev pub tally_between : Ledger → Reversal → List Change → ℕ → ℕ → Matches
tally_between l v changes first end = tally (matches_between v changes first end (standing_in l.payments))
