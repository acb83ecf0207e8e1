-- An advice has a ruling for each of its groups.
use Rattle.std.proofs.Common.{◌≡◌, ℕ, suc, true, eqb, List, [], ◌∷◌, length, Some, None, Result, Ok, Err, refl, sym, ap, ◌∙◌}
use Rattle.std.specs.Result.{result_ok}
use Rattle.std.proofs.lemmas.Bool.{eqb-true}
use Rattle.d0_header.specs.Response.{Response}
use Rattle.d0_segments.specs.declared.fault.FramingFault.{FramingFault}
use Rattle.d0_segments.specs.Parts.{SegmentParts, TransmissionParts}
use Rattle.d0_segments.specs.Framing.{response_kind, framing_fault, transmission_of}
use Rattle.d0_segments.proofs.Walking.{both}
use Rattle.claim_profile.specs.declared.ruling.Ruling.{Ruling}
use Rattle.claim_profile.specs.declared.answer_reading.AnswerFault.{AnswerFault}
use Rattle.claim_profile.specs.Ruling.{◌>>=◌, AnswerParts, ruling_in, rulings_in, answer_with, said_by, advice_of}
use Rattle.carried_fields.specs.Carrying.{have_groups}

one_more : (r : Result Ruling AnswerFault) (others : Result (List Ruling) AnswerFault) (n : ℕ) (rs : List Ruling) → ((xs : List Ruling) → others ≡ Ok xs → length xs ≡ n)
    → (r >>= λ first. others >>= λ later. Ok (first ∷ later)) ≡ Ok rs → length rs ≡ suc n
one_more (Err e) others n rs counted is = absurd cc
one_more (Ok r) (Err e) n rs counted is = absurd cc
one_more (Ok r) (Ok xs) n rs counted is =
    let same : r ∷ xs ≡ rs = cc in
    ap (λ (ys : List Ruling). length ys) (sym same) ∙ ap suc (counted xs refl)

rulings_counted : (by : _) (h : Response) (groups : List (List SegmentParts)) (rs : List Ruling) → rulings_in by h groups ≡ Ok rs → length rs ≡ length groups
unfolding rulings_in
rulings_counted by h [] rs is = let same : [] ≡ rs = cc in ap (λ (ys : List Ruling). length ys) (sym same)
rulings_counted by h (g ∷ groups) rs is = one_more (ruling_in by h g) (rulings_in by h groups) (length groups) rs (rulings_counted by h groups) is

answer_counted : (h : Response) (n : ℕ) (read : Result (List Ruling) AnswerFault) (a : AnswerParts) → ((rs : List Ruling) → read ≡ Ok rs → length rs ≡ n)
    → (read >>= λ rs. Ok (let x : AnswerParts = record { header = h; rulings = rs } in x)) ≡ Ok a → length a.rulings ≡ n
answer_counted h n (Err e) a counted is = absurd cc
answer_counted h n (Ok rs) a counted is =
    let same : (let x : AnswerParts = record { header = h; rulings = rs } in x) ≡ a = cc in
    ap (λ (x : AnswerParts). length x.rulings) (sym same) ∙ counted rs refl

said_counted : (by : _) (bytes : List ℕ) (t : TransmissionParts Response) (a : AnswerParts) → transmission_of response_kind bytes ≡ Some t → said_by by bytes ≡ Ok a → length a.rulings ≡ length t.groups
unfolding said_by
said_counted by bytes t a parts is =
    answer_counted t.header (length t.groups) (rulings_in by t.header t.groups) a (rulings_counted by t.header t.groups) (sym (ap (answer_with by) parts) ∙ is)

pub advice_counted : (bytes : List ℕ) (t : TransmissionParts Response) (a : AnswerParts) → transmission_of response_kind bytes ≡ Some t → advice_of bytes ≡ Ok a → length a.rulings ≡ length t.groups
advice_counted bytes t a parts is = said_counted _ bytes t a parts is

-- an advice that is there
pub advice_there : (r : Result AnswerParts AnswerFault) (a : AnswerParts) → Some a ≡ result_ok r → r ≡ Ok a
advice_there (Ok x) a e = cc
advice_there (Err fault) a e = absurd cc

-- bytes that are not framed
pub no_parts : (bytes : List ℕ) (fault : FramingFault) → Some fault ≡ framing_fault response_kind bytes → transmission_of response_kind bytes ≡ None
unfolding transmission_of
no_parts bytes fault e = rw (← e) refl

-- an answer and an advice that have a group for each ruling
pub groups_of_rulings : (rulings : List Ruling) (own said : TransmissionParts Response) → have_groups rulings own said ≡ true → (length own.groups ≡ length rulings) × (length said.groups ≡ length rulings)
groups_of_rulings rulings own said e =
    let h = both (eqb (length own.groups) (length rulings)) (eqb (length said.groups) (length rulings)) e in
    (eqb-true (length own.groups) (length rulings) h.0, eqb-true (length said.groups) (length rulings) h.1)
