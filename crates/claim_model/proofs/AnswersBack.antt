-- Written answers are short and read back, told in the words of the model.
use Rattle.std.proofs.Common.{◌≡◌, ℕ, ◌≤◌, cond, List, [], ◌∷◌, length, Option, Some, Ok, refl, ap, sym, ◌∙◌, subst, arith}
use Rattle.std.specs.Prelude.{bytes_eq}
use Rattle.std.specs.List.{AllByRecursion}
use Rattle.bin_routes.specs.Table.{RouteMaps}
use Rattle.claim_profile.specs.Answer.{answer_text as written_text, StandsBeside}
use Rattle.carried_fields.specs.Carrying.{carrying_text, kept_text}
use Rattle.claim_profile.specs.Ruling.{answer_of}
use Rattle.claim_profile.specs.Readable.{readable_header, longest_request}
use Rattle.claim_profile.specs.Answering.{IsConstructible, Answers, answered, IsCarried}
use Rattle.claim_model.specs.Words.{Ruling, Paid, Duplicate, Reversed, Rejected, RequestHeader, Status, AcceptedStatus, RejectedStatus}
use Rattle.claim_model.specs.Laws.{IsRuling, GoesWith, AnswersReadBack, CarriedBack}
use Rattle.claim_model.specs.Bytes.{answer_in, kept_under, bytes_with}
use Rattle.claim_model.proofs.BytesLaws.{readable_alike}

abbrev pub AnswersAreShort : Type 0
AnswersAreShort = (h : RequestHeader) (status : Status) (rulings : List Ruling) (said : List ℕ) → Answers h status rulings → length (carrying_text h status rulings said) ≤ longest_request

abbrev pub AnswersAreRead : Type 0
AnswersAreRead = (h : RequestHeader) (status : Status) (rulings : List Ruling) (said : List ℕ) → Answers h status rulings → answer_of (carrying_text h status rulings said) ≡ Ok (answered h status rulings)

abbrev pub ReadableIsCarried : Type 0
ReadableIsCarried = (text : List ℕ) (h : RequestHeader) → readable_header text ≡ Some h → IsCarried h

-- a ruling that the model writes is one that the profile's constructors make
made : (r : Ruling) → IsRuling r → IsConstructible r
made (Paid auth prescription m) is =
    ((omega (arith, is.0.payer), is.0.payer_fits, omega (arith, is.0.serial), is.0.serial_fits), is.1, record { cost = is.2.cost; fee = is.2.fee; copay = is.2.copay; total = is.2.total })
made (Duplicate auth prescription m) is =
    ((omega (arith, is.0.payer), is.0.payer_fits, omega (arith, is.0.serial), is.0.serial_fits), is.1, record { cost = is.2.cost; fee = is.2.fee; copay = is.2.copay; total = is.2.total })
made (Reversed auth prescription) is = ((omega (arith, is.0.payer), is.0.payer_fits, omega (arith, is.0.serial), is.0.serial_fits), is.1)
made (Rejected rejects) is = (omega (arith, is.some), is.few, is.each)

all_made : (rulings : List Ruling) → AllByRecursion IsRuling rulings → AllByRecursion IsConstructible rulings
all_made [] all = tt
all_made (r ∷ rulings) all = (made r all.0, all_made rulings all.1)

-- under status R stand rejections alone
all_beside : (status : Status) (rulings : List Ruling) → GoesWith status rulings → AllByRecursion (StandsBeside status) rulings
all_beside AcceptedStatus [] goes = tt
all_beside AcceptedStatus (r ∷ rulings) goes = (tt, all_beside AcceptedStatus rulings tt)
all_beside RejectedStatus [] goes = tt
all_beside RejectedStatus (Paid auth prescription m ∷ rulings) goes = absurd goes.0
all_beside RejectedStatus (Duplicate auth prescription m ∷ rulings) goes = absurd goes.0
all_beside RejectedStatus (Reversed auth prescription ∷ rulings) goes = absurd goes.0
all_beside RejectedStatus (Rejected rejects ∷ rulings) goes = (tt, all_beside RejectedStatus rulings goes.1)

pub answers_back : AnswersAreShort → AnswersAreRead → ReadableIsCarried → (routes : RouteMaps) → AnswersReadBack (bytes_with routes)
answers_back short reads carried routes text h status rulings more readable_as count is goes =
    let carries : IsCarried h = carried text h (sym (readable_alike routes text) ∙ readable_as) in
    let answers : Answers h status rulings = record { header = carries.sound; count = count; made = all_made rulings is; beside = all_beside status rulings goes } in
    let parts = answered h status rulings in
    record {
      short = short h status rulings more answers;
      answer = record { header = parts.header; rulings = parts.rulings };
      reads = ap answer_in (reads h status rulings more answers);
      rulings_are = refl;
      code = refl;
      count = refl;
    }

-- ---- what an answer carries is kept of it again

abbrev pub CarriesAgain : Type 0
CarriesAgain = (h : RequestHeader) (status : Status) (rulings : List Ruling) (said : List ℕ) → Answers h status rulings
    → carrying_text h status rulings (carrying_text h status rulings said) ≡ carrying_text h status rulings said

abbrev pub KeptCarries : Type 0
KeptCarries = (h : RequestHeader) (status : Status) (rulings : List Ruling) (said : List ℕ) → Answers h status rulings
    → carrying_text h status rulings (kept_text h status rulings said) ≡ carrying_text h status rulings said

kept_again : CarriesAgain → KeptCarries → (h : RequestHeader) (status : Status) (rulings : List Ruling) (said : List ℕ) → Answers h status rulings
    → kept_text h status rulings (carrying_text h status rulings (kept_text h status rulings said)) ≡ kept_text h status rulings said
unfolding kept_text
kept_again again kept h status rulings said answers =
    ap (λ (t : List ℕ). cond (bytes_eq t (written_text h status rulings)) [] t)
    (ap (carrying_text h status rulings) (kept h status rulings said answers) ∙ again h status rulings said answers)

pub carried_back : CarriesAgain → KeptCarries → ReadableIsCarried → (routes : RouteMaps) → CarriedBack (bytes_with routes)
carried_back again kept carried routes text h rulings said readable_as count is =
    let reads : readable_header text ≡ Some h = sym (readable_alike routes text) ∙ readable_as in
    let carries : IsCarried h = carried text h reads in
    let answers : Answers h AcceptedStatus rulings = record { header = carries.sound; count = count; made = all_made rulings is; beside = all_beside AcceptedStatus rulings tt } in
    record {
      same = subst (λ (o : Option RequestHeader). carrying_text h AcceptedStatus rulings (kept_under o rulings said) ≡ carrying_text h AcceptedStatus rulings said) (sym reads) (kept h AcceptedStatus rulings said answers);
      again = subst (λ (o : Option RequestHeader). kept_under o rulings (carrying_text h AcceptedStatus rulings (kept_under o rulings said)) ≡ kept_under o rulings said) (sym reads)
          (kept_again again kept h AcceptedStatus rulings said answers);
    }
