-- What answers carry where there is nothing to carry.
use Rattle.std.proofs.Common.{◌≡◌, ℕ, ◌==◌, Bool, true, false, not, cond, List, [], ◌∷◌, length, refl, ap, ◌∙◌, arith, eqb-true}
use Rattle.std.specs.Prelude.{bytes_eq}
use Rattle.std.proofs.lemmas.Bool.{cond-true}
use Rattle.d0_header.specs.Request.{Request}
use Rattle.claim_profile.specs.declared.ruling.Ruling.{Ruling}
use Rattle.claim_profile.specs.declared.ruling.HeaderStatus.{HeaderStatus}
use Rattle.claim_profile.specs.Answer.{answer_text}
use Rattle.claim_model.proofs.Tests.{bytes_self}
use Rattle.carried_fields.specs.Carrying.{carrying_text, kept_text}
use Rattle.payer_book.specs.Kept.{carried_of}

abbrev pub IsPlain : Type 0
IsPlain = (h : Request) (status : HeaderStatus) (rulings : List Ruling) → carrying_text h status rulings [] ≡ answer_text h status rulings

-- of no text nothing is kept
pub kept_nothing : IsPlain → (h : Request) (status : HeaderStatus) (rulings : List Ruling) → kept_text h status rulings [] ≡ []
unfolding kept_text
kept_nothing plain h status rulings =
    cond-true (bytes_eq (carrying_text h status rulings []) (answer_text h status rulings)) [] (carrying_text h status rulings [])
    (ap (λ (t : List ℕ). bytes_eq t (answer_text h status rulings)) (plain h status rulings) ∙ bytes_self (answer_text h status rulings))

-- so nothing is kept where answers carry nothing
pub kept_where : IsPlain → (h : Request) (status : HeaderStatus) (rulings : List Ruling) (said : List ℕ) (t : Bool) → kept_text h status rulings (cond t said []) ≡ cond t (kept_text h status rulings said) []
kept_where plain h status rulings said true = refl
kept_where plain h status rulings said false = kept_nothing plain h status rulings

-- what is kept is the answer itself, where it is another than the plain one
pub kept_other : (h : Request) (status : HeaderStatus) (rulings : List Ruling) (said carried : List ℕ) (t : Bool) → carried ≡ carrying_text h status rulings said → t ≡ not (bytes_eq carried (answer_text h status rulings))
    → carried_of t carried ≡ kept_text h status rulings said
unfolding kept_text
kept_other h status rulings said carried t is e =
    ap (λ (b : Bool). carried_of b carried) e
    ∙ (by_test (bytes_eq carried (answer_text h status rulings))
    ∙ ap (λ (x : List ℕ). cond (bytes_eq x (answer_text h status rulings)) [] x) is)
  where
    by_test : (b : Bool) → carried_of (not b) carried ≡ cond b [] carried
    by_test true = refl
    by_test false = refl

pub no_bytes : (bytes : List ℕ) → (length bytes == 0) ≡ true → bytes ≡ []
no_bytes [] e = refl
no_bytes (b ∷ bytes) e = absurd (omega (arith, eqb-true (length (b ∷ bytes)) 0 e))
