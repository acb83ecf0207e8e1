-- A book's own answer has no separator in its parts.
use Rattle.std.proofs.Common.{◌≡◌, ℕ, true, List, [], ◌∷◌, map, codes, refl, IsTrue}
use Rattle.std.specs.List.{AllByRecursion}
use Rattle.d0_header.specs.Field.{is_plain as is_plain_byte}
use Rattle.d0_segments.specs.Separators.{is_plain}
use Rattle.d0_segments.specs.Parts.{are_fields, is_segment, is_group, are_groups}
use Rattle.claim_profile.specs.declared.reject.Code.{Code}
use Rattle.claim_profile.specs.declared.ruling.Ruling.{Ruling}
use Rattle.claim_profile.specs.declared.ruling.Ruling.TheVariants.{Paid, Duplicate, Reversed, Rejected}
use Rattle.claim_profile.specs.declared.ruling.HeaderStatus.{HeaderStatus}
use Rattle.claim_profile.specs.declared.ruling.HeaderStatus.TheVariants as header
use Rattle.claim_profile.specs.Authorization.{Authorization}
use Rattle.claim_profile.specs.Money.{Money}
use Rattle.claim_profile.specs.Ruling.{IsCode}
use Rattle.claim_profile.specs.Answer.{status_byte_of, status_segment, claim_segment, pricing_segment, code_field, reject_segment, ruling_segments, ruling_groups}
use Rattle.claim_profile.specs.Answering.{IsConstructible}
use Rattle.claim_profile.proofs.PlainTexts.{number_plain, amount_plain, authorization_plain}
use Rattle.claim_profile.proofs.CodeLemmas.{code_parts}

status_framed : (status : List ℕ) (auth : Authorization) → is_plain status ≡ true → is_segment (status_segment status auth) ≡ true
unfolding status_segment
status_framed status auth plain = rw (plain, authorization_plain auth) refl

claim_framed : (prescription : ℕ) → is_segment (claim_segment prescription) ≡ true
unfolding claim_segment
claim_framed prescription = rw (number_plain prescription) refl

pricing_framed : (m : Money) → is_segment (pricing_segment m) ≡ true
unfolding pricing_segment
pricing_framed m = rw (amount_plain m.copay, amount_plain m.cost, amount_plain m.fee, amount_plain m.total) refl

codes_framed : (rejects : List Code) → AllByRecursion IsCode rejects → are_fields (map code_field rejects) ≡ true
codes_framed [] are = refl
codes_framed (code ∷ rejects) are = rw ((code_parts code are.0).plain, codes_framed rejects are.1) refl

rejects_framed : (rejects : List Code) → AllByRecursion IsCode rejects → is_segment (reject_segment rejects) ≡ true
unfolding reject_segment
rejects_framed rejects are = rw (number_plain (Rattle.std.proofs.Common.length rejects), codes_framed rejects are) refl

group_framed : (r : Ruling) → IsConstructible r → is_group (ruling_segments r) ≡ true
group_framed (Paid auth prescription m) made = rw (status_framed (codes "P") auth refl, claim_framed prescription, pricing_framed m) refl
group_framed (Duplicate auth prescription m) made = rw (status_framed (codes "D") auth refl, claim_framed prescription, pricing_framed m) refl
group_framed (Reversed auth prescription) made = rw (status_framed (codes "A") auth refl, claim_framed prescription) refl
group_framed (Rejected rejects) made = rw (rejects_framed rejects made.2) refl

pub groups_framed : (rulings : List Ruling) → AllByRecursion IsConstructible rulings → are_groups (ruling_groups rulings) ≡ true
groups_framed [] made = refl
groups_framed (r ∷ rulings) made = rw (group_framed r made.0, groups_framed rulings made.1) refl

pub plain_status : (s : HeaderStatus) → IsTrue (is_plain_byte (status_byte_of s))
plain_status header.Accepted = refl
plain_status header.Rejected = refl
