-- Findings of a request, one more.
use Rattle.std.proofs.Common.{◌≡◌, ℕ, ◌-◌, Bool, nat_lt, List, ◌∷◌, ap, ◌∙◌, subst}
use Rattle.d0_header.specs.Request.{Request}
use Rattle.d0_segments.specs.Parts.{TransmissionParts}
use Rattle.message_words.specs.declared.finding_page.FindingPage.{FindingPage}
use Rattle.message_parts.specs.Findings.{FindingSeen}
use Rattle.message_words.specs.RequestWords.{finding_said, findings_said, left_to_tell, transaction_of}
use Rattle.message_words.specs.Sayings.{Finds, Said}
use Rattle.message_words.proofs.Sayings.{both_said}

pub finding_more : (t : TransmissionParts Request) (f : FindingSeen) (fs : List FindingSeen) (last left transaction here : ℕ) (told : Bool) (a b n : FindingPage) → transaction ≡ transaction_of f
    → here ≡ left_to_tell last transaction left → told ≡ nat_lt 0 here → Finds (finding_said t f told) a b → Finds (findings_said t transaction (here - 1) fs) b n
    → Finds (findings_said t last left (f ∷ fs)) a n
finding_more t f fs last left transaction here told a b n of_it still if_told p q =
    let now : here ≡ left_to_tell last (transaction_of f) left = still ∙ ap (λ x. left_to_tell last x left) of_it in
    both_said (finding_said t f (nat_lt 0 (left_to_tell last (transaction_of f) left))) (findings_said t (transaction_of f) (left_to_tell last (transaction_of f) left - 1) fs) a b n
    (subst (λ x. Finds (finding_said t f x) a b) (if_told ∙ ap (λ x. nat_lt 0 x) now) p) (subst (λ (xs : List Said). Finds xs b n) (λ i. findings_said t (of_it i) (now i - 1) fs) q)
