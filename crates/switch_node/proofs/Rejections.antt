-- How long the fixed rejection is.
use Rattle.std.proofs.Common.{◌≡◌, ℕ, zero, suc, ◌*◌, ◌≤◌, List, [], ◌∷◌, length, take, replicate, arith, length-append, refl, ◌∙◌}
use Rattle.std.proofs.lemmas.List.{take-replicate}
use Rattle.d0_header.specs.Request.{Request}
use Rattle.d0_header.specs.Response.{response_text, answer_to}
use Rattle.d0_segments.specs.Texts.{group_text, groups_text}
use Rattle.overpunch.specs.Number.{number_text}
use Rattle.claim_profile.specs.declared.reject.Code.{Code}
use Rattle.claim_profile.specs.declared.reject.Code.TheVariants.{Bin}
use Rattle.claim_profile.specs.declared.ruling.Ruling.{Ruling}
use Rattle.claim_profile.specs.declared.ruling.Ruling.TheVariants.{Rejected}
use Rattle.claim_profile.specs.declared.ruling.HeaderStatus.TheVariants.{Rejected as RejectedStatus}
use Rattle.claim_profile.specs.Answer.{answer_text, ruling_segments, ruling_groups, reject_segment}

abbrev pub rejected : Ruling
rejected = Rejected (Bin ∷ [])

-- the group of one transaction
length-group : length (group_text (ruling_segments rejected)) ≡ 20
unfolding reject_segment number_text
length-group = refl

length-groups : (n : ℕ) → length (groups_text (ruling_groups (replicate n rejected))) ≡ 20 * n
length-groups zero = refl
length-groups (suc n) = omega (arith, length-append (group_text (ruling_segments rejected)) (groups_text (ruling_groups (replicate n rejected))), length-group, length-groups n)

pub length-rejection : (h : Request) (n : ℕ) → length (response_text (answer_to h 82)) ≡ 31 → n ≤ 4 → length (answer_text h RejectedStatus (replicate n rejected)) ≤ 32768
unfolding answer_text
length-rejection h n head few = omega (arith, length-append (response_text (answer_to h 82)) (groups_text (ruling_groups (replicate n rejected))), length-groups n)

-- this many of four equal rulings
pub four-rejected : (rejects : List Code) (n m : ℕ) → rejects ≡ Bin ∷ [] → n ≡ m → m ≤ 4 → take n (Rejected rejects ∷ Rejected rejects ∷ Rejected rejects ∷ Rejected rejects ∷ []) ≡ replicate m rejected
four-rejected rejects n m one same few = (λ j. take (same j) (replicate 4 (Rejected (one j)))) ∙ take-replicate m 4 rejected few
