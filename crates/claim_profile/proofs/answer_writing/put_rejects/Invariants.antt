use Rattle.std.proofs.Common.{◌≡◌, ◌+◌, [], ◌∷◌, ◌++◌, length, map, take}
use Rattle.d0_segments.specs.Texts.{fields_text}
use Rattle.claim_profile.specs.Answer.{code_field}
use Rattle.claim_profile.proofs.answer_writing.put_rejects.Given as goal

abbrev pub invariant-loop-code : goal.invariant-loop-code
invariant-loop-code l =
    l.text.items ≡ ((l.fn.text.items ++ (29 ∷ 30 ∷ 28 ∷ 65 ∷ 77 ∷ 50 ∷ 49 ∷ 28 ∷ 65 ∷ 78 ∷ 82 ∷ 28 ∷ 70 ∷ 65 ∷ [])) ++ (48 + length l.codes) ∷ []) ++ fields_text (map code_field (take l.code-index l.codes))
