use Rattle.std.proofs.Common.{◌≡◌, ◌∷◌, ◌++◌, drop}
use Rattle.std.specs.List.{flat_map}
use Rattle.claim_profile.specs.Reject.{code_text}
use Rattle.world_report.proofs.rulings.put_more_codes.Given as goal

-- the codes so far, and then those that are left
abbrev pub invariant-loop-code : goal.invariant-loop-code
invariant-loop-code l =
    l.out.items ++ flat_map (λ code. 44 ∷ code_text code) (drop l.code-index l.codes) ≡ l.initial.out.items ++ flat_map (λ code. 44 ∷ code_text code) l.codes
