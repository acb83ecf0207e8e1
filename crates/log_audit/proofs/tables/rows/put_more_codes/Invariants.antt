use Rattle.std.proofs.Common.{◌≡◌, ◌∷◌, ◌++◌, drop}
use Rattle.std.specs.List.{flat_map}
use Rattle.claim_profile.specs.Reject.{code_text}
use Rattle.log_audit.proofs.tables.rows.put_more_codes.Given as goal

-- the text so far, and then that of the codes that are left
abbrev pub invariant-loop-code : goal.invariant-loop-code
invariant-loop-code l = l.text.items ++ flat_map (λ code. 32 ∷ code_text code) (drop l.code-index l.rejects) ≡ l.initial.text.items ++ flat_map (λ code. 32 ∷ code_text code) l.rejects
