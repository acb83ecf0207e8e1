-- The law of the table of routes.
use Rattle.std.proofs.Common.{◌≡◌, ℕ, ◌≤◌, Option, Some, None, subst, arith}
use Rattle.std.specs.Prelude.{IfSome}
use Rattle.claim_model.proofs.Options.{same_some}
use Rattle.claim_model.proofs.bytes.routes_lead_to_payers.Goals as goal

at_some : (payers : ℕ) (o : Option ℕ) (payer : ℕ) → IfSome o (λ p. (1 ≤ p) × (p ≤ payers)) → o ≡ Some payer → (1 ≤ payer) × (payer ≤ payers)
at_some payers None payer h e = absurd cc
at_some payers (Some p) payer h e = subst (λ (x : ℕ). (1 ≤ x) × (x ≤ payers)) (same_some p payer e) h

pub returns : goal.returns
returns c = λ payers rows number key payer fault e.
    let p = at_some payers _ payer (c.range_laws.ensures.within payers rows key fault) (c.number_laws.ensures.led _ number key payer e) in (omega (arith, p.0), p.1)
