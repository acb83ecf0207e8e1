-- The cap of a payer, of settings as the code has them and as the model sees them.
use Rattle.std.specs.Prelude.{◌≡◌, refl, ℕ, List, map, Option, Some, None}
use Rattle.std.specs.Option.{option_map}
use Rattle.std.proofs.Common.{ap, ◌∙◌}
use Rattle.claim_model.specs.Numbered.{numbered}
use Rattle.claim_model.specs.Settings as model
use Rattle.claim_model.proofs.Lists.{numbered_map}
use Rattle.world_setup.specs.Seen.{payer_seen}
use Rattle.world_setup.specs.declared.settings.PayerSettings.{PayerSettings}
use Rattle.node_service.specs.Most.{cap_in}

cap_mapped : {A B : Type 0} (cap : B → ℕ) (f : A → B) (found : Option A) → cap_in cap (option_map f found) ≡ cap_in (λ a. cap (f a)) found
cap_mapped cap f None = refl
cap_mapped cap f (Some a) = refl

-- the cap is the same
pub rows_of_payer : (payers : List PayerSettings) (n : ℕ)
    → cap_in (λ (p : model.PayerSettings). p.book.cap) (numbered (map payer_seen payers) n) ≡ cap_in (λ (p : PayerSettings). p.book.cap) (numbered payers n)
rows_of_payer payers n =
    ap (cap_in (λ (p : model.PayerSettings). p.book.cap)) (numbered_map payer_seen payers n) ∙ cap_mapped (λ (p : model.PayerSettings). p.book.cap) payer_seen (numbered payers n)
