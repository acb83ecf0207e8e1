-- Caps of payers as a world has them, and as they were read.
use Rattle.std.proofs.Common.{◌≡◌, ℕ, Bool, true, false, ◌&&◌, List, [], ◌∷◌, map, refl, sym, ap, ◌∙◌}
use Rattle.std.specs.Prelude.{nat_le}
use Rattle.claim_model.specs.Settings.{PayerSettings as PayerSeen}
use Rattle.world_setup.specs.declared.settings.PayerSettings.{PayerSettings}
use Rattle.world_setup.specs.Seen.{payer_seen}
use Rattle.world_settings.specs.Limits.{caps_within}

pub mapped : (most : ℕ) (ps : List PayerSettings)
    → caps_within (λ (p : PayerSettings). p.book.cap) most ps ≡ caps_within (λ (p : PayerSeen). p.book.cap) most (map payer_seen ps)
mapped most [] = refl
mapped most (p ∷ ps) = ap (λ b. nat_le p.book.cap most && b) (mapped most ps)

-- the first two of three tests passed, and the third decides; or the second did not
pub third_decides : (journals tables books a b c : Bool) → journals ≡ a → tables ≡ b → books ≡ c → journals ≡ true → tables ≡ true → books ≡ (a && (b && c))
third_decides journals tables books a b c ea eb ec first second =
    ec ∙ sym (ap (λ (x : Bool). x && (b && c)) (sym ea ∙ first) ∙ ap (λ (x : Bool). x && c) (sym eb ∙ second))

pub second_fails : (journals tables a b c : Bool) → journals ≡ a → tables ≡ b → journals ≡ true → tables ≡ false → false ≡ (a && (b && c))
second_fails journals tables a b c ea eb first second =
    sym (ap (λ (x : Bool). x && (b && c)) (sym ea ∙ first) ∙ ap (λ (x : Bool). x && c) (sym eb ∙ second))
