use Rattle.std.proofs.Common.{ℕ, List, map, ap, ◌∙◌}
use Rattle.claim_model.specs.Journal.{PharmacySettings as PharmacySeen}
use Rattle.claim_model.specs.Settings.{PayerSettings as PayerSeen}
use Rattle.world_setup.specs.declared.settings.PayerSettings.{PayerSettings}
use Rattle.world_setup.specs.Seen.{payer_seen}
use Rattle.world_settings.specs.Limits.{caps_within}
use Rattle.world_settings.proofs.Caps.{third_decides, second_fails}
use Rattle.world_settings.proofs.limits.caps_fit.Goals as goal

pub returns-then-not-tables_within : goal.returns-then-not-tables_within
returns-then-not-tables_within c =
    second_fails c.journals_within.result c.tables_within.result _ _ _
    (c.journals_within.ensures ∙ ap (λ (xs : List PharmacySeen). caps_within (λ (p : PharmacySeen). p.cap) c.args.most xs) c.as_slice.ensures.value)
    (c.tables_within.ensures ∙ ap (λ (xs : List ℕ). caps_within (λ (cap : ℕ). cap) c.args.most xs) c.as_slice-2.ensures.value)
    c.if-not-journals_within.false c.if-not-tables_within.true

pub returns : goal.returns
returns c =
    third_decides c.journals_within.result c.tables_within.result c.books_within.result _ _ _
    (c.journals_within.ensures ∙ ap (λ (xs : List PharmacySeen). caps_within (λ (p : PharmacySeen). p.cap) c.args.most xs) c.as_slice.ensures.value)
    (c.tables_within.ensures ∙ ap (λ (xs : List ℕ). caps_within (λ (cap : ℕ). cap) c.args.most xs) c.as_slice-2.ensures.value)
    (c.books_within.ensures ∙ ap (λ (xs : List PayerSettings). caps_within (λ (p : PayerSeen). p.book.cap) c.args.most (map payer_seen xs)) c.as_slice-3.ensures.value)
    c.if-not-journals_within.false c.if-not-tables_within.false
