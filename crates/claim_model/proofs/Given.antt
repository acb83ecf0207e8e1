-- What the settings that a world takes say of its nodes.
use Rattle.std.proofs.Common.{◌≡◌, ℕ, ◌<◌, ◌≤◌, Bool, true, false, ◌||◌, not, cond, length, Option, Some, None, refl, arith, ltb-false}
use Rattle.std.specs.List.{list_all}
use Rattle.std.proofs.lemmas.Bool.{or_parts}
use Rattle.claim_model.specs.Context.{Context}
use Rattle.claim_model.specs.Numbered.{numbered}
use Rattle.claim_model.specs.Limits.{most_pharmacies, most_switches, most_payers}
use Rattle.claim_model.specs.Journal.{PharmacySettings}
use Rattle.claim_model.specs.Settings.{WorldSettings, PayerSettings, SettingsFault, TooMany, NoNode, SameProvider, settings_fault, too_many, is_empty, has_nodes, some_provider_twice, IsPharmacySettings, IsBookSettings, Accepts}
use Rattle.claim_model.proofs.Lists.{numbered_within, all_at}

fault_passed : (b : Bool) (f : SettingsFault) (rest : Option SettingsFault) → cond b (Some f) rest ≡ None → (b ≡ false) × (rest ≡ None)
fault_passed true f rest e = absurd cc
fault_passed false f rest e = (refl, e)

-- the three tests that settings passed
pub record Passed (s : WorldSettings) : Type 0 where
  pub pharmacies : length s.pharmacies ≤ most_pharmacies
  pub switches : length s.switches ≤ most_switches
  pub payers : length s.payers ≤ most_payers
  pub nodes : not (list_all (has_nodes (length s.switches)) s.pharmacies) ≡ false
  pub providers : some_provider_twice s.pharmacies ≡ false

pub passed : (s : WorldSettings) → settings_fault s ≡ None → Passed s
passed s e =
    let a = fault_passed (too_many s) TooMany _ e in
    let b = fault_passed (is_empty s.pharmacies || (is_empty s.switches || (is_empty s.payers || not (list_all (has_nodes (length s.switches)) s.pharmacies)))) NoNode _ a.1 in
    let c = fault_passed (some_provider_twice s.pharmacies) SameProvider _ b.1 in
    let d = or_parts _ _ a.0 in
    let f = or_parts _ _ d.1 in
    let g = or_parts (is_empty s.pharmacies) _ b.0 in
    let h = or_parts (is_empty s.switches) _ g.1 in
    let i = or_parts (is_empty s.payers) _ h.1 in
    record { pharmacies = ltb-false _ _ d.0; switches = ltb-false _ _ f.0; payers = ltb-false _ _ f.1; nodes = i.1; providers = c.0 }

pub pharmacy_given : (ctx : Context) (s : WorldSettings) (n : ℕ) (p : PharmacySettings) → Accepts ctx s → numbered s.pharmacies n ≡ Some p → (0 < n) × (n ≤ most_pharmacies) × IsPharmacySettings p
pharmacy_given ctx s n p a h =
    let w = numbered_within s.pharmacies n p h in
    let q = passed s a.no_fault in
    (w.0, omega (arith, w.1, q.pharmacies), all_at IsPharmacySettings s.pharmacies n p a.pharmacies h)

pub payer_given : (ctx : Context) (s : WorldSettings) (n : ℕ) (p : PayerSettings) → Accepts ctx s → numbered s.payers n ≡ Some p → (0 < n) × (n ≤ most_payers) × IsBookSettings p.book
payer_given ctx s n p a h =
    let w = numbered_within s.payers n p h in
    let q = passed s a.no_fault in
    (w.0, omega (arith, w.1, q.payers), all_at (λ (x : PayerSettings). IsBookSettings x.book) s.payers n p a.books h)
