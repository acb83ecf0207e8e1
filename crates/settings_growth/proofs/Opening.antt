-- The nodes of settings that have grown.
use Rattle.std.proofs.Common.{◌≡◌, ℕ, zero, suc, ◌+◌, ◌≤◌, List, [], ◌∷◌, Option, Some, slice_get, sym, ap, ◌∙◌, subst}
use Rattle.std.specs.Prelude.{option_map}
use Rattle.claim_model.specs.Journal.{PharmacySettings, opening_rule, Journal, JournalAtRest}
use Rattle.claim_model.specs.Table.{Table}
use Rattle.claim_model.specs.Rows.{Book}
use Rattle.claim_model.specs.Node.{Pharmacy, Switch, Payer, Power, Up}
use Rattle.claim_model.specs.Settings.{PayerSettings, WorldSettings, pharmacies_from, switches_of, payers_from, opening}
use Rattle.claim_model.specs.Nodes.{AnyNode, OfPharmacy, OfSwitch, OfPayer, node_at}
use Rattle.claim_model.proofs.Options.{map_some}
use Rattle.settings_growth.specs.Growth.{PharmacyGrows, PayerGrows, Extends, journal_with_cap, book_with_cap}
use Rattle.settings_growth.proofs.Pharmacies.{journal_cap}
use Rattle.settings_growth.proofs.Payers.{book_cap}

-- the node of a name under the new settings: with this cap, which is no smaller

record GrownPharmacy (there : Option (Power Journal JournalAtRest)) (node : Power Journal JournalAtRest) : Type 0 where
  cap : ℕ
  is : there ≡ Some (journal_with_cap cap node)
  room : journal_cap node ≤ cap

grown_pharmacy : (m : ℕ) (old new : List PharmacySettings) (k : ℕ) (node : Power Journal JournalAtRest) → Extends PharmacyGrows old new → slice_get (pharmacies_from m old) k ≡ Some node → GrownPharmacy (slice_get (pharmacies_from m new) k) node
grown_pharmacy m [] new k node g e = absurd cc
grown_pharmacy m (a ∷ old) [] k node g e = absurd g
grown_pharmacy m (a ∷ old) (b ∷ new) zero node g e =
    let is : Up (record { number = m; settings = a; rule = opening_rule a; entries = [] }) ≡ node = cc in
    subst (GrownPharmacy (Some (Up (record { number = m; settings = b; rule = opening_rule b; entries = [] })))) is
    (record { cap = b.cap; is = ap (λ (s : PharmacySettings). Some (Up (record { number = m; settings = s; rule = opening_rule s; entries = [] }))) g.0.same; room = g.0.cap })
grown_pharmacy m (a ∷ old) (b ∷ new) (suc k) node g e = grown_pharmacy (m + 1) old new k node g.1 e

grown_switch : (old new : List ℕ) (k : ℕ) (node : Power Table ℕ) → Extends (λ (a b : ℕ). b ≡ a) old new → slice_get (switches_of old) k ≡ Some node → slice_get (switches_of new) k ≡ Some node
grown_switch [] new k node g e = absurd cc
grown_switch (a ∷ old) [] k node g e = absurd g
grown_switch (a ∷ old) (b ∷ new) zero node g e = ap (λ (cap : ℕ). Some (Up (record { cap = cap; entries = [] }))) g.0 ∙ e
grown_switch (a ∷ old) (b ∷ new) (suc k) node g e = grown_switch old new k node g.1 e

record GrownPayer (there : Option (Power Book Book)) (node : Power Book Book) : Type 0 where
  cap : ℕ
  is : there ≡ Some (book_with_cap cap node)
  room : book_cap node ≤ cap

grown_payer : (m : ℕ) (old new : List PayerSettings) (k : ℕ) (node : Power Book Book) → Extends PayerGrows old new → slice_get (payers_from m old) k ≡ Some node → GrownPayer (slice_get (payers_from m new) k) node
grown_payer m [] new k node g e = absurd cc
grown_payer m (a ∷ old) [] k node g e = absurd g
grown_payer m (a ∷ old) (b ∷ new) zero node g e =
    let is : Up (record { payer = m; settings = a.book; plan = a.plan; rows = [] }) ≡ node = cc in
    subst (GrownPayer (Some (Up (record { payer = m; settings = b.book; plan = b.plan; rows = [] })))) is
    (record { cap = b.book.cap; is = ap (λ (p : PayerSettings). Some (Up (record { payer = m; settings = p.book; plan = p.plan; rows = [] }))) g.0.same; room = g.0.cap })
grown_payer m (a ∷ old) (b ∷ new) (suc k) node g e = grown_payer (m + 1) old new k node g.1 e

-- the same by number

pub record PharmacyThere (t : WorldSettings) (n : ℕ) (before : AnyNode) : Type 0 where
  pub node : Power Journal JournalAtRest
  pub is : before ≡ OfPharmacy node
  pub cap : ℕ
  pub opens : node_at (opening t) (Pharmacy n) ≡ Some (OfPharmacy (journal_with_cap cap node))
  pub room : journal_cap node ≤ cap

pub pharmacy_there : (s t : WorldSettings) (n : ℕ) (before : AnyNode) → Extends PharmacyGrows s.pharmacies t.pharmacies → node_at (opening s) (Pharmacy n) ≡ Some before → PharmacyThere t n before
pharmacy_there s t zero before g e = absurd cc
pharmacy_there s t (suc k) before g e =
    let m = map_some OfPharmacy (slice_get (pharmacies_from 1 s.pharmacies) k) before e in
    let r = grown_pharmacy 1 s.pharmacies t.pharmacies k m.0 g m.1 in
    record { node = m.0; is = sym m.2; cap = r.cap; opens = ap (option_map OfPharmacy) r.is; room = r.room }

pub record SwitchThere (t : WorldSettings) (n : ℕ) (before : AnyNode) : Type 0 where
  pub node : Power Table ℕ
  pub is : before ≡ OfSwitch node
  pub opens : node_at (opening t) (Switch n) ≡ Some (OfSwitch node)

pub switch_there : (s t : WorldSettings) (n : ℕ) (before : AnyNode) → Extends (λ (a b : ℕ). b ≡ a) s.switches t.switches → node_at (opening s) (Switch n) ≡ Some before → SwitchThere t n before
switch_there s t zero before g e = absurd cc
switch_there s t (suc k) before g e =
    let m = map_some OfSwitch (slice_get (switches_of s.switches) k) before e in
    record { node = m.0; is = sym m.2; opens = ap (option_map OfSwitch) (grown_switch s.switches t.switches k m.0 g m.1) }

pub record PayerThere (t : WorldSettings) (n : ℕ) (before : AnyNode) : Type 0 where
  pub node : Power Book Book
  pub is : before ≡ OfPayer node
  pub cap : ℕ
  pub opens : node_at (opening t) (Payer n) ≡ Some (OfPayer (book_with_cap cap node))
  pub room : book_cap node ≤ cap

pub payer_there : (s t : WorldSettings) (n : ℕ) (before : AnyNode) → Extends PayerGrows s.payers t.payers → node_at (opening s) (Payer n) ≡ Some before → PayerThere t n before
payer_there s t zero before g e = absurd cc
payer_there s t (suc k) before g e =
    let m = map_some OfPayer (slice_get (payers_from 1 s.payers) k) before e in
    let r = grown_payer 1 s.payers t.payers k m.0 g m.1 in
    record { node = m.0; is = sym m.2; cap = r.cap; opens = ap (option_map OfPayer) r.is; room = r.room }
