-- A node that is started from what it left at rest: the bytes of its record, beside the settings of its world.
use Rattle.std.specs.Prelude.{◌≡◌, ℕ, ◌==◌, Bool, true, not, List, [], ◌∷◌, Option, Some, None, is_some, if◌then◌else◌}
use Rattle.std.specs.Option.{option_map}
use Rattle.std.specs.Result.{result_ok}
use Rattle.claim_model.specs.Context.{Context}
use Rattle.claim_model.specs.Journal.{Journal, JournalAtRest, PharmacySettings, started}
use Rattle.claim_model.specs.Numbered.{numbered}
use Rattle.claim_model.specs.Node.{Node, Pharmacy, Switch, Payer, Power, Up, AtRest, Start, Done}
use Rattle.claim_model.specs.Table.{Table}
use Rattle.claim_model.specs.Rows.{Book}
use Rattle.claim_model.specs.Nodes.{AnyNode, OfPharmacy, OfSwitch, OfPayer, node_step}
use Rattle.claim_model.specs.Settings.{WorldSettings, PayerSettings}
use Rattle.kept_records.specs.Journals.{journal_in}
use Rattle.kept_records.specs.Books.{book_in}
use Rattle.codec.specs.Codecs.{whole}
use Rattle.switch_node.specs.Bytes.{cap_codec}
use Rattle.node_state.specs.Sends.{is_up}

-- the pharmacy of this number and these settings, started with the journal that bytes are the record of
abbrev pub resumed_pharmacy : ℕ → List ℕ → Option PharmacySettings → Option AnyNode
resumed_pharmacy number bytes None = None
resumed_pharmacy number bytes (Some settings) = option_map (λ j. OfPharmacy (Up (started j))) (result_ok (journal_in number settings bytes))

-- a switch keeps nothing but its cap: its record has no byte where that is the one which its settings give, and else those of the cap
abbrev pub switch_record : ℕ → ℕ → List ℕ
switch_record given own = if own == given then [] else cap_codec.text own

abbrev pub resumed_cap : ℕ → Option ℕ → Option AnyNode
resumed_cap given None = None
resumed_cap given (Some own) = if own == given then None else Some (OfSwitch (Up (record { cap = own; entries = [] })))

abbrev pub resumed_switch : List ℕ → Option ℕ → Option AnyNode
resumed_switch bytes None = None
resumed_switch [] (Some cap) = Some (OfSwitch (Up (record { cap = cap; entries = [] })))
resumed_switch (byte ∷ bytes) (Some cap) = resumed_cap cap (whole cap_codec (byte ∷ bytes))

-- the payer of this number and these settings, started with the book that bytes are the record of
abbrev pub resumed_payer : ℕ → List ℕ → Option PayerSettings → Option AnyNode
resumed_payer number bytes None = None
resumed_payer number bytes (Some settings) = option_map (λ b. OfPayer (Up b)) (result_ok (book_in number settings.book bytes))

-- the node of that name under these settings, started from these bytes; none where there is no such node, or they are no record of it
abbrev pub resumed : WorldSettings → Node → List ℕ → Option AnyNode
resumed s (Pharmacy number) bytes = resumed_pharmacy number bytes (numbered s.pharmacies number)
resumed s (Switch number) bytes = resumed_switch bytes (numbered s.switches number)
resumed s (Payer number) bytes = resumed_payer number bytes (numbered s.payers number)

-- these bytes are the record of a node at rest: from them the settings make the node that a start makes of it
pub record IsRecord (s : WorldSettings) (node : Node) (bytes : List ℕ) (rest : AnyNode) : Type 0 where
  pub begins : AnyNode
  pub is : resumed s node bytes ≡ Some begins
  pub starts : (ctx : Context) → node_step ctx rest Start ≡ Done begins []

-- a pharmacy is at rest, and has this number and these settings
abbrev pub rests_as_pharmacy : ℕ → Option PharmacySettings → Power Journal JournalAtRest → Type 0
rests_as_pharmacy number settings (Up j) = ⊥
rests_as_pharmacy number settings (AtRest j) = (j.number ≡ number) × (settings ≡ Some j.settings)

-- a switch is at rest, and the settings give it a cap; its own may be another
abbrev pub rests_as_switch : Option ℕ → Power Table ℕ → Type 0
rests_as_switch given (Up t) = ⊥
rests_as_switch given (AtRest own) = is_some given ≡ true

-- a payer is at rest, and its book has this number and the settings of this payer
abbrev pub rests_as_payer : ℕ → Option PayerSettings → Power Book Book → Type 0
rests_as_payer number settings (Up b) = ⊥
rests_as_payer number settings (AtRest b) = (b.payer ≡ number) × (option_map (λ (p : PayerSettings). p.book) settings ≡ Some b.settings)

-- a node is at rest, and is the one of that name under these settings
abbrev pub IsResting : WorldSettings → Node → AnyNode → Type 0
IsResting s (Pharmacy number) (OfPharmacy node) = rests_as_pharmacy number (numbered s.pharmacies number) node
IsResting s (Pharmacy number) (OfSwitch node) = ⊥
IsResting s (Pharmacy number) (OfPayer node) = ⊥
IsResting s (Switch number) (OfPharmacy node) = ⊥
IsResting s (Switch number) (OfSwitch node) = rests_as_switch (numbered s.switches number) node
IsResting s (Switch number) (OfPayer node) = ⊥
IsResting s (Payer number) (OfPharmacy node) = ⊥
IsResting s (Payer number) (OfSwitch node) = ⊥
IsResting s (Payer number) (OfPayer node) = rests_as_payer number (numbered s.payers number) node

-- a node is at rest
abbrev pub is_down : AnyNode → Bool
is_down (OfPharmacy node) = not (is_up node)
is_down (OfSwitch node) = not (is_up node)
is_down (OfPayer node) = not (is_up node)
