-- Settings that grow: what may be another under the new ones, and a node with another cap.
use Rattle.std.specs.Prelude.{◌≡◌, ⊤, ℕ, ◌≤◌, true, List, [], ◌∷◌, Some, None, Ok}
use Rattle.std.specs.List.{AllByRecursion}
use Rattle.claim_model.specs.Words.{RequestHeader, Envelope, RouteKey}
use Rattle.claim_model.specs.Context.{Context}
use Rattle.claim_model.specs.Readable.{readable, payer_for, is_request}
use Rattle.claim_model.specs.Numbered.{numbered}
use Rattle.claim_model.specs.Rows.{Book}
use Rattle.claim_model.specs.Journal.{PharmacySettings, Journal, JournalAtRest}
use Rattle.claim_model.specs.Node.{Node, Pharmacy, Switch, Payer, Power, Up, AtRest, Call, Submit, Tick, Take, Stop, Start, Revise, Adjudicate}
use Rattle.claim_model.specs.Settings.{PayerSettings, WorldSettings}
use Rattle.claim_model.specs.Nodes.{AnyNode, OfPharmacy, OfSwitch, OfPayer}
use Rattle.claim_model.specs.Logs.{Logged}

-- the same reading of bytes, under which all that had a route has it still, to the same payer, and there are no fewer switches
pub record Widens (ctx wider : Context) : Type 0 where
  pub reading : wider ≡ record ctx { route = wider.route; switches = wider.switches }
  pub switches : ctx.switches ≤ wider.switches
  pub routes : (number : ℕ) (key : RouteKey) (payer : ℕ) → ctx.route number key ≡ Some payer → wider.route number key ≡ Some payer

-- a pharmacy's settings are the same, but that the journal may have more entries
pub record PharmacyGrows (old new : PharmacySettings) : Type 0 where
  pub same : new ≡ record old { cap = new.cap }
  pub cap : old.cap ≤ new.cap

-- a payer's first serial and opening plan are the same, and the book may have more rows
pub record PayerGrows (old new : PayerSettings) : Type 0 where
  pub same : new ≡ record old { book = record old.book { cap = new.book.cap } }
  pub cap : old.book.cap ≤ new.book.cap

-- each of these has its number in the other list too, as it was or grown; after them there may be more
abbrev pub Extends : {A : Type 0} → (A → A → Type 0) → List A → List A → Type 0
Extends Grows [] new = ⊤
Extends Grows (a ∷ old) [] = ⊥
Extends Grows (a ∷ old) (b ∷ new) = Grows a b × Extends Grows old new

-- settings grow: each node is there under its number, as it was or with a larger cap, a switch's cap excepted; after them there may be more nodes;
-- and what had a route has it still
pub record Grows (ctx wider : Context) (s t : WorldSettings) : Type 0 where
  pub widens : Widens ctx wider
  pub pharmacies : Extends PharmacyGrows s.pharmacies t.pharmacies
  pub switches : Extends (λ (old new : ℕ). new ≡ old) s.switches t.switches
  pub payers : Extends PayerGrows s.payers t.payers

-- ---- settings that give new providers books of their own

-- a provider is a pharmacy of these settings
pub record IsOfPharmacy (s : WorldSettings) (qualifier provider : List ℕ) : Type 0 where
  pub number : ℕ
  pub pharmacy : PharmacySettings
  pub at : numbered s.pharmacies number ≡ Some pharmacy
  pub qualifier_is : pharmacy.qualifier ≡ qualifier
  pub provider_is : pharmacy.provider ≡ provider

-- the same reading of bytes, under which all that had a route has it still, to the same payer, where its provider is a pharmacy of these settings, and
-- there are no fewer switches.
-- Of other providers nothing is asked: they may get another book than the one that they would have had
pub record WidensFor (s : WorldSettings) (ctx wider : Context) : Type 0 where
  pub reading : wider ≡ record ctx { route = wider.route; switches = wider.switches }
  pub switches : ctx.switches ≤ wider.switches
  pub routes : (number : ℕ) (key : RouteKey) (payer : ℕ) → IsOfPharmacy s key.qualifier key.provider → ctx.route number key ≡ Some payer → wider.route number key ≡ Some payer

-- nodes grow: each is there under its number, as it was or with a larger cap, a switch's cap excepted; after them there may be more
pub record NodesGrow (s t : WorldSettings) : Type 0 where
  pub pharmacies : Extends PharmacyGrows s.pharmacies t.pharmacies
  pub switches : Extends (λ (old new : ℕ). new ≡ old) s.switches t.switches
  pub payers : Extends PayerGrows s.payers t.payers

-- settings grow, and what the old pharmacies had as a route they have still
pub record GrowsFor (ctx wider : Context) (s t : WorldSettings) : Type 0 where
  pub widens : WidensFor s ctx wider
  pub nodes : NodesGrow s t

-- ---- a node with another cap

abbrev pub journal_with_cap : ℕ → Power Journal JournalAtRest → Power Journal JournalAtRest
journal_with_cap cap (Up j) = Up (record j { settings = record j.settings { cap = cap } })
journal_with_cap cap (AtRest j) = AtRest (record j { settings = record j.settings { cap = cap } })

abbrev pub book_with_cap : ℕ → Power Book Book → Power Book Book
book_with_cap cap (Up b) = Up (record b { settings = record b.settings { cap = cap } })
book_with_cap cap (AtRest b) = AtRest (record b { settings = record b.settings { cap = cap } })

-- a pharmacy or a payer, alike in all but its cap; a switch as it is
abbrev pub with_cap : ℕ → AnyNode → AnyNode
with_cap cap (OfPharmacy node) = OfPharmacy (journal_with_cap cap node)
with_cap cap (OfSwitch node) = OfSwitch node
with_cap cap (OfPayer node) = OfPayer (book_with_cap cap node)

-- ---- where requests go

-- a request that is taken, with an advice or without, has the route that it had
abbrev pub PayerLasts : Context → Context → List ℕ → Type 0
PayerLasts ctx wider bytes =
    (e : Envelope) (h : RequestHeader) (payer : ℕ) → ctx.read_envelope bytes ≡ Ok e → is_request e ≡ true → readable ctx e.payload ≡ Some h
    → payer_for ctx e.id h ≡ Some payer → payer_for wider e.id h ≡ Some payer

abbrev pub RouteLasts : Context → Context → Call → Type 0
RouteLasts ctx wider (Take from bytes) = PayerLasts ctx wider bytes
RouteLasts ctx wider (Submit text) = ⊤
RouteLasts ctx wider Tick = ⊤
RouteLasts ctx wider Stop = ⊤
RouteLasts ctx wider Start = ⊤
RouteLasts ctx wider (Revise change) = ⊤
RouteLasts ctx wider (Adjudicate from bytes advice) = PayerLasts ctx wider bytes

-- so has each request that a node took
abbrev pub RoutesLast : Context → Context → List Logged → Type 0
RoutesLast ctx wider log = AllByRecursion (λ (l : Logged). RouteLasts ctx wider l.call) log

-- a request that is taken, with an advice or without, is of a provider that is a pharmacy of these settings
abbrev pub IsOwnPacket : Context → WorldSettings → List ℕ → Type 0
IsOwnPacket ctx s bytes =
    (e : Envelope) (h : RequestHeader) → ctx.read_envelope bytes ≡ Ok e → is_request e ≡ true → readable ctx e.payload ≡ Some h → IsOfPharmacy s h.qualifier h.provider

abbrev pub IsOwnCall : Context → WorldSettings → Call → Type 0
IsOwnCall ctx s (Take from bytes) = IsOwnPacket ctx s bytes
IsOwnCall ctx s (Submit text) = ⊤
IsOwnCall ctx s Tick = ⊤
IsOwnCall ctx s Stop = ⊤
IsOwnCall ctx s Start = ⊤
IsOwnCall ctx s (Revise change) = ⊤
IsOwnCall ctx s (Adjudicate from bytes advice) = IsOwnPacket ctx s bytes

-- so is each request that a node took
abbrev pub HasOwnCalls : Context → WorldSettings → List Logged → Type 0
HasOwnCalls ctx s log = AllByRecursion (λ (l : Logged). IsOwnCall ctx s l.call) log

-- ---- what a switch has rejected

-- a request that is taken and had no route has none now
abbrev pub RejectionStays : Context → Context → Call → Type 0
RejectionStays ctx wider (Take from bytes) =
    (e : Envelope) (h : RequestHeader) → ctx.read_envelope bytes ≡ Ok e → is_request e ≡ true → readable ctx e.payload ≡ Some h
    → payer_for ctx e.id h ≡ None → payer_for wider e.id h ≡ None
RejectionStays ctx wider (Submit text) = ⊤
RejectionStays ctx wider Tick = ⊤
RejectionStays ctx wider Stop = ⊤
RejectionStays ctx wider Start = ⊤
RejectionStays ctx wider (Revise change) = ⊤
RejectionStays ctx wider (Adjudicate from bytes advice) = ⊤

-- what a switch has rejected for want of a route has none now. Of other nodes nothing is asked
abbrev pub RejectionsStay : Context → Context → Node → List Logged → Type 0
RejectionsStay ctx wider (Pharmacy n) log = ⊤
RejectionsStay ctx wider (Switch n) log = AllByRecursion (λ (l : Logged). RejectionStays ctx wider l.call) log
RejectionsStay ctx wider (Payer n) log = ⊤
