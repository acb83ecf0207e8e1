-- What the logs of nodes begin with: nothing but these nodes, under settings that have them.
use Rattle.std.proofs.Common.{◌≡◌, ℕ, ◌+◌, ◌<◌, ◌≤◌, Bool, true, false, cond, List, [], ◌∷◌, ◌++◌, map, length, Option, Some, None, refl, sym, ap, ◌∙◌, subst, inl, inr, arith, length-append}
use Rattle.std.specs.Prelude.{is_some}
use Rattle.std.specs.Global.{Vec}
use Rattle.std.specs.Result.{result_ok}
use Rattle.std.proofs.lemmas.Bool.{both_ways}
use Rattle.std.proofs.lemmas.List.{length-map}
use Rattle.claim_model.specs.Journal.{PharmacySettings, Journal, JournalAtRest, started}
use Rattle.claim_model.specs.Logs.{NodeLog}
use Rattle.claim_model.specs.Node.{Node, Pharmacy, Switch, Payer, Power, Up}
use Rattle.claim_model.specs.Nodes.{AnyNode, OfPharmacy, OfPayer, same_node}
use Rattle.claim_model.specs.Numbered.{numbered}
use Rattle.claim_model.specs.Rows.{Book}
use Rattle.claim_model.specs.Settings.{PayerSettings, opening}
use Rattle.claim_model.proofs.Lists.{numbered_within, numbered_more}
use Rattle.claim_model.proofs.Names.{same_is, same_self}
use Rattle.claim_model.proofs.Options.{map_some}
use Rattle.world_setup.specs.Seen.{settings_seen, payer_seen}
use Rattle.world_setup.specs.declared.settings.WorldSettings.{WorldSettings}
use Rattle.kept_records.specs.Journals.{journal_in}
use Rattle.kept_records.specs.Books.{book_in}
use Rattle.node_state.specs.Resting.{resumed_pharmacy, resumed_switch, resumed_payer, resumed}
use Rattle.node_log.specs.ExistingNodes.{is_there}
use Rattle.node_log.proofs.Opens.{pharmacy_there, switch_there, payer_there}
use Rattle.kept_logs.specs.Rests.{Rest, rest_in, begun_from, begins}
use Rattle.run_merge.proofs.Covering.{distinct_once}
use Rattle.days_audit.specs.Begun.{rest_at, begins_at}
use Rattle.days_audit.specs.Lines.{NoLog, FirstAt, BegunAs, NotBegun, NodeBegun, BegunPharmacy, BegunPayer, SomeNotBegun, ArePharmacies, ArePayers, is_pharmacy, is_payer}
use Rattle.days_audit.proofs.Beginning.{in_numbered}

if_some : {A : Type 0} (b : Bool) (o : Option A) (a : A) → cond b o None ≡ Some a → o ≡ Some a
if_some true o a e = e
if_some false o a e = absurd cc

-- what is resumed is of its kind, and the settings have it

pharmacy_resumed : (n : ℕ) (bytes : List ℕ) (o : Option PharmacySettings) (state : AnyNode) → resumed_pharmacy n bytes o ≡ Some state → ((x : Power Journal JournalAtRest) × (state ≡ OfPharmacy x)) × ((p : PharmacySettings) × (o ≡ Some p))
pharmacy_resumed n bytes None state e = absurd cc
pharmacy_resumed n bytes (Some settings) state e =
    let m = map_some (λ (j : JournalAtRest). OfPharmacy (Up (started j))) (result_ok (journal_in n settings bytes)) state e in
    ((Up (started m.0), sym m.2), (settings, refl))

switch_resumed : (bytes : List ℕ) (o : Option ℕ) (state : AnyNode) → resumed_switch bytes o ≡ Some state → (cap : ℕ) × (o ≡ Some cap)
switch_resumed bytes None state e = absurd cc
switch_resumed [] (Some cap) state e = (cap, refl)
switch_resumed (byte ∷ bytes) (Some cap) state e = (cap, refl)

payer_resumed : (n : ℕ) (bytes : List ℕ) (o : Option PayerSettings) (state : AnyNode) → resumed_payer n bytes o ≡ Some state → ((x : Power Book Book) × (state ≡ OfPayer x)) × ((p : PayerSettings) × (o ≡ Some p))
payer_resumed n bytes None state e = absurd cc
payer_resumed n bytes (Some settings) state e =
    let m = map_some (λ (b : Book). OfPayer (Up b)) (result_ok (book_in n settings.book bytes)) state e in
    ((Up m.0, sym m.2), (settings, refl))

-- what begins behind closed logs is resumed
from_rest : (s : WorldSettings) (node : Node) (o : Option Rest) (state : AnyNode) → begun_from (settings_seen s) node o ≡ Some state → (bytes : List ℕ) × (resumed (settings_seen s) node bytes ≡ Some state)
from_rest s node None state e = absurd cc
from_rest s node (Some r) state e = (r.kept, if_some (same_node r.node node) (resumed (settings_seen s) node r.kept) state e)

pharmacy_begins : (s : WorldSettings) (n : ℕ) (rest : Option (List ℕ)) (state : AnyNode) → begins s (Pharmacy n) rest ≡ Some state → (x : Power Journal JournalAtRest) × (state ≡ OfPharmacy x)
pharmacy_begins s n None state e = let m = map_some OfPharmacy (numbered (opening (settings_seen s)).pharmacies n) state e in (m.0, sym m.2)
pharmacy_begins s n (Some bytes) state e =
    let r = from_rest s (Pharmacy n) (rest_in bytes) state e in
    (pharmacy_resumed n r.0 (numbered (settings_seen s).pharmacies n) state r.1).0

payer_begins : (s : WorldSettings) (n : ℕ) (rest : Option (List ℕ)) (state : AnyNode) → begins s (Payer n) rest ≡ Some state → (x : Power Book Book) × (state ≡ OfPayer x)
payer_begins s n None state e = let m = map_some OfPayer (numbered (opening (settings_seen s)).payers n) state e in (m.0, sym m.2)
payer_begins s n (Some bytes) state e =
    let r = from_rest s (Payer n) (rest_in bytes) state e in
    (payer_resumed n r.0 (numbered (settings_seen s).payers n) state r.1).0

resumed_there : (s : WorldSettings) (node : Node) (bytes : List ℕ) (state : AnyNode) → resumed (settings_seen s) node bytes ≡ Some state → is_there (settings_seen s) node ≡ true
resumed_there s (Pharmacy n) bytes state e =
    let p = (pharmacy_resumed n bytes (numbered (settings_seen s).pharmacies n) state e).1 in
    let w = numbered_within s.pharmacies.items n p.0 p.1 in
    sym (pharmacy_there s.pharmacies.items (length s.pharmacies.items) n refl) ∙ in_numbered (length s.pharmacies.items) n w.0 w.1
resumed_there s (Switch n) bytes state e =
    let p = switch_resumed bytes (numbered (settings_seen s).switches n) state e in
    let w = numbered_within s.switches.items n p.0 p.1 in
    sym (switch_there s.switches.items (length s.switches.items) n refl) ∙ in_numbered (length s.switches.items) n w.0 w.1
resumed_there s (Payer n) bytes state e =
    let p = (payer_resumed n bytes (numbered (settings_seen s).payers n) state e).1 in
    let w = numbered_within (map payer_seen s.payers.items) n p.0 p.1 in
    let l : n ≤ length s.payers.items = subst (λ (k : ℕ). n ≤ k) (length-map s.payers.items payer_seen) w.1 in
    sym (payer_there s.payers.items (length s.payers.items) n refl) ∙ in_numbered (length s.payers.items) n w.0 l

begins_there : (s : WorldSettings) (node : Node) (rest : Option (List ℕ)) (state : AnyNode) → begins s node rest ≡ Some state → is_there (settings_seen s) node ≡ true
begins_there s node None state e = ap is_some e
begins_there s node (Some bytes) state e =
    let r = from_rest s node (rest_in bytes) state e in
    resumed_there s node r.0 state r.1

-- a node that was looked for

pub absent_not_begun : (s : WorldSettings) (rests : List (Option (Vec ℕ))) (logs : List NodeLog) (node : Node) → is_there (settings_seen s) node ≡ false → NotBegun (begins_at s rests) logs node
absent_not_begun s rests logs node e d state b = both_ways (is_there (settings_seen s) node) e (begins_there s node (rest_at rests b.place) state b.is)

pub no_log_begun : (begun : Node → ℕ → Option AnyNode) (logs : List NodeLog) (node : Node) → NoLog node logs → NotBegun begun logs node
no_log_begun begun logs node n d state b =
    both_ways (same_node b.log.node node) (n b.place b.log b.at) (ap (λ (x : Node). same_node x node) b.names ∙ same_self node)

pub first_begun : (begun : Node → ℕ → Option AnyNode) (logs : List NodeLog) (node : Node) (place : ℕ) → FirstAt node logs place → (found : Option AnyNode) → found ≡ begun node place → NodeBegun begun logs node found
first_begun begun logs node place f (Some state) e = record { place = place; log = f.log; at = f.at; names = same_is f.log.node node f.names; is = sym e }
first_begun begun logs node place f None e = λ d state b.
    let same : b.place ≡ place = distinct_once logs d b.place place b.log f.log b.at f.at (b.names ∙ sym (same_is f.log.node node f.names)) in
    let no : None ≡ Some state = e ∙ (ap (begun node) (sym same) ∙ b.is) in
    absurd cc

pub pharmacy_found : (s : WorldSettings) (rests : List (Option (Vec ℕ))) (logs : List NodeLog) (n : ℕ) (state : AnyNode) (found : Option (Power Journal JournalAtRest)) → BegunAs (begins_at s rests) logs (Pharmacy n) state → found ≡ is_pharmacy state
    → BegunPharmacy (begins_at s rests) logs n found
pharmacy_found s rests logs n state found b e =
    let p = pharmacy_begins s n (rest_at rests b.place) state b.is in
    subst (BegunPharmacy (begins_at s rests) logs n) (sym (e ∙ ap is_pharmacy p.1)) (subst (BegunAs (begins_at s rests) logs (Pharmacy n)) p.1 b)

pub payer_found : (s : WorldSettings) (rests : List (Option (Vec ℕ))) (logs : List NodeLog) (n : ℕ) (state : AnyNode) (found : Option (Power Book Book)) → BegunAs (begins_at s rests) logs (Payer n) state → found ≡ is_payer state
    → BegunPayer (begins_at s rests) logs n found
payer_found s rests logs n state found b e =
    let p = payer_begins s n (rest_at rests b.place) state b.is in
    subst (BegunPayer (begins_at s rests) logs n) (sym (e ∙ ap is_payer p.1)) (subst (BegunAs (begins_at s rests) logs (Payer n)) p.1 b)

-- one more, and one that does not begin

pub pharmacies_more : (begun : Node → ℕ → Option AnyNode) (logs : List NodeLog) (k : ℕ) (nodes : List (Power Journal JournalAtRest)) (node : Power Journal JournalAtRest) → ArePharmacies begun logs k nodes → BegunAs begun logs (Pharmacy (k + 1)) (OfPharmacy node)
    → ArePharmacies begun logs (k + 1) (nodes ++ node ∷ [])
pharmacies_more begun logs k nodes node a b =
    record {
      count_is = length-append nodes (node ∷ []) ∙ ap (λ (m : ℕ). m + 1) a.count_is;
      each = λ n x e. elim (numbered_more nodes node n x e) [
        | inl h ↦ a.each n x h
        | inr h ↦
            let m : k + 1 ≡ n = ap (λ (i : ℕ). i + 1) (sym a.count_is) ∙ sym h.0 in
            subst (λ (i : ℕ). BegunAs begun logs (Pharmacy i) (OfPharmacy x)) m (subst (λ (y : Power Journal JournalAtRest). BegunAs begun logs (Pharmacy (k + 1)) (OfPharmacy y)) (sym h.1) b)
      ];
    }

pub payers_more : (begun : Node → ℕ → Option AnyNode) (logs : List NodeLog) (k : ℕ) (nodes : List (Power Book Book)) (node : Power Book Book) → ArePayers begun logs k nodes → BegunAs begun logs (Payer (k + 1)) (OfPayer node)
    → ArePayers begun logs (k + 1) (nodes ++ node ∷ [])
payers_more begun logs k nodes node a b =
    record {
      count_is = length-append nodes (node ∷ []) ∙ ap (λ (m : ℕ). m + 1) a.count_is;
      each = λ n x e. elim (numbered_more nodes node n x e) [
        | inl h ↦ a.each n x h
        | inr h ↦
            let m : k + 1 ≡ n = ap (λ (i : ℕ). i + 1) (sym a.count_is) ∙ sym h.0 in
            subst (λ (i : ℕ). BegunAs begun logs (Payer i) (OfPayer x)) m (subst (λ (y : Power Book Book). BegunAs begun logs (Payer (k + 1)) (OfPayer y)) (sym h.1) b)
      ];
    }

no_element : {A : Type 0} (n : ℕ) (x : A) → numbered [] n ≡ Some x → ⊥
no_element Rattle.std.proofs.Common.zero x e = cc
no_element (Rattle.std.proofs.Common.suc k) x e = cc

pub no_pharmacies : (begun : Node → ℕ → Option AnyNode) (logs : List NodeLog) → ArePharmacies begun logs 0 []
no_pharmacies begun logs = record { count_is = refl; each = λ n x e. absurd (no_element n x e) }

pub no_payers : (begun : Node → ℕ → Option AnyNode) (logs : List NodeLog) → ArePayers begun logs 0 []
no_payers begun logs = record { count_is = refl; each = λ n x e. absurd (no_element n x e) }

pub pharmacy_not_begun : (begun : Node → ℕ → Option AnyNode) (logs : List NodeLog) (pharmacies payers k : ℕ) → k < pharmacies → NotBegun begun logs (Pharmacy (k + 1)) → SomeNotBegun begun logs pharmacies payers
pharmacy_not_begun begun logs pharmacies payers k l n = record { node = Pharmacy (k + 1); party = in_numbered pharmacies (k + 1) (omega arith) (omega (arith, l)); not = n }

pub payer_not_begun : (begun : Node → ℕ → Option AnyNode) (logs : List NodeLog) (pharmacies payers k : ℕ) → k < payers → NotBegun begun logs (Payer (k + 1)) → SomeNotBegun begun logs pharmacies payers
payer_not_begun begun logs pharmacies payers k l n = record { node = Payer (k + 1); party = in_numbered payers (k + 1) (omega arith) (omega (arith, l)); not = n }
