-- Why a log is not turned over: what a stop comes to, and that a log which begins with what its node left is not refused.
use Rattle.std.proofs.Common.{◌≡◌, inl, inr, ℕ, zero, suc, ◌+◌, Bool, true, false, cond, List, [], ◌∷◌, length, map, Option, Some, None, Result, Ok, Err, refl, sym, ap, ◌∙◌, subst}
use Rattle.std.specs.Prelude.{◌≢◌, codes, is_some, slice_get, IfErr, IfSome, IsErrAnd}
use Rattle.std.specs.Borrow.{Bor}
use Rattle.std.specs.Option.{option_copied, option_map, option_or}
use Rattle.std.proofs.lemmas.List.{length-map}
use Rattle.bin_routes.specs.Fault.{first_fault}
use Rattle.claim_model.specs.Context.{Context}
use Rattle.claim_model.specs.Journal.{PharmacySettings}
use Rattle.claim_model.specs.Node.{Node, Pharmacy, Switch, Payer, Up, AtRest, Stop}
use Rattle.claim_model.specs.Nodes.{AnyNode, OfPharmacy, OfSwitch, OfPayer, node_step, same_node}
use Rattle.claim_model.specs.Settings as model
use Rattle.claim_model.specs.Settings.{pharmacies_from, payers_from, settings_fault, switches_of}
use Rattle.claim_model.proofs.Options.{same_some}
use Rattle.world_setup.specs.Seen.{payer_seen, settings_seen}
use Rattle.world_setup.specs.Taken.{named, world_fault}
use Rattle.world_setup.specs.declared.settings.WorldSettings.{WorldSettings}
use Rattle.world_setup.specs.declared.world_fault.WorldFault.{WorldFault}
use Rattle.world_setup.specs.declared.world_fault.WorldFault.TheVariants as world_fault_is
use Rattle.world_settings.specs.Document.{Document, document_seen, living_in}
use Rattle.node_log.specs.ExistingNodes.{is_there}
use Rattle.node_state.specs.Resting.{IsRecord, is_down, resumed, resumed_pharmacy, resumed_switch, resumed_payer}
use Rattle.node_logged.specs.Setting.{context_of}
use Rattle.kept_logs.specs.declared.fault.LogFault.{LogFault}
use Rattle.kept_logs.specs.declared.fault.LogFault.TheVariants.{Short}
use Rattle.kept_logs.specs.Logs.{KeptReading, Reading, calls_alone, kept_in, log_in}
use Rattle.kept_logs.specs.Rests.{Rest, begins, begun_from, calls_before, rest_in}
use Rattle.kept_logs.specs.Stamps.{no_stamp}
use Rattle.settings_digest.specs.Digests.{turned_under}
use Rattle.node_service.specs.Asking.{Asked}
use Rattle.node_service.specs.Opened.{Spells}
use Rattle.node_service.specs.Refused.{IsRefused, IsUnserved as IsLogRefused}
use Rattle.node_service.specs.Serving.{Serving, after_asked, after_call, after_line}
use Rattle.node_service.specs.declared.fault.ServiceFault.{ServiceFault}
use Rattle.node_service.specs.declared.fault.ServiceFault.TheVariants as service_fault
use Rattle.log_turning.specs.declared.fault.TurnFault.{TurnFault}
use Rattle.log_turning.specs.declared.fault.TurnFault.TheVariants.{OutOfMemory, Refused, NoRecord}
use Rattle.log_turning.specs.Turned.{Serves, ServesOn}
use Rattle.log_turning.specs.Unturned.{CanGoOn, HasNoRecord, IsUnclosed, IsUnended, IsUnserved, IsUnstarted, IsUnturned, LeavesNone, turn_fault}
use Rattle.log_turning.proofs.Closing.{none_read}
use Rattle.log_turning.proofs.Lines.{stop_asks}

-- ---- at rest

-- what has a record is at rest
pub recorded : (ctx : Context) (s : model.WorldSettings) (node : Node) (bytes : List ℕ) (state : AnyNode) → IsRecord s node bytes state → is_down state ≡ true
recorded ctx s node bytes (OfPharmacy (Up j)) is = let wrong = is.starts ctx in absurd cc
recorded ctx s node bytes (OfPharmacy (AtRest j)) is = refl
recorded ctx s node bytes (OfSwitch (Up t)) is = let wrong = is.starts ctx in absurd cc
recorded ctx s node bytes (OfSwitch (AtRest cap)) is = refl
recorded ctx s node bytes (OfPayer (Up b)) is = let wrong = is.starts ctx in absurd cc
recorded ctx s node bytes (OfPayer (AtRest b)) is = refl

-- what was asked to stop is at rest
call_stops : (s : Serving) (state : AnyNode) → s.state ≡ state → is_down (after_call s no_stamp Stop (node_step (context_of s.settings) state Stop)).state ≡ true
unfolding after_call
call_stops s (OfPharmacy (Up j)) own = refl
call_stops s (OfPharmacy (AtRest j)) own = ap is_down own
call_stops s (OfSwitch (Up t)) own = refl
call_stops s (OfSwitch (AtRest cap)) own = ap is_down own
call_stops s (OfPayer (Up b)) own = refl
call_stops s (OfPayer (AtRest b)) own = ap is_down own

pub line_stops : (s : Serving) → is_down (after_line s (codes "stop")).state ≡ true
unfolding after_line
line_stops s = subst (λ (a : Option Asked). is_down (after_asked s a).state ≡ true) (sym stop_asks) (call_stops s s.state refl)

pub told_down : (ctx : Context) (s : model.WorldSettings) (node : Node) (state : AnyNode) (r : Option (Bor (List ℕ))) → IfSome (option_copied r) (λ bytes. IsRecord s node bytes state) → is_some r ≡ true → is_down state ≡ true
told_down ctx s node state None is some = absurd cc
told_down ctx s node state (Some b) is some = recorded ctx s node b.now state is

-- ---- why it is not closed

-- a refusal that is passed on
pub passed : {A : Type 0} (r : Result A TurnFault) (e : TurnFault) (Why : TurnFault → Type 0) → IsErrAnd r (λ f. f ≡ e) → Why e → IfErr r Why
passed (Ok x) e Why h is = absurd h
passed (Err f) e Why h is = subst Why (sym h) is

pub for_another : {A : Type 0} (r : Result A TurnFault) (Why Then : TurnFault → Type 0) → ((e : TurnFault) → Why e → Then e) → IfErr r Why → IfErr r Then
for_another (Ok x) Why Then follows is = tt
for_another (Err e) Why Then follows is = follows e is

pub refused_unserved : (text : List ℕ) (node : Node) (rest : Option (List ℕ)) (bytes : List ℕ) (why : ServiceFault) → IsRefused text node rest bytes why → IsUnserved text node rest bytes (turn_fault why)
refused_unserved text node rest bytes service_fault.OutOfMemory is = tt
refused_unserved text node rest bytes service_fault.Settings is = (λ same. cc, is)
refused_unserved text node rest bytes service_fault.NoSuchNode is = (λ same. cc, is)
refused_unserved text node rest bytes service_fault.Rest is = (λ same. cc, is)
refused_unserved text node rest bytes (service_fault.Log fault) is = (λ same. cc, is)
refused_unserved text node rest bytes service_fault.OtherNode is = (λ same. cc, is)
refused_unserved text node rest bytes (service_fault.NotMade place) is = (λ same. cc, is)

pub unstarted_unended : (text : List ℕ) (node : Node) (rest : Option (List ℕ)) (bytes : List ℕ) (kept : ℕ) (s : Serving) (why : TurnFault)
    → Serves text node rest bytes kept s → is_down s.state ≡ true → IsUnstarted s why → IsUnended text node rest bytes why
unstarted_unended text node rest bytes kept s OutOfMemory serves down is = tt
unstarted_unended text node rest bytes kept s (Refused why) serves down is = is
unstarted_unended text node rest bytes kept s NoRecord serves down is = record { kept = kept; last = s; serves = serves; down = down; none = is }

pub unserved_unclosed : (text : List ℕ) (node : Node) (rest : Option (List ℕ)) (bytes : List ℕ) (why : TurnFault) → IsUnserved text node rest bytes why → IsUnclosed text node rest bytes why
unserved_unclosed text node rest bytes OutOfMemory is = tt
unserved_unclosed text node rest bytes (Refused why) is = is
unserved_unclosed text node rest bytes NoRecord is = absurd is

pub unended_unclosed : (text : List ℕ) (node : Node) (rest : Option (List ℕ)) (bytes : List ℕ) (why : TurnFault) → IsUnended text node rest bytes why → IsUnclosed text node rest bytes why
unended_unclosed text node rest bytes OutOfMemory is = tt
unended_unclosed text node rest bytes (Refused why) is = absurd is
unended_unclosed text node rest bytes NoRecord is = is

pub unclosed_unturned : (text : List ℕ) (node : Node) (rest : Option (List ℕ)) (bytes : List ℕ) (why : TurnFault) → IsUnclosed text node rest bytes why → IsUnturned text node rest bytes why
unclosed_unturned text node rest bytes OutOfMemory is = tt
unclosed_unturned text node rest bytes (Refused why) is = is
unclosed_unturned text node rest bytes NoRecord is = inl is

-- ---- settings by their document

-- why a world does not take what a document has
fault_of : Document → Option WorldFault
fault_of d = option_or (option_map named (settings_fault d.world)) (option_map world_fault_is.BadRoute (first_fault (length d.world.payers) d.routes))

fault_is : (s : WorldSettings) → world_fault s ≡ fault_of (document_seen s)
unfolding fault_of
fault_is s = ap (λ (n : ℕ). option_or (option_map named (settings_fault (settings_seen s))) (option_map world_fault_is.BadRoute (first_fault n s.routes.items))) (sym (length-map s.payers.items payer_seen))

same_fault : (a b : WorldSettings) → document_seen a ≡ document_seen b → world_fault a ≡ world_fault b
same_fault a b same = fault_is a ∙ (ap fault_of same ∙ sym (fault_is b))

same_begin : (a b : WorldSettings) (node : Node) (rest : List ℕ) → document_seen a ≡ document_seen b → begins a node (Some rest) ≡ begins b node (Some rest)
same_begin a b node rest same = ap (λ (d : Document). begun_from d.world node (rest_in rest)) same

-- ---- a node that is resumed is there

pharmacy_at : (m number : ℕ) (ps : List PharmacySettings) (k : ℕ) (bytes : List ℕ) (b : AnyNode) → resumed_pharmacy number bytes (slice_get ps k) ≡ Some b
    → is_some (option_map OfPharmacy (slice_get (pharmacies_from m ps) k)) ≡ true
pharmacy_at m number [] k bytes b is = absurd cc
pharmacy_at m number (p ∷ ps) zero bytes b is = refl
pharmacy_at m number (p ∷ ps) (suc k) bytes b is = pharmacy_at (m + 1) number ps k bytes b is

none_resumes : (bytes : List ℕ) → resumed_switch bytes None ≡ None
none_resumes [] = refl
none_resumes (byte ∷ bytes) = refl

switch_at : (caps : List ℕ) (k : ℕ) (bytes : List ℕ) (b : AnyNode) → resumed_switch bytes (slice_get caps k) ≡ Some b → is_some (option_map OfSwitch (slice_get (switches_of caps) k)) ≡ true
switch_at [] k bytes b is = let none = none_resumes bytes in absurd cc
switch_at (cap ∷ caps) zero bytes b is = refl
switch_at (cap ∷ caps) (suc k) bytes b is = switch_at caps k bytes b is

payer_at : (m number : ℕ) (ps : List model.PayerSettings) (k : ℕ) (bytes : List ℕ) (b : AnyNode) → resumed_payer number bytes (slice_get ps k) ≡ Some b
    → is_some (option_map OfPayer (slice_get (payers_from m ps) k)) ≡ true
payer_at m number [] k bytes b is = absurd cc
payer_at m number (p ∷ ps) zero bytes b is = refl
payer_at m number (p ∷ ps) (suc k) bytes b is = payer_at (m + 1) number ps k bytes b is

resumed_there : (s : model.WorldSettings) (node : Node) (bytes : List ℕ) (b : AnyNode) → resumed s node bytes ≡ Some b → is_there s node ≡ true
resumed_there s (Pharmacy zero) bytes b is = absurd cc
resumed_there s (Pharmacy (suc k)) bytes b is = pharmacy_at 1 (suc k) s.pharmacies k bytes b is
resumed_there s (Switch zero) bytes b is = let none = none_resumes bytes in absurd cc
resumed_there s (Switch (suc k)) bytes b is = switch_at s.switches k bytes b is
resumed_there s (Payer zero) bytes b is = absurd cc
resumed_there s (Payer (suc k)) bytes b is = payer_at 1 (suc k) s.payers k bytes b is

begun_there : (s : model.WorldSettings) (node : Node) (o : Option Rest) (b : AnyNode) → begun_from s node o ≡ Some b → is_there s node ≡ true
begun_there s node None b is = absurd cc
begun_there s node (Some r) b is = by_own (same_node r.node node) is
  where
    by_own : (own : Bool) → cond own (resumed s node r.kept) None ≡ Some b → is_there s node ≡ true
    by_own true is = resumed_there s node r.kept b is
    by_own false is = absurd cc

-- ---- the log that goes on is not refused

none_logged : (digest : List ℕ) → log_in digest [] ≡ Err Short
unfolding log_in
none_logged digest = ap calls_alone (none_read digest)

unserved_none : (digest : List ℕ) (s : WorldSettings) (node : Node) (rest : Option (List ℕ)) (why : ServiceFault) → why ≢ service_fault.OutOfMemory → IsLogRefused digest s node rest [] why → ⊥
unserved_none digest s node rest service_fault.OutOfMemory some is = some refl
unserved_none digest s node rest service_fault.Settings some is = is
unserved_none digest s node rest service_fault.NoSuchNode some is = is
unserved_none digest s node rest service_fault.Rest some is = is
unserved_none digest s node rest (service_fault.Log fault) some is =
    let short : ◌≡◌ {A = Result Reading LogFault} (Err Short) (Err fault) = sym (none_logged digest) ∙ is.1 in
    is.0 (let same : fault ≡ Short = cc in same)
unserved_none digest s node rest service_fault.OtherNode some is =
    let wrong : ◌≡◌ {A = Result Reading LogFault} (Err Short) (Ok is.read) = sym (none_logged digest) ∙ is.reads in absurd cc
unserved_none digest s node rest (service_fault.NotMade place) some is =
    let wrong : ◌≡◌ {A = Result KeptReading LogFault} (Err Short) (Ok (record { log = is.log; whole = is.whole })) = sym (none_read digest) ∙ is.reads in absurd cc

same_document : (text : List ℕ) (a b : WorldSettings) → living_in text ≡ Some (document_seen a) → living_in text ≡ Some (document_seen b) → document_seen a ≡ document_seen b
same_document text a b one other = same_some (document_seen a) (document_seen b) (sym one ∙ other)

not_refused : (text : List ℕ) (node : Node) (rest : List ℕ) (why : ServiceFault) → CanGoOn text node rest → why ≢ service_fault.OutOfMemory → IsRefused text node (Some rest) [] why → ⊥
not_refused text node rest service_fault.OutOfMemory g some is = some refl
not_refused text node rest service_fault.Settings g some (inl none) = let spelled = g.spells.spelled in absurd cc
not_refused text node rest service_fault.Settings g some (inr (cause, w)) =
    let same = same_fault w.settings g.settings (same_document text w.settings g.settings w.spelled g.spells.spelled) in
    let wrong : ◌≡◌ {A = Option WorldFault} (Some cause) None = sym w.refused ∙ (same ∙ g.spells.taken) in absurd cc
not_refused text node rest service_fault.NoSuchNode g some is =
    let same = same_document text is.settings g.settings is.spells.spelled g.spells.spelled in
    let there : is_there (settings_seen g.settings) node ≡ true = begun_there (settings_seen g.settings) node (rest_in rest) g.begins_with g.goes_on in
    let wrong : false ≡ true = sym is.absent ∙ (ap (λ (d : Document). is_there d.world node) same ∙ there) in absurd cc
not_refused text node rest service_fault.Rest g some is =
    let same = same_begin is.settings g.settings node rest (same_document text is.settings g.settings is.spells.spelled g.spells.spelled) in
    let wrong : ◌≡◌ {A = Option AnyNode} None (Some g.begins_with) = sym is.none ∙ (same ∙ g.goes_on) in absurd cc
not_refused text node rest (service_fault.Log fault) g some is = unserved_none (turned_under text (Some rest) []) is.settings node (Some rest) (service_fault.Log fault) some is.refused
not_refused text node rest service_fault.OtherNode g some is = unserved_none (turned_under text (Some rest) []) is.settings node (Some rest) service_fault.OtherNode some is.refused
not_refused text node rest (service_fault.NotMade place) g some is = unserved_none (turned_under text (Some rest) []) is.settings node (Some rest) (service_fault.NotMade place) some is.refused

pub goes_nowhere : (text : List ℕ) (node : Node) (rest : List ℕ) (why : TurnFault) → CanGoOn text node rest → IsUnserved text node (Some rest) [] why → why ≡ OutOfMemory
goes_nowhere text node rest OutOfMemory g is = refl
goes_nowhere text node rest (Refused why) g is = absurd (not_refused text node rest why g is.0 is.1)
goes_nowhere text node rest NoRecord g is = absurd is
