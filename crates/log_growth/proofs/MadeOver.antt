-- What the theorems on settings that grow say of a log is what its start says.
use Rattle.std.proofs.Common.{◌≡◌, ℕ, zero, suc, List, [], ◌∷◌, length, Option, Some, None, Ok, Result, refl, sym, ap, ◌∙◌, subst}
use Rattle.settings_digest.specs.Digests.{digest_in, digest_under}
use Rattle.settings_digest.proofs.Keeping.{keeps_new}
use Rattle.claim_model.specs.Context.{Context}
use Rattle.claim_model.specs.Node.{Sent, Outcome, Done, Refused}
use Rattle.claim_model.specs.Settings.{opening}
use Rattle.claim_model.specs.Nodes.{AnyNode, node_step, node_at}
use Rattle.claim_model.specs.Logs.{Logged, node_after, Makes}
use Rattle.claim_model.specs.Bytes.{bytes_with}
use Rattle.world_setup.specs.Seen.{settings_seen}
use Rattle.world_setup.specs.declared.settings.WorldSettings.{WorldSettings}
use Rattle.world_settings.specs.Document.{Document, document_seen}
use Rattle.node_log.specs.Fits.{FitsBy}
use Rattle.node_log.specs.Misfits.{BreaksAt}
use Rattle.kept_logs.specs.declared.fault.LogFault.{LogFault}
use Rattle.kept_logs.specs.Stamps.{KeptLog, bare_calls}
use Rattle.kept_logs.specs.Logs.{KeptReading, kept_text, kept_in, KeptAs}
use Rattle.node_service.specs.Opened.{Spells}
use Rattle.node_service.specs.Refused.{IsRefused, IsUnserved}
use Rattle.node_service.specs.declared.fault.ServiceFault.TheVariants.{NotMade}
use Rattle.settings_growth.specs.Growth.{with_cap}
use Rattle.settings_growth.specs.GoingOver.{GoesOver}
use Rattle.settings_growth.proofs.Replayed.{goes_over, goes_over_lasting}
use Rattle.log_growth.specs.Compared.{reading_of}
use Rattle.log_growth.proofs.Among.{more_switches}
use Rattle.log_growth.specs.OlderLogs.{WasMade, WasMadeWithRoutes}
use Rattle.world_setup.specs.Taken.{routes_in, routes_with}

-- a log that is made breaks nowhere

breaks_by : (ctx : Context) (more : List Logged) (place : ℕ) (sent : List Sent) (o : Outcome AnyNode) (after : AnyNode) → o ≡ Done after sent → (BreaksAt ctx after more place → ⊥) → FitsBy (λ (next : AnyNode). BreaksAt ctx next more place) sent o → ⊥
breaks_by ctx more place sent (Refused why) after e unbroken f = absurd cc
breaks_by ctx more place sent (Done next out) after e unbroken f = let same : next ≡ after = cc in unbroken (subst (λ (n : AnyNode). BreaksAt ctx n more place) same f.1)

unbroken : (ctx : Context) (node : AnyNode) (calls : List Logged) (place : ℕ) → Makes ctx node calls → BreaksAt ctx node calls place → ⊥
unbroken ctx node [] place m b = absurd b
unbroken ctx node (r ∷ calls) zero m b = b (node_after node (node_step ctx node r.call)) m.0
unbroken ctx node (r ∷ calls) (suc place) m b =
    breaks_by ctx calls place r.sent (node_step ctx node r.call) (node_after node (node_step ctx node r.call)) m.0 (unbroken ctx (node_after node (node_step ctx node r.call)) calls place m.1) b

-- two readings of one text are one

same_document : (a b : Document) → ◌≡◌ {A = Option Document} (Some a) (Some b) → a ≡ b
same_document a b e = cc

same_reading : (a b : KeptReading) → ◌≡◌ {A = Result KeptReading LogFault} (Ok a) (Ok b) → a ≡ b
same_reading a b e = cc

abbrev context_in : Document → Context
context_in d = bytes_with (routes_with d.world d.routes)

-- a log that goes over to the settings that the text spells
record Goes (text : List ℕ) (log : KeptLog) : Type 0 where
  before : WorldSettings
  after : WorldSettings
  spells : Spells text after
  node : AnyNode
  over : GoesOver (reading_of before) (reading_of after) (settings_seen after) log.node node (bare_calls log.calls)
  back : KeptAs (digest_in text) (kept_text (digest_in text) log) log

-- under the settings of the refusal the log is made

made_under : (text : List ℕ) (log : KeptLog) (w : Goes text log) (t : WorldSettings) → Spells text t → (before : AnyNode) → node_at (opening (settings_seen t)) log.node ≡ Some before → Makes (bytes_with (routes_in t)) before (bare_calls log.calls)
made_under text log w t s before opens =
    let d = same_document (document_seen w.after) (document_seen t) (sym w.spells.spelled ∙ s.spelled) in
    let g = w.over in
    let there : ◌≡◌ {A = Option AnyNode} (Some (with_cap g.cap w.node)) (Some before) = sym g.opens ∙ (ap (λ (x : Document). node_at (opening x.world) log.node) d ∙ opens) in
    let same : with_cap g.cap w.node ≡ before = cc in
    subst (λ (x : Document). Makes (context_in x) before (bare_calls log.calls)) d (subst (λ (n : AnyNode). Makes (context_in (document_seen w.after)) n (bare_calls log.calls)) same g.makes)

refuted : (text : List ℕ) (log : KeptLog) (place : ℕ) (settings : WorldSettings) → Goes text log → Spells text settings → IsUnserved (digest_under text (kept_text (digest_in text) log)) settings log.node None (kept_text (digest_in text) log) (NotMade place) → ⊥
refuted text log place settings w spells r =
    let digest = digest_in text in
    let bytes = kept_text digest log in
    let own : digest_under text bytes ≡ digest = keeps_new text log in
    let reads : kept_in digest bytes ≡ Ok (record { log = r.log; whole = r.whole }) = ap (λ (x : List ℕ). kept_in x bytes) (sym own) ∙ r.reads in
    let is : r.log ≡ log = ap (λ (k : KeptReading). k.log) (same_reading (record { log = r.log; whole = r.whole }) (record { log = log; whole = length bytes }) (sym reads ∙ w.back)) in
    let opens = ap (λ (l : KeptLog). node_at (opening (settings_seen settings)) l.node) (sym is) ∙ r.breaks.opens in
    unbroken (bytes_with (routes_in settings)) r.breaks.before (bare_calls log.calls) r.breaks.count (made_under text log w settings spells r.breaks.before opens)
    (subst (λ (l : KeptLog). BreaksAt (bytes_with (routes_in settings)) r.breaks.before (bare_calls l.calls) r.breaks.count) is r.breaks.breaks)

pub never_refused : (text : List ℕ) (log : KeptLog) (place : ℕ) → WasMade text log → IsRefused text log.node None (kept_text (digest_in text) log) (NotMade place) → ⊥
never_refused text log place w r =
    let over = goes_over (reading_of w.before) (reading_of w.after) (settings_seen w.before) (settings_seen w.after) log.node w.node (bare_calls log.calls) w.grows w.opens w.stays w.makes in
    refuted text log place r.settings (record { before = w.before; after = w.after; spells = w.spells; node = w.node; over = over; back = w.back }) r.spells r.refused

pub never_refused_with_routes : (text : List ℕ) (log : KeptLog) (place : ℕ) → WasMadeWithRoutes text log → IsRefused text log.node None (kept_text (digest_in text) log) (NotMade place) → ⊥
never_refused_with_routes text log place w r =
    let over = goes_over_lasting (reading_of w.before) (reading_of w.after) (settings_seen w.before) (settings_seen w.after) log.node w.node (bare_calls log.calls) refl (more_switches w.before w.after w.grows.switches) w.grows w.opens w.last w.stays w.makes in
    refuted text log place r.settings (record { before = w.before; after = w.after; spells = w.spells; node = w.node; over = over; back = w.back }) r.spells r.refused
