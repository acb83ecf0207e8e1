-- A node is refused for what one step on the way to it says.
use Rattle.std.proofs.Common.{rules, ◌≡◌, ◌⊎◌, inl, inr, ℕ, zero, suc, ◌≤◌, length, [], ◌∷◌, Option, Result, Err, true, List, Some, Ok, refl, sym, ap, ◌∙◌, subst}
use Rattle.std.specs.Prelude.{IsSome}
use Rattle.std.proofs.Math.Nat.{suc-le-suc_iff}
use Rattle.claim_model.specs.Context.{Context}
use Rattle.claim_model.specs.Node.{Node, Outcome, Done, Refused, Sent}
use Rattle.claim_model.specs.Nodes.{AnyNode, node_step, same_node}
use Rattle.claim_model.specs.Logs.{Logged, Makes}
use Rattle.claim_model.proofs.Names.{same_is}
use Rattle.claim_model.proofs.Options.{same_some}
use Rattle.world_setup.specs.Seen.{settings_seen}
use Rattle.world_setup.specs.declared.settings.WorldSettings.{WorldSettings}
use Rattle.world_settings.specs.Checked.{IsUntaken}
use Rattle.world_settings.specs.declared.fault.Untaken.{Untaken}
use Rattle.world_settings.specs.declared.fault.Untaken.TheVariants as untaken
use Rattle.node_log.specs.ExistingNodes.{is_there}
use Rattle.node_log.specs.Fits.{FitsBy}
use Rattle.node_log.specs.Misfits.{BreaksAt}
use Rattle.node_logged.specs.Setting.{context_of}
use Rattle.kept_logs.specs.declared.fault.LogFault.{LogFault}
use Rattle.kept_logs.specs.Stamps.{Stamped, bare_calls}
use Rattle.kept_logs.specs.Logs.{KeptReading, Reading, alone, calls_alone, kept_in, kept_text, log_in}
use Rattle.kept_logs.specs.Cuts.{first_calls}
use Rattle.kept_logs.specs.Rests.{begins}
use Rattle.settings_digest.specs.Digests.{turned_under}
use Rattle.node_service.specs.declared.fault.ServiceFault.{ServiceFault}
use Rattle.node_service.specs.declared.fault.ServiceFault.TheVariants.{OutOfMemory, Settings, NoSuchNode, Rest, Log, OtherNode, NotMade}
use Rattle.node_service.specs.Opened.{Spells, IsUnmade}
use Rattle.node_service.specs.Refused.{BreaksOff, NoSettings, untaken_said, IsUnserved, IsRefused}

-- no settings are taken
pub no_settings : (text : List ℕ) (why : Untaken) → IsUntaken text why → NoSettings text (untaken_said why)
no_settings text untaken.OutOfMemory is = tt
no_settings text untaken.Settings is = inl is
no_settings text (untaken.World why) is = inr (why, is)

-- the settings are refused
pub settings_refused : (text : List ℕ) (node : Node) (rest : Option (List ℕ)) (bytes : List ℕ) (why : ServiceFault) → NoSettings text why → IsRefused text node rest bytes why
settings_refused text node rest bytes OutOfMemory is = tt
settings_refused text node rest bytes Settings is = is
settings_refused text node rest bytes NoSuchNode is = absurd is
settings_refused text node rest bytes Rest is = absurd is
settings_refused text node rest bytes (Log f) is = absurd is
settings_refused text node rest bytes OtherNode is = absurd is
settings_refused text node rest bytes (NotMade n) is = absurd is

-- the log is refused
pub log_refused : (text : List ℕ) (node : Node) (rest : Option (List ℕ)) (bytes : List ℕ) (s : WorldSettings) (why : ServiceFault) → Spells text s → is_there (settings_seen s) node ≡ true → IsSome (begins s node rest)
    → IsUnserved (turned_under text rest bytes) s node rest bytes why → IsRefused text node rest bytes why
log_refused text node rest bytes s OutOfMemory spells there some found = tt
log_refused text node rest bytes s Settings spells there some found = absurd found
log_refused text node rest bytes s NoSuchNode spells there some found = absurd found
log_refused text node rest bytes s Rest spells there some found = absurd found
log_refused text node rest bytes s (Log f) spells there some found = record { settings = s; spells = spells; there = there; some = some; refused = found }
log_refused text node rest bytes s OtherNode spells there some found = record { settings = s; spells = spells; there = there; some = some; refused = found }
log_refused text node rest bytes s (NotMade n) spells there some found = record { settings = s; spells = spells; there = there; some = some; refused = found }

-- a call that breaks stands among the calls
by_step : (P : AnyNode → Type 0) (sent : List Sent) (o : Outcome AnyNode) (R : Type 0) → ((after : AnyNode) → P after → R) → FitsBy P sent o → R
by_step P sent (Done after out) R go fits = go after fits.1
by_step P sent (Refused why) R go fits = absurd fits

pub breaks_within : (ctx : Context) (s : AnyNode) (calls : List Logged) (place : ℕ) → BreaksAt ctx s calls place → place ≤ length calls
breaks_within ctx s [] place breaks = absurd breaks
breaks_within ctx s (r ∷ more) zero breaks = search rules
breaks_within ctx s (r ∷ more) (suc place) breaks =
    by_step (λ after. BreaksAt ctx after more place) r.sent (node_step ctx s r.call) (suc place ≤ suc (length more))
    (λ after more_breaks. suc-le-suc_iff.1 (breaks_within ctx after more place more_breaks)) breaks

-- a log that was read without what was noted was read with that
kept_of : (digest bytes : List ℕ) (read : Reading) → log_in digest bytes ≡ Ok read → (k : KeptReading) × (kept_in digest bytes ≡ Ok k) × (alone k ≡ read)
unfolding log_in
kept_of digest bytes read h = by_reading (kept_in digest bytes) refl h
  where
    by_reading : (r : Result KeptReading LogFault) → kept_in digest bytes ≡ r → calls_alone r ≡ Ok read → (k : KeptReading) × (kept_in digest bytes ≡ Ok k) × (alone k ≡ read)
    by_reading (Ok k) e h = let same : alone k ≡ read = cc in (k, e, same)
    by_reading (Err why) e h = cc

length_bare : (calls : List Stamped) → length (bare_calls calls) ≡ length calls
length_bare [] = refl
length_bare (r ∷ calls) = ap suc (length_bare calls)

-- the node does not make the call after this many, whose record is at the place after them
pub breaks_off : (digest : List ℕ) (settings : WorldSettings) (node : Node) (rest : Option (List ℕ)) (bytes : List ℕ) (read : Reading) (before : AnyNode) (count place : ℕ) → log_in digest bytes ≡ Ok read → same_node read.log.node node ≡ true
    → begins settings node rest ≡ Some before → BreaksAt (context_of settings) before read.log.calls count
    → ((k : KeptReading) → kept_in digest bytes ≡ Ok k → count ≤ length k.log.calls → place ≡ length (kept_text digest (first_calls count k.log))) → BreaksOff digest settings node rest bytes place
breaks_off digest settings node rest bytes read before count place reads same starts breaks at =
    let k = kept_of digest bytes read reads in
    let own : k.0.log.node ≡ node = ap (λ (r : Reading). r.log.node) k.2 ∙ same_is read.log.node node same in
    let calls : read.log.calls ≡ bare_calls k.0.log.calls = ap (λ (r : Reading). r.log.calls) (sym k.2) in
    let here : BreaksAt (context_of settings) before (bare_calls k.0.log.calls) count = subst (λ (cs : List Logged). BreaksAt (context_of settings) before cs count) calls breaks in
    let within : count ≤ length k.0.log.calls = subst (λ n. count ≤ n) (length_bare k.0.log.calls) (breaks_within (context_of settings) before (bare_calls k.0.log.calls) count here) in
    record {
      log = k.0.log;
      whole = k.0.whole;
      own = own;
      reads = k.1;
      breaks = record { before = before; opens = ap (λ (n : Node). begins settings n rest) own ∙ starts; count = count; breaks = here; is = at k.0 k.1 within };
    }

-- a node does not make a log that it does not make
pub never_made : (settings : WorldSettings) (node : Node) (rest : Option (List ℕ)) (read : Reading) (before : AnyNode) → same_node read.log.node node ≡ true → begins settings node rest ≡ Some before
    → IsUnmade settings node rest (Ok read) → Makes (context_of settings) before read.log.calls → ⊥
never_made settings node rest read before same starts unmade makes =
    unmade (same_is read.log.node node same) (λ other too. subst (λ (b : AnyNode). Makes (context_of settings) b read.log.calls) (same_some before other (sym starts ∙ too)) makes)
