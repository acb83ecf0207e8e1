-- What a log and the lines of an input leave together is the text of a log.
use Rattle.std.proofs.Common.{◌≡◌, ℕ, List, ◌++◌, take, Option, Some, None, sym, ap, ◌∙◌, subst}
use Rattle.claim_model.specs.Bytes.{bytes_with}
use Rattle.claim_model.specs.Context.{Context}
use Rattle.claim_model.specs.Node.{Node}
use Rattle.claim_model.specs.Nodes.{AnyNode, node_at}
use Rattle.claim_model.specs.Settings.{opening}
use Rattle.claim_model.specs.Logs.{replay, Makes as MakesLog}
use Rattle.claim_model.proofs.Options.{map_some, same_some}
use Rattle.world_setup.specs.declared.settings.WorldSettings.{WorldSettings as Settings}
use Rattle.world_settings.specs.Document.{Document, document_seen}
use Rattle.node_logged.specs.Setting.{context_of}
use Rattle.kept_logs.specs.Stamps.{Stamped, bare_calls}
use Rattle.kept_logs.specs.Logs.{kept_text}
use Rattle.kept_logs.specs.Fits.{FitsKept}
use Rattle.kept_logs.specs.Rests.{rest_in, begun_from, begins}
use Rattle.node_service.specs.Serving.{Serving}
use Rattle.node_service.specs.Lines.{lines_kept, IsServing}
use Rattle.node_service.specs.Opened.{Spells, IsOpened}
use Rattle.settings_digest.specs.Digests.{turned_under}
use Rattle.node_service.proofs.Lines.{is_opened_serving, lines_serve}
use Rattle.node_process.specs.Heard.{whole_lines}
use Rattle.node_process.specs.Safe.{asked, log_of, FitsInput, Whose}
use Rattle.node_process.proofs.Remembering.{lines_settings}
use Rattle.world_setup.specs.Taken.{routes_with}

-- what a log begins with, and how its node reads bytes, hang on the document alone
pub same_begin : (a b : Settings) (node : Node) (rest : Option (List ℕ)) → document_seen a ≡ document_seen b → begins a node rest ≡ begins b node rest
same_begin a b node None same = ap (λ (d : Document). node_at (opening d.world) node) same
same_begin a b node (Some rest) same = ap (λ (d : Document). begun_from d.world node (rest_in rest)) same

pub same_context : (a b : Settings) → document_seen a ≡ document_seen b → context_of a ≡ context_of b
same_context a b same = ap (λ (d : Document). bytes_with (routes_with d.world d.routes)) same

-- bytes are the text of a log of these records, whose calls its node makes
pub record IsMadeText (whose : Whose) (digest : List ℕ) (settings : Settings) (bytes : List ℕ) (calls : List Stamped) : Type 0 where
  pub text : bytes ≡ kept_text digest (record { node = whose.node; calls = calls })
  pub fits : FitsKept (record { node = whose.node; calls = calls })
  pub before : AnyNode
  pub opens : begins settings whose.node whose.rest ≡ Some before
  pub makes : MakesLog (context_of settings) before (bare_calls calls)

pub input_text : (whose : Whose) (digest : List ℕ) (settings : Settings) (bytes : List ℕ) (whole : ℕ) (start : Serving) (input : List ℕ) → Spells whose.settings settings → turned_under whose.settings whose.rest bytes ≡ digest → (o : IsOpened whose.settings whose.node whose.rest bytes whole start) → FitsInput start input
    → IsMadeText whose digest settings (log_of start (take whole bytes) input) (o.log.calls ++ lines_kept start (whole_lines input))
input_text whose digest settings bytes whole start input spells second o fits =
    let log = o.log in
    let calls = log.calls ++ lines_kept start (whole_lines input) in
    let opened = is_opened_serving whose.settings whose.node whose.rest bytes whole start o in
    let i = lines_serve whose.rest digest (take whole bytes) log start (whole_lines input) (subst (λ (x : List ℕ). IsServing whose.rest x (take whole bytes) log start) second opened) fits in
    let own : log.node ≡ whose.node = o.own in
    let there = (asked start input).settings in
    let same : document_seen there ≡ document_seen settings =
    ap document_seen (lines_settings start (whole_lines input)) ∙ same_some (document_seen start.settings) (document_seen settings) (sym o.spells.spelled ∙ spells.spelled) in
    let first = map_some (λ (n : AnyNode). replay (context_of there) n (bare_calls calls)) (begins there log.node whose.rest) (asked start input).state i.state in
    let opens : begins settings whose.node whose.rest ≡ Some first.0 =
    sym (same_begin there settings whose.node whose.rest same) ∙ (sym (ap (λ (n : Node). begins there n whose.rest) own) ∙ first.1) in
    record {
      text = i.text ∙ ap (λ (n : Node). kept_text digest (record { node = n; calls = calls })) own;
      fits = subst (λ (n : Node). FitsKept (record { node = n; calls = calls })) own i.fits;
      before = first.0;
      opens = opens;
      makes = subst (λ (ctx : Context). MakesLog ctx first.0 (bare_calls calls)) (same_context there settings same) (i.makes first.0 first.1);
    }
