-- A node that made its log as it was read is opened as one whose log was read first.
use Rattle.std.proofs.Common.{◌≡◌, ℕ, List, [], ◌∷◌, ◌++◌, length, take, Option, Some, None, IfSome, option_map, Result, Ok, Err, inl, inr, refl, sym, ap, ◌∙◌, subst, append-nil}
use Rattle.claim_model.specs.Node.{Node}
use Rattle.claim_model.specs.Nodes.{AnyNode}
use Rattle.claim_model.specs.Logs.{Makes, replay}
use Rattle.world_setup.specs.declared.settings.WorldSettings.{WorldSettings}
use Rattle.node_logged.specs.Setting.{context_of}
use Rattle.kept_logs.specs.declared.fault.LogFault.{LogFault}
use Rattle.kept_logs.specs.declared.making.MadeLog.{MadeLog}
use Rattle.kept_logs.specs.declared.rests.Beginning.{Beginning}
use Rattle.kept_logs.specs.Cuts.{IsLogOf}
use Rattle.kept_logs.specs.Digests.{version_of}
use Rattle.kept_logs.specs.Logs.{KeptReading, Reading, calls_alone, kept_in, kept_text, log_in}
use Rattle.kept_logs.specs.Stamps.{bare_calls}
use Rattle.kept_logs.specs.References.{Reference}
use Rattle.kept_logs.specs.declared.fault.LogFault.TheVariants.{Short}
use Rattle.kept_logs.specs.Making.{IsMadeIf, IsNotMade}
use Rattle.kept_logs.specs.Rests.{begins, references_before}
use Rattle.settings_digest.specs.Digests.{turned_under}
use Rattle.node_service.specs.Serving.{Serving}
use Rattle.node_service.specs.Opened.{IsBegunAs, IsOpened, IsRead, IsServedAs, IsUnmade, Spells, empty_log, referred_from}

front_of : {A : Type 0} (xs ys : List A) → take (length xs) (xs ++ ys) ≡ xs
front_of [] ys = refl
front_of (x ∷ xs) ys = ap (λ r. x ∷ r) (front_of xs ys)

abbrev in_some : AnyNode → Option AnyNode → AnyNode
in_some a None = a
in_some a (Some b) = b

-- what the node does not make from what its log begins with it does not make
unmade_by : (settings : WorldSettings) (rest : Option (List ℕ)) (node : Node) (before : AnyNode) (reading : Result Reading LogFault) → begins settings node rest ≡ Some before → IsNotMade (context_of settings) before node reading → IsUnmade settings node rest reading
unmade_by settings rest node before (Ok read) starts none = λ own all. none own (all before starts)
unmade_by settings rest node before (Err why) starts none = tt

-- the log was read and made
pub is_read : (settings : WorldSettings) (rest : Option (List ℕ)) (digest : List ℕ) (node : Node) (bytes : List ℕ) (before : AnyNode) (made : Option MadeLog) → begins settings node rest ≡ Some before
    → IsMadeIf (context_of settings) before digest node bytes made → ((read : KeptReading) → kept_in digest bytes ≡ Ok read → IsLogOf digest bytes read) → IsRead settings rest digest node bytes made
is_read settings rest digest node bytes before None starts is found = unmade_by settings rest node before (log_in digest bytes) starts is
is_read settings rest digest node bytes before (Some made) starts is found =
    let log_is = found (record { log = is.log; whole = made.whole }) is.read in
    record {
      log = is.log;
      own = is.own;
      read = is.read;
      text = ap (λ bs. take made.whole bs) log_is.is ∙ ap (λ n. take n (kept_text digest is.log ++ log_is.torn)) log_is.whole ∙ front_of (kept_text digest is.log) log_is.torn;
      fits = log_is.fits;
      calls = sym is.count;
      makes = λ other starts_too. subst (λ b. Makes (context_of settings) b (bare_calls is.log.calls)) (ap (in_some before) (sym starts ∙ starts_too)) is.makes;
      state = ap (option_map (λ n. replay (context_of settings) n (bare_calls is.log.calls))) starts ∙ ap Some (sym is.leads);
      referred = is.referred ∙ ap (λ (b : Option AnyNode). referred_from (context_of settings) b is.log.calls) (sym starts);
    }

-- the node that is served is opened
pub is_opened : (text : List ℕ) (settings : WorldSettings) (node : Node) (rest : Option (List ℕ)) (bytes : List ℕ) (before : List Reference) (made : MadeLog) (stay : ℕ) (s : Serving)
    → Spells text settings → before ≡ references_before rest → IsRead settings rest (turned_under text rest bytes) node bytes (Some made) → IsServedAs settings node (version_of (turned_under text rest bytes)) before made stay s → IsOpened text node rest bytes stay s
is_opened text settings node rest bytes before made stay s spells known is served = record {
  spells = rw served.own spells;
  named = served.named;
  version = served.version;
  log = is.log;
  own = is.own;
  begun = inl (rw served.stays is.read, served.append);
  text = rw (served.stays, served.append) (append-nil _ ∙ is.text);
  fits = is.fits;
  calls = served.calls ∙ is.calls;
  makes = rw served.own is.makes;
  state = rw (served.own, served.state) is.state;
  references = rw served.own (served.references ∙ (ap (λ rs. rs ++ made.references.items) known ∙ ap (λ rs. references_before rest ++ rs) is.referred));
  silent = served.silent;
}

-- what it begins with was found, its log was made as it was read, and it is served: so it is opened
pub is_opened_from : (text : List ℕ) (settings : WorldSettings) (node : Node) (rest : Option (List ℕ)) (bytes digest : List ℕ) (found : Option Beginning) (b : Beginning) (read : Option MadeLog) (made : MadeLog) (log_version stay : ℕ) (s : Serving)
    → Spells text settings → digest ≡ turned_under text rest bytes
    → option_map (λ (x : Beginning). x.node) found ≡ begins settings node rest → IfSome found (λ (x : Beginning). x.references.items ≡ references_before rest) → found ≡ Some b
    → ((r : Option (List ℕ)) → begins settings node r ≡ Some b.node → IsRead settings r digest node bytes read) → read ≡ Some made
    → log_version ≡ version_of digest → IsServedAs settings node log_version b.references.items made stay s → IsOpened text node rest bytes stay s
is_opened_from text settings node rest bytes digest found b read made log_version stay s spells turned starts references is_found reads is_read_as versioned served =
    let known : b.references.items ≡ references_before rest = subst (λ (o : Option Beginning). IfSome o (λ (x : Beginning). x.references.items ≡ references_before rest)) is_found references in
    let begun : begins settings node rest ≡ Some b.node = sym starts ∙ ap (option_map (λ (x : Beginning). x.node)) is_found in
    let is : IsRead settings rest digest node bytes (Some made) = subst (λ (o : Option MadeLog). IsRead settings rest digest node bytes o) is_read_as (reads rest begun) in
    is_opened text settings node rest bytes b.references.items made stay s spells known
    (subst (λ (d : List ℕ). IsRead settings rest d node bytes (Some made)) turned is)
    (subst (λ (v : ℕ). IsServedAs settings node v b.references.items made stay s) (versioned ∙ ap version_of turned) served)

-- too few bytes for a log, its times and references aside, are too few with them
unread_short : (digest bytes : List ℕ) → log_in digest bytes ≡ Err Short → kept_in digest bytes ≡ Err Short
unfolding log_in
unread_short digest bytes h = by_reading (kept_in digest bytes) h
  where
    by_reading : (r : Result KeptReading LogFault) → calls_alone r ≡ Err Short → r ≡ Err Short
    by_reading (Ok read) h = cc
    by_reading (Err why) h = let e : why ≡ Short = cc in ap (λ (w : LogFault). Err w) e

-- a log that begins is opened
pub is_begun : (text : List ℕ) (settings : WorldSettings) (node : Node) (rest : Option (List ℕ)) (bytes : List ℕ) (stay : ℕ) (s : Serving)
    → Spells text settings → IsBegunAs settings (turned_under text rest bytes) node rest bytes stay s → IsOpened text node rest bytes stay s
is_begun text settings node rest bytes stay s spells is = record {
  spells = rw is.new.own spells;
  named = is.new.named;
  version = is.new.version;
  log = empty_log node;
  own = refl;
  begun = inr (unread_short (turned_under text rest bytes) bytes is.short, (refl, (is.none, is.new.append)));
  text = rw (is.none) is.new.append;
  fits = is.new.fits;
  calls = is.new.calls;
  makes = λ before starts. tt;
  state = rw is.new.own (ap (option_map (λ (n : AnyNode). n)) is.new.state);
  references = rw is.new.own (is.new.references ∙ sym (nothing_more (references_before rest) (begins settings node rest)));
  silent = is.new.silent;
}
  where
    nothing_more : (refs : List Reference) (b : Option AnyNode) → refs ++ referred_from (context_of settings) b [] ≡ refs
    nothing_more refs None = append-nil refs
    nothing_more refs (Some before) = append-nil refs
