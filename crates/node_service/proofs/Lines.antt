-- What lines add, and the logs that they leave.
use Rattle.std.proofs.Common.{◌≡◌, ℕ, suc, ◌+◌, Bool, true, false, cond, List, [], ◌∷◌, ◌++◌, length, take, Option, Some, None, Result, Ok, Err, refl, sym, ap, ◌∙◌, subst, ◌⊎◌, inl, inr, arith, append_assoc, append-nil, length-append}
use Rattle.std.specs.Prelude.{option_map, codes}
use Rattle.std.specs.List.{AllByRecursion}
use Rattle.settings_digest.specs.Digests.{turned_under}
use Rattle.settings_digest.proofs.Keeping.{turned_keeps, turned_length}
use Rattle.claim_model.specs.Bytes.{bytes_with}
use Rattle.claim_model.specs.Context.{Context}
use Rattle.claim_model.specs.Settings.{WorldSettings, opening}
use Rattle.claim_model.specs.Node.{Node, Call, Sent, Outcome, Done, Refused}
use Rattle.claim_model.specs.Nodes.{AnyNode, node_step, node_at}
use Rattle.claim_model.specs.Logs.{Logged, Makes, node_after, replay}
use Rattle.claim_model.proofs.Lists.{all_append}
use Rattle.claim_model.proofs.Options.{map_some, same_some}
use Rattle.crash_safety.specs.Steps.{replayed_from}
use Rattle.crash_safety.proofs.Replaying.{replay_more, makes_more}
use Rattle.claim_model.specs.Refusal.{refusal_name}
use Rattle.world_settings.specs.Document.{Document, document_seen}
use Rattle.world_setup.specs.Seen.{call_seen, settings_seen}
use Rattle.world_setup.specs.declared.settings.WorldSettings.{WorldSettings as Opened}
use Rattle.node_logged.specs.Setting.{context_of}
use Rattle.kept_logs.specs.declared.fault.LogFault.{LogFault}
use Rattle.kept_logs.specs.declared.fault.LogFault.TheVariants.{Short}
use Rattle.kept_logs.specs.Stamps.{Stamp, Stamped, KeptLog, bare_calls, stamped_text}
use Rattle.kept_logs.specs.References.{Reference, referred, references_in}
use Rattle.kept_logs.specs.Digests.{version_of}
use Rattle.kept_logs.specs.Frames.{frame_text}
use Rattle.kept_logs.specs.Logs.{KeptReading, kept_text, kept_in}
use Rattle.kept_logs.specs.Fits.{FitsStamped}
use Rattle.kept_logs.specs.Rests.{begins, begun_from, references_before, rest_in}
use Rattle.kept_logs.proofs.LogsBack.{one_more, reads_whole}
use Rattle.node_service.specs.Asking.{Asked, Calls, Tells, asked_of}
use Rattle.node_service.specs.Answering.{idle_line, refused_line}
use Rattle.node_service.specs.Serving.{Serving, saying, after_call, again, is_idle_call, known, making, making_once, told_of, cleared, after_asked, after_line}
use Rattle.node_service.specs.Opened.{IsBegun, IsOpened, MakesAll, referred_behind, referred_from, replayed_behind}
use Rattle.node_service.specs.Lines.{joined, after_lines, kept_asked, kept_call, kept_making, kept_once, line_calls, line_kept, lines_calls, lines_kept, with_records, IsServing, IsSame}
use Rattle.world_setup.specs.Taken.{routes_with}

-- ---- what a line adds

said : (s : Serving) (text : List ℕ) → saying s text ≡ joined s (saying (cleared s) text)
said s text i = record { settings = s.settings; node = s.node; version = s.version; state = s.state; calls = s.calls; references = s.references; records = sym (append-nil s.records) i; out = s.out ++ text }

called : (s : Serving) (stamp : Stamp) (call : Call) (outcome : Outcome AnyNode) → after_call s stamp call outcome ≡ joined s (after_call (cleared s) stamp call outcome)
unfolding after_call
called s stamp call (Done next sent) = refl
called s stamp call (Refused why) = said s (refused_line (refusal_name why))

made : (s : Serving) (stamp : Stamp) (call : Call) → making s stamp call ≡ joined s (making (cleared s) stamp call)
made s stamp call = by_idle (is_idle_call s.state call)
  where
    by_idle : (idle : Bool) → cond idle (saying s idle_line) (after_call s stamp call (node_step (context_of s.settings) s.state call))
        ≡ joined s (cond idle (saying (cleared s) idle_line) (after_call (cleared s) stamp call (node_step (context_of s.settings) s.state call)))
    by_idle true = said s idle_line
    by_idle false = called s stamp call (node_step (context_of s.settings) s.state call)

once : (s : Serving) (stamp : Stamp) (call : Call) (o : Option ℕ) → making_once s stamp call o ≡ joined s (making_once (cleared s) stamp call o)
once s stamp call (Some number) = said s (again s.state call number)
once s stamp call None = made s stamp call

asked : (s : Serving) (a : Option Asked) → after_asked s a ≡ joined s (after_asked (cleared s) a)
asked s None = said s (refused_line (codes "Line"))
asked s (Some (Calls n)) = once s n.stamp (call_seen n.call) (known s.references n.stamp.reference (call_seen n.call))
asked s (Some (Tells question)) = said s (told_of (context_of s.settings) s.state s.node question)

pub adds : (s : Serving) (line : List ℕ) → after_line s line ≡ joined s (after_line (cleared s) line)
unfolding after_line
adds s line = asked s (asked_of line)

-- in front of in front
joined_twice : (s t u : Serving) → joined (joined s t) u ≡ joined s (joined t u)
joined_twice s t u i = record { settings = u.settings; node = u.node; version = u.version; state = u.state; calls = u.calls; references = u.references; records = append_assoc s.records t.records u.records i; out = append_assoc s.out t.out u.out i }

nothing_added : (s : Serving) → s ≡ joined s (cleared s)
nothing_added s i = record { settings = s.settings; node = s.node; version = s.version; state = s.state; calls = s.calls; references = s.references; records = sym (append-nil s.records) i; out = sym (append-nil s.out) i }

pub adds_all : (s : Serving) (lines : List (List ℕ)) → after_lines s lines ≡ joined s (after_lines (cleared s) lines)
adds_all s [] = nothing_added s
adds_all s (line ∷ lines) =
    let t = after_line (cleared s) line in
    let u = after_lines (cleared t) lines in
    ap (λ (x : Serving). after_lines x lines) (adds s line)
    ∙ (adds_all (joined s t) lines
    ∙ (joined_twice s t u
    ∙ ap (joined s) (sym (adds_all t lines))))

-- ---- the log

pub bare_append : (calls more : List Stamped) → bare_calls (calls ++ more) ≡ bare_calls calls ++ bare_calls more
bare_append [] more = refl
bare_append (r ∷ calls) more = ap (λ cs. r.logged ∷ cs) (bare_append calls more)

pub is_opened_serving : (settings : List ℕ) (node : Node) (rest : Option (List ℕ)) (bytes : List ℕ) (kept : ℕ) (s : Serving) (o : IsOpened settings node rest bytes kept s) → IsServing rest (turned_under settings rest bytes) (take kept bytes) o.log s
is_opened_serving settings node rest bytes kept s o = record {
  named = o.named ∙ sym o.own;
  version = o.version;
  calls = o.calls;
  makes = subst (λ (n : Node). MakesAll s.settings n rest (bare_calls o.log.calls)) (sym o.own) o.makes;
  state = ap (λ (n : Node). replayed_behind s.settings n rest (bare_calls o.log.calls)) o.own ∙ o.state;
  text = o.text;
  fits = o.fits;
  references = o.references ∙ ap (λ (n : Node). referred_behind s.settings n rest o.log.calls) (sym o.own);
}

-- the references of calls, and of one more
references_more : (ctx : Context) (before : AnyNode) (calls : List Stamped) (one : Stamped) (next : AnyNode) → node_after (replay ctx before (bare_calls calls)) (node_step ctx (replay ctx before (bare_calls calls)) one.logged.call) ≡ next
    → references_in ctx before (calls ++ one ∷ []) ≡ references_in ctx before calls ++ referred one.stamp.reference one.logged.call next
references_more ctx before [] one next e = append-nil (referred one.stamp.reference one.logged.call (node_after before (node_step ctx before one.logged.call))) ∙ ap (referred one.stamp.reference one.logged.call) e
references_more ctx before (r ∷ calls) one next e =
    let after = node_after before (node_step ctx before r.logged.call) in
    let first = referred r.stamp.reference r.logged.call after in
    ap (λ rs. first ++ rs) (references_more ctx after calls one next e) ∙ sym (append_assoc first (references_in ctx after calls) (referred one.stamp.reference one.logged.call next))

one_call : (rest : Option (List ℕ)) (digest file : List ℕ) (log : KeptLog) (s : Serving) (stamp : Stamp) (call : Call) (next : AnyNode) (sent : List Sent) → IsServing rest digest file log s → node_step (context_of s.settings) s.state call ≡ Done next sent
    → FitsStamped (record { logged = record { call = call; sent = sent }; stamp = stamp }) → IsServing rest digest file (with_records log (record { logged = record { call = call; sent = sent }; stamp = stamp } ∷ [])) (after_call s stamp call (Done next sent))
unfolding after_call
one_call rest digest file log s stamp call next sent i steps fits =
    let l : Logged = record { call = call; sent = sent } in
    let r : Stamped = record { logged = l; stamp = stamp } in
    let ctx = context_of s.settings in
    let calls = bare_calls log.calls in
    let was = map_some (λ (n : AnyNode). replay ctx n calls) (begins s.settings log.node rest) s.state i.state in
    let there : node_step ctx (replay ctx was.0 calls) call ≡ Done next sent = ap (λ (x : AnyNode). node_step ctx x call) was.2 ∙ steps in
    let after : node_after (replay ctx was.0 calls) (node_step ctx (replay ctx was.0 calls) call) ≡ next = ap (node_after (replay ctx was.0 calls)) there in
    let leads : replay ctx was.0 (calls ++ l ∷ []) ≡ next = replay_more ctx was.0 calls l ∙ after in
    let more : bare_calls (log.calls ++ r ∷ []) ≡ calls ++ l ∷ [] = bare_append log.calls (r ∷ []) in
    record {
      named = i.named;
      version = i.version;
      calls = let e = length-append log.calls (r ∷ []) in let n = i.calls in omega (arith, e, n);
      makes = λ before opens.
          subst (λ (cs : List Logged). Makes ctx before cs) (sym more)
          (makes_more ctx before next calls l (i.makes before opens)
          (subst (λ (b : AnyNode). node_step ctx (replay ctx b calls) call ≡ Done next sent) (same_some was.0 before (sym was.1 ∙ opens)) there));
      state = ap (λ (cs : List Logged). replayed_behind s.settings log.node rest cs) more ∙ (ap (option_map (λ (n : AnyNode). replay ctx n (calls ++ l ∷ []))) was.1 ∙ ap (λ (x : AnyNode). Some x) leads);
      text =
          sym (append_assoc file s.records (frame_text s.version (s.calls + 1) (stamped_text r)))
          ∙ (ap (λ (t : List ℕ). t ++ frame_text s.version (s.calls + 1) (stamped_text r)) i.text
          ∙ (ap (λ (v : ℕ). kept_text digest log ++ frame_text v (s.calls + 1) (stamped_text r)) i.version
          ∙ (ap (λ (n : ℕ). kept_text digest log ++ frame_text (version_of digest) (n + 1) (stamped_text r)) i.calls ∙ sym (one_more digest log r))));
      fits = record { node = i.fits.node; calls = all_append FitsStamped log.calls (r ∷ []) i.fits.calls (fits, tt) };
      references =
          ap (λ rs. rs ++ referred stamp.reference call next) i.references
          ∙ (append_assoc (references_before rest) (referred_from ctx (begins s.settings log.node rest) log.calls) (referred stamp.reference call next)
          ∙ ap (λ rs. references_before rest ++ rs) (ap (λ (b : Option AnyNode). referred_from ctx b log.calls ++ referred stamp.reference call next) was.1
          ∙ (sym (references_more ctx was.0 log.calls r next after) ∙ ap (λ (b : Option AnyNode). referred_from ctx b (log.calls ++ r ∷ [])) (sym was.1))));
    }

-- words alone
spoken : (rest : Option (List ℕ)) (digest file : List ℕ) (log : KeptLog) (s : Serving) (text : List ℕ) → IsServing rest digest file log s → IsServing rest digest file (with_records log []) (saying s text)
spoken rest digest file log s text i =
    subst (λ (calls : List Stamped). IsServing rest digest file (record { node = log.node; calls = calls }) (saying s text)) (sym (append-nil log.calls))
    (record { named = i.named; version = i.version; calls = i.calls; makes = i.makes; state = i.state; text = i.text; fits = i.fits; references = i.references })

by_outcome : (rest : Option (List ℕ)) (digest file : List ℕ) (log : KeptLog) (s : Serving) (stamp : Stamp) (call : Call) (o : Outcome AnyNode) → node_step (context_of s.settings) s.state call ≡ o → IsServing rest digest file log s → AllByRecursion FitsStamped (kept_call stamp call o)
    → IsServing rest digest file (with_records log (kept_call stamp call o)) (after_call s stamp call o)
unfolding after_call
by_outcome rest digest file log s stamp call (Done next sent) e i fits = one_call rest digest file log s stamp call next sent i e fits.0
by_outcome rest digest file log s stamp call (Refused why) e i fits = spoken rest digest file log s (refused_line (refusal_name why)) i

by_making : (rest : Option (List ℕ)) (digest file : List ℕ) (log : KeptLog) (s : Serving) (stamp : Stamp) (call : Call) → IsServing rest digest file log s → AllByRecursion FitsStamped (kept_making s stamp call)
    → IsServing rest digest file (with_records log (kept_making s stamp call)) (making s stamp call)
by_making rest digest file log s stamp call i fits = by_idle (is_idle_call s.state call) fits
  where
    outcome : Outcome AnyNode
    outcome = node_step (context_of s.settings) s.state call

    by_idle : (idle : Bool) → AllByRecursion FitsStamped (cond idle [] (kept_call stamp call outcome))
        → IsServing rest digest file (with_records log (cond idle [] (kept_call stamp call outcome))) (cond idle (saying s idle_line) (after_call s stamp call outcome))
    by_idle true fits = spoken rest digest file log s idle_line i
    by_idle false fits = by_outcome rest digest file log s stamp call outcome refl i fits

by_once : (rest : Option (List ℕ)) (digest file : List ℕ) (log : KeptLog) (s : Serving) (stamp : Stamp) (call : Call) (o : Option ℕ) → IsServing rest digest file log s → AllByRecursion FitsStamped (kept_once s stamp call o)
    → IsServing rest digest file (with_records log (kept_once s stamp call o)) (making_once s stamp call o)
by_once rest digest file log s stamp call (Some number) i fits = spoken rest digest file log s (again s.state call number) i
by_once rest digest file log s stamp call None i fits = by_making rest digest file log s stamp call i fits

by_asked : (rest : Option (List ℕ)) (digest file : List ℕ) (log : KeptLog) (s : Serving) (a : Option Asked) → IsServing rest digest file log s → AllByRecursion FitsStamped (kept_asked s a) → IsServing rest digest file (with_records log (kept_asked s a)) (after_asked s a)
by_asked rest digest file log s None i fits = spoken rest digest file log s (refused_line (codes "Line")) i
by_asked rest digest file log s (Some (Calls n)) i fits = by_once rest digest file log s n.stamp (call_seen n.call) (known s.references n.stamp.reference (call_seen n.call)) i fits
by_asked rest digest file log s (Some (Tells question)) i fits = spoken rest digest file log s (told_of (context_of s.settings) s.state s.node question) i

pub line_serves : (rest : Option (List ℕ)) (digest file : List ℕ) (log : KeptLog) (s : Serving) (line : List ℕ) → IsServing rest digest file log s → AllByRecursion FitsStamped (line_kept s line) → IsServing rest digest file (with_records log (line_kept s line)) (after_line s line)
unfolding after_line
line_serves rest digest file log s line i fits = by_asked rest digest file log s (asked_of line) i fits

front_fits : (xs ys : List Stamped) → AllByRecursion FitsStamped (xs ++ ys) → AllByRecursion FitsStamped xs
front_fits [] ys f = tt
front_fits (x ∷ xs) ys f = (f.0, front_fits xs ys f.1)

behind_fits : (xs ys : List Stamped) → AllByRecursion FitsStamped (xs ++ ys) → AllByRecursion FitsStamped ys
behind_fits [] ys f = f
behind_fits (x ∷ xs) ys f = behind_fits xs ys f.1

pub lines_serve : (rest : Option (List ℕ)) (digest file : List ℕ) (log : KeptLog) (s : Serving) (lines : List (List ℕ)) → IsServing rest digest file log s → AllByRecursion FitsStamped (lines_kept s lines) → IsServing rest digest file (with_records log (lines_kept s lines)) (after_lines s lines)
lines_serve rest digest file log s [] i fits = subst (λ (calls : List Stamped). IsServing rest digest file (record { node = log.node; calls = calls }) s) (sym (append-nil log.calls)) i
lines_serve rest digest file log s (line ∷ lines) i fits =
    let one = line_kept s line in
    let more = lines_kept (after_line s line) lines in
    subst (λ (calls : List Stamped). IsServing rest digest file (record { node = log.node; calls = calls }) (after_lines (after_line s line) lines)) (append_assoc log.calls one more)
    (lines_serve rest digest file (with_records log one) (after_line s line) lines (line_serves rest digest file log s line i (front_fits one more fits)) (behind_fits one more fits))

-- the calls of these records
pub lines_bare : (s : Serving) (lines : List (List ℕ)) → bare_calls (lines_kept s lines) ≡ lines_calls s lines
lines_bare s [] = refl
lines_bare s (line ∷ lines) = bare_append (line_kept s line) (lines_kept (after_line s line) lines) ∙ ap (λ cs. line_calls s line ++ cs) (lines_bare (after_line s line) lines)

pub cleared_serves : (rest : Option (List ℕ)) (digest file : List ℕ) (log : KeptLog) (s : Serving) → IsServing rest digest file log s → IsServing rest digest (file ++ s.records) log (cleared s)
cleared_serves rest digest file log s i = record { named = i.named; version = i.version; calls = i.calls; makes = i.makes; state = i.state; text = append-nil (file ++ s.records) ∙ i.text; fits = i.fits; references = i.references }

-- ---- a restart

-- what a log begins with, and what it makes of that, hang on the document alone
abbrev begun_by : WorldSettings → Node → Option (List ℕ) → Option AnyNode
begun_by world node None = node_at (opening world) node
begun_by world node (Some rest) = begun_from world node (rest_in rest)

begins_by : (settings : Opened) (node : Node) (rest : Option (List ℕ)) → begins settings node rest ≡ begun_by (settings_seen settings) node rest
begins_by settings node None = refl
begins_by settings node (Some rest) = refl

abbrev of_document : Node → Option (List ℕ) → List Logged → Document → Option AnyNode
of_document node rest calls d = replayed_from (bytes_with (routes_with d.world d.routes)) (begun_by d.world node rest) calls

by_document : (settings : Opened) (node : Node) (rest : Option (List ℕ)) (calls : List Logged) → replayed_behind settings node rest calls ≡ of_document node rest calls (document_seen settings)
by_document settings node rest calls = ap (λ (begun : Option AnyNode). replayed_from (context_of settings) begun calls) (begins_by settings node rest)

-- the same settings make the same of a log
same_document : (one other : Opened) (node : Node) (rest : Option (List ℕ)) (calls : List Logged) → document_seen one ≡ document_seen other → replayed_behind one node rest calls ≡ replayed_behind other node rest calls
same_document one other node rest calls same = by_document one node rest calls ∙ (ap (of_document node rest calls) same ∙ sym (by_document other node rest calls))

-- the references of a log hang on the document alone too
abbrev referred_by : Node → Option (List ℕ) → List Stamped → Document → List Reference
referred_by node rest calls d = references_before rest ++ referred_from (bytes_with (routes_with d.world d.routes)) (begun_by d.world node rest) calls

by_document_too : (settings : Opened) (node : Node) (rest : Option (List ℕ)) (calls : List Stamped) → referred_behind settings node rest calls ≡ referred_by node rest calls (document_seen settings)
by_document_too settings node rest calls = ap (λ (begun : Option AnyNode). references_before rest ++ referred_from (context_of settings) begun calls) (begins_by settings node rest)

same_references : (one other : Opened) (node : Node) (rest : Option (List ℕ)) (calls : List Stamped) → document_seen one ≡ document_seen other → referred_behind one node rest calls ≡ referred_behind other node rest calls
same_references one other node rest calls same = by_document_too one node rest calls ∙ (ap (referred_by node rest calls) same ∙ sym (by_document_too other node rest calls))

same_reading : (a b : KeptReading) → ◌≡◌ {A = Result KeptReading LogFault} (Ok a) (Ok b) → a ≡ b
same_reading a b h = cc

not_short : (a : KeptReading) → ◌≡◌ {A = Result KeptReading LogFault} (Ok a) (Err Short) → ⊥
not_short a h = cc

pub opens_again : (settings image : List ℕ) (rest : Option (List ℕ)) (file : List ℕ) (log : KeptLog) (s t : Serving) (kept : ℕ) → IsServing rest (turned_under settings rest image) file log s
    → document_seen t.settings ≡ document_seen s.settings → IsOpened settings log.node rest (file ++ s.records) kept t → (kept ≡ length (file ++ s.records)) × IsSame s t
opens_again settings image rest file log s t kept i same o =
    let digest = turned_under settings rest image in
    let bytes = file ++ s.records in
    let own : turned_under settings rest bytes ≡ digest = ap (turned_under settings rest) i.text ∙ turned_keeps settings rest image log in
    let whole : kept_in digest bytes ≡ Ok (record { log = log; whole = length bytes }) =
    ap (kept_in digest) i.text ∙ (reads_whole digest log (turned_length settings rest image) i.fits ∙ ap (λ (text : List ℕ). let r : KeptReading = record { log = log; whole = length text } in Ok r) (sym i.text)) in
    by_begun own whole (subst (λ (d : List ℕ). IsBegun d log.node bytes o.log kept t.records) own o.begun)
  where
    by_begun : turned_under settings rest (file ++ s.records) ≡ turned_under settings rest image → kept_in (turned_under settings rest image) (file ++ s.records) ≡ Ok (record { log = log; whole = length (file ++ s.records) })
        → IsBegun (turned_under settings rest image) log.node (file ++ s.records) o.log kept t.records → (kept ≡ length (file ++ s.records)) × IsSame s t
    by_begun own whole (inr none) = absurd (not_short (record { log = log; whole = length (file ++ s.records) }) (sym whole ∙ none.0))
    by_begun own whole (inl read) =
        let r = same_reading (record { log = o.log; whole = kept }) (record { log = log; whole = length (file ++ s.records) }) (sym read.0 ∙ whole) in
        let logs : o.log ≡ log = ap (λ (x : KeptReading). x.log) r in
        let state : ◌≡◌ {A = Option AnyNode} (Some t.state) (Some s.state) =
        sym o.state ∙ (ap (λ (x : KeptLog). replayed_behind t.settings log.node rest (bare_calls x.calls)) logs ∙ (same_document t.settings s.settings log.node rest (bare_calls log.calls) same ∙ i.state)) in (
          ap (λ (x : KeptReading). x.whole) r,
          record {
            node = o.named ∙ sym i.named;
            version = o.version ∙ (ap version_of own ∙ sym i.version);
            state = same_some t.state s.state state;
            calls = o.calls ∙ (ap (λ (x : KeptLog). length x.calls) logs ∙ sym i.calls);
            references = o.references ∙ (ap (λ (x : KeptLog). referred_behind t.settings log.node rest x.calls) logs ∙ (same_references t.settings s.settings log.node rest log.calls same ∙ sym i.references));
            records = read.1;
            silent = o.silent;
          },
        )

-- a log that is new has its head to append, and nothing of the file stays
pub new_or_whole : (settings : List ℕ) (node : Node) (rest : Option (List ℕ)) (bytes : List ℕ) (kept : ℕ) (s : Serving) → IsOpened settings node rest bytes kept s → (s.records ≡ []) ⊎ (kept ≡ 0)
new_or_whole settings node rest bytes kept s o = elim o.begun [ inl read ↦ inl read.1 | inr none ↦ inr none.1.1.0 ]
