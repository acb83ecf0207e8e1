-- Merging logs: what their interleavings have, and what makes one.
use Rattle.std.proofs.Common.{◌≡◌, ℕ, zero, suc, ◌+◌, ◌<◌, Bool, true, false, List, [], ◌∷◌, ◌++◌, length, get_or, Option, Some, None, slice_get, is_some, refl, sym, ap, ◌∙◌, subst, inl, inr, arith}
use Rattle.std.specs.Prelude.{IsSome}
use Rattle.std.specs.List.{AllByRecursion}
use Rattle.std.proofs.lemmas.Bool.{or_parts, both_ways, cases_eq, cond-false}
use Rattle.std.proofs.lemmas.List.{append-nil}
use Rattle.bin_routes.specs.Fault.{first_fault}
use Rattle.claim_model.specs.Context.{Context}
use Rattle.claim_model.specs.Bytes.{bytes_with}
use Rattle.claim_model.specs.Numbered.{numbered}
use Rattle.claim_model.specs.Node.{Node}
use Rattle.claim_model.specs.World.{Packet, Event, run}
use Rattle.claim_model.specs.Settings.{WorldSettings, settings_fault, opening}
use Rattle.claim_model.proofs.Lists.{all_at, all_from}
use Rattle.world_setup.specs.Seen.{settings_seen}
use Rattle.world_setup.specs.declared.settings.WorldSettings.{WorldSettings as Given}
use Rattle.claim_model.specs.Nodes.{AnyNode, node_at, same_node}
use Rattle.claim_model.specs.Logs.{Logged, NodeLog, log_in}
use Rattle.claim_model.specs.Interleavings.{IsInterleaving}
use Rattle.claim_model.proofs.Options.{same_some}
use Rattle.claim_model.proofs.Replaying.{absent_stays}
use Rattle.run_merge.specs.Naming.{has_log, all_distinct, calls_of}
use Rattle.run_merge.specs.Order.{Completes, InOrder, NoOrder, Leads, none_left}
use Rattle.node_log.specs.LogSeen.{log_seen, logs_seen}
use Rattle.run_merge.specs.Merged.{IsMerged, NoMerge, EachHasLog, FitsThere, FitsAlone, AllFit}
use Rattle.node_log.specs.declared.log.NodeLog.{NodeLog as Kept}
use Rattle.run_merge.proofs.Ordering.{each_node}
use Rattle.run_merge.proofs.Soundness.{sound, ordered, fits_none}
use Rattle.run_merge.proofs.Lines.{calls_at, calls_found}
use Rattle.run_merge.proofs.Covering.{log_at, has_one, once_by, once_distinct}
use Rattle.run_merge.proofs.Places.{found_at, get_below}
use Rattle.world_setup.specs.Taken.{routes_in}

-- what makes an interleaving

fits_by : (ctx : Context) (s : WorldSettings) (logs : List NodeLog) (m : Node) → AllFit ctx s logs → (x : List Logged) → calls_of logs m ≡ x → FitsThere ctx (node_at (opening s) m) (calls_of logs m)
fits_by ctx s logs m f [] e = subst (λ (x : List Logged). FitsThere ctx (node_at (opening s) m) x) (sym e) (fits_none ctx (node_at (opening s) m))
fits_by ctx s logs m f (r ∷ calls) e =
    let g = calls_found logs m r calls e in
    let a : FitsThere ctx (node_at (opening s) m) g.log.calls = subst (λ (x : Node). FitsThere ctx (node_at (opening s) x) g.log.calls) g.node_is (f g.place g.log g.at).fits in
    subst (λ (x : List Logged). FitsThere ctx (node_at (opening s) m) x) (g.calls_are ∙ sym e) a

known_all : (ctx : Context) (s : WorldSettings) (logs : List NodeLog) → AllFit ctx s logs → AllByRecursion (λ log. IsSome (node_at (opening s) log.node)) logs
known_all ctx s logs f = all_from (λ log. IsSome (node_at (opening s) log.node)) logs (λ n log e. by n log e)
  where
    by : (n : ℕ) (log : NodeLog) → numbered logs n ≡ Some log → IsSome (node_at (opening s) log.node)
    by zero log e = absurd cc
    by (suc k) log e = (f k log e).there

pub is_legal : (ctx : Context) (s : WorldSettings) (logs : List NodeLog) (es : List Event) → EachHasLog s logs → all_distinct logs ≡ true → AllFit ctx s logs → InOrder (calls_of logs) es → IsInterleaving ctx s logs es
is_legal ctx s logs es each d f o =
    let r = sound ctx (opening s) (calls_of logs) es o.sent none_left (λ m. fits_by ctx s logs m f (calls_of logs m) refl) o.leads in
    record {
      one = record { each = each; once = once_by logs d; known = known_all ctx s logs f };
      accepted = r.accepted;
      same = all_from (λ log. log_in ctx (opening s) es log.node ≡ log.calls) logs (λ n log e. by (r.logs) n log e);
    }
  where
    by : ((m : Node) → log_in ctx (opening s) es m ++ none_left m ≡ calls_of logs m) → (n : ℕ) (log : NodeLog) → numbered logs n ≡ Some log → log_in ctx (opening s) es log.node ≡ log.calls
    by h zero log e = absurd cc
    by h (suc k) log e = sym (append-nil (log_in ctx (opening s) es log.node)) ∙ (h log.node ∙ calls_at logs k log d e)

-- the packets of an order of calls that fit are those of its run
pub packets_sent : (ctx : Context) (s : WorldSettings) (logs : List NodeLog) (es : List Event) (sent : List Packet) → AllFit ctx s logs → Completes (calls_of logs) es sent → sent ≡ (run ctx (opening s) es).packets
packets_sent ctx s logs es sent f l = sym (sound ctx (opening s) (calls_of logs) es sent none_left (λ m. fits_by ctx s logs m f (calls_of logs m) refl) l).packets

-- what an interleaving has

pub legal_distinct : (ctx : Context) (s : WorldSettings) (logs : List NodeLog) (es : List Event) → IsInterleaving ctx s logs es → all_distinct logs ≡ true
legal_distinct ctx s logs es l = once_distinct logs l.one.once

pub legal_fits : (ctx : Context) (s : WorldSettings) (logs : List NodeLog) (es : List Event) → IsInterleaving ctx s logs es → AllFit ctx s logs
legal_fits ctx s logs es l k log e =
    let o = ordered ctx (opening s) es l.accepted in
    let c : log_in ctx (opening s) es log.node ≡ log.calls = all_at (λ x. log_in ctx (opening s) es x.node ≡ x.calls) logs (suc k) log l.same e in
    record {
      there = all_at (λ x. IsSome (node_at (opening s) x.node)) logs (suc k) log l.one.known e;
      fits = subst (λ (x : List Logged). FitsThere ctx (node_at (opening s) log.node) x) c (o.fits log.node);
    }

-- a node without a log is not there, and has no log in a run
no_calls : (logs : List NodeLog) (m : Node) → has_log m logs ≡ false → calls_of logs m ≡ []
no_calls [] m h = refl
no_calls (l ∷ logs) m h = let p = or_parts (same_node l.node m) (has_log m logs) h in cond-false (same_node l.node m) l.calls (calls_of logs m) p.0 ∙ no_calls logs m p.1

logs_by : (ctx : Context) (s : WorldSettings) (logs : List NodeLog) (es : List Event) (m : Node) → IsInterleaving ctx s logs es → (t : Bool) → has_log m logs ≡ t → log_in ctx (opening s) es m ≡ calls_of logs m
logs_by ctx s logs es m l true h = let f = log_at m logs h in by f.number f.log f.at f.names
  where
    by : (n : ℕ) (log : NodeLog) → numbered logs n ≡ Some log → log.node ≡ m → log_in ctx (opening s) es m ≡ calls_of logs m
    by zero log e is = absurd cc
    by (suc k) log e is =
        let c : log_in ctx (opening s) es log.node ≡ log.calls = all_at (λ x. log_in ctx (opening s) es x.node ≡ x.calls) logs (suc k) log l.same e in
        subst (λ (x : Node). log_in ctx (opening s) es x ≡ calls_of logs x) is (c ∙ sym (calls_at logs k log (legal_distinct ctx s logs es l) e))
logs_by ctx s logs es m l false h = absent (node_at (opening s) m) refl
  where
    absent : (o : Option AnyNode) → node_at (opening s) m ≡ o → log_in ctx (opening s) es m ≡ calls_of logs m
    absent None e = (absent_stays ctx (opening s) es m e).0 ∙ sym (no_calls logs m h)
    absent (Some n) e = absurd (both_ways (has_log m logs) h (has_one m logs (l.one.each m (ap is_some e))))

pub legal_order : (ctx : Context) (s : WorldSettings) (logs : List NodeLog) (es : List Event) → IsInterleaving ctx s logs es → InOrder (calls_of logs) es
legal_order ctx s logs es l =
    let o = ordered ctx (opening s) es l.accepted in
    let e : log_in ctx (opening s) es ≡ calls_of logs = each_node (log_in ctx (opening s) es) (calls_of logs) (λ m. logs_by ctx s logs es m l (has_log m logs) refl) in
    record { sent = o.sent; leads = subst (λ (rest : Node → List Logged). Leads [] rest es o.sent none_left) e o.leads }

-- merging, by what is found of settings and logs

pub not_each : (s : Given) (logs : List Kept) → (EachHasLog (settings_seen s) (logs_seen logs) → ⊥) → NoMerge s (logs_seen logs)
not_each s logs n es m = n m.legal.one.each

pub not_distinct : (s : Given) (logs : List Kept) → all_distinct (logs_seen logs) ≡ false → NoMerge s (logs_seen logs)
not_distinct s logs h es m = both_ways (all_distinct (logs_seen logs)) h (legal_distinct (bytes_with (routes_in s)) (settings_seen s) (logs_seen logs) es m.legal)

pub not_fit : (s : Given) (logs : List Kept) → (AllFit (bytes_with (routes_in s)) (settings_seen s) (logs_seen logs) → ⊥) → NoMerge s (logs_seen logs)
not_fit s logs n es m = n (legal_fits (bytes_with (routes_in s)) (settings_seen s) (logs_seen logs) es m.legal)

pub no_order : (s : Given) (logs : List Kept) → NoOrder (calls_of (logs_seen logs)) → NoMerge s (logs_seen logs)
no_order s logs n es m = n es (legal_order (bytes_with (routes_in s)) (settings_seen s) (logs_seen logs) es m.legal)

pub merged_as : (s : Given) (logs : List Kept) (es : List Event) → settings_fault (settings_seen s) ≡ None → first_fault (length s.payers.items) s.routes.items ≡ None → EachHasLog (settings_seen s) (logs_seen logs) → all_distinct (logs_seen logs) ≡ true
    → AllFit (bytes_with (routes_in s)) (settings_seen s) (logs_seen logs) → InOrder (calls_of (logs_seen logs)) es → IsMerged s (logs_seen logs) es
merged_as s logs es w r n d f o = record { nodes = w; rows = r; legal = is_legal (bytes_with (routes_in s)) (settings_seen s) (logs_seen logs) es n d f o }

-- what an order of the calls shows
pub order_merged : (s : Given) (logs : List Kept) (es : List Event) (sent : List Packet) → settings_fault (settings_seen s) ≡ None → first_fault (length s.payers.items) s.routes.items ≡ None → EachHasLog (settings_seen s) (logs_seen logs)
    → all_distinct (logs_seen logs) ≡ true → AllFit (bytes_with (routes_in s)) (settings_seen s) (logs_seen logs) → Completes (calls_of (logs_seen logs)) es sent → IsMerged s (logs_seen logs) es
order_merged s logs es sent w r n d f h = merged_as s logs es w r n d f (record { sent = sent; leads = h })

-- loops over logs

-- the logs before a place fit
pub record FitBefore (place : ℕ) (ctx : Context) (s : WorldSettings) (logs : List NodeLog) : Type 0 where
  pub fit : (k : ℕ) (log : NodeLog) → k < place → slice_get logs k ≡ Some log → FitsAlone ctx s log

pub fit_next : (ctx : Context) (s : WorldSettings) (logs : List Kept) (place : ℕ) (log : Kept) → place < length logs → log ≡ get_or logs place log → FitsAlone ctx s (log_seen log) → FitBefore place ctx s (logs_seen logs) → FitBefore (place + 1) ctx s (logs_seen logs)
fit_next ctx s logs place log h e f b =
    record {
      fit = λ k x l g. elim (cases_eq k place) [
        | inl same ↦ subst (FitsAlone ctx s) (same_some (log_seen log) x (sym (found_at log_seen logs place log h e) ∙ (ap (slice_get (logs_seen logs)) (sym same) ∙ g))) f
        | inr d ↦ b.fit k x (omega arith) g
      ];
    }

pub fit_all : (ctx : Context) (s : WorldSettings) (logs : List Kept) (place : ℕ) → length logs ≡ place → FitBefore place ctx s (logs_seen logs) → AllFit ctx s (logs_seen logs)
fit_all ctx s logs place h b k x e = let l = get_below log_seen logs k x e in b.fit k x (omega arith) e

pub fit_not : (ctx : Context) (s : WorldSettings) (logs : List Kept) (place : ℕ) (log : Kept) → place < length logs → log ≡ get_or logs place log → (FitsAlone ctx s (log_seen log) → ⊥) → AllFit ctx s (logs_seen logs) → ⊥
fit_not ctx s logs place log h e n f = n (f place (log_seen log) (found_at log_seen logs place log h e))

-- a log whose node is there
