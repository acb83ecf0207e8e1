-- Logs and their turns, as legal interleavings.
use Rattle.std.proofs.Common.{◌≡◌, ℕ, zero, suc, ◌<◌, List, [], ◌∷◌, ◌++◌, length, Option, Some, None, refl, sym, ap, ◌∙◌, subst, arith}
use Rattle.std.specs.Prelude.{IsSome}
use Rattle.std.specs.List.{AllByRecursion}
use Rattle.claim_model.specs.Context.{Context}
use Rattle.claim_model.specs.Laws.{Laws}
use Rattle.claim_model.specs.Numbered.{numbered}
use Rattle.claim_model.specs.Node.{Node}
use Rattle.claim_model.specs.World.{Event}
use Rattle.claim_model.specs.Settings.{WorldSettings, Accepts, opening}
use Rattle.claim_model.specs.Nodes.{AnyNode, node_at}
use Rattle.claim_model.specs.Logs.{Logged, NodeLog, log_in, Makes}
use Rattle.claim_model.specs.Interleavings.{HasLog, OnePerNode, IsInterleaving}
use Rattle.claim_model.proofs.Lists.{all_at, all_from, all_append, numbered_append, numbered_within}
use Rattle.claim_model.proofs.Replaying.{replays, absent_stays}
use Rattle.claim_model.proofs.Walking.{all_right}
use Rattle.settings_growth.specs.Growth.{Grows, GrowsFor, with_cap, HasOwnCalls, RejectionsStay}
use Rattle.settings_growth.specs.Orders.{Turn, events_of, turns_of, AreTurnsOf, HasTurns, IsMade}
use Rattle.settings_growth.specs.GoingOver.{Added}
use Rattle.settings_growth.proofs.Replayed.{goes_over, goes_over_for}
use Rattle.settings_growth.proofs.Own.{all_own}
use Rattle.settings_growth.proofs.Turns.{MakesAt, made_turns, run_turns}

-- a node without a log is none of the settings
no_log : (s : WorldSettings) (logs : List NodeLog) (node : Node) (o : Option AnyNode) → OnePerNode s logs → node_at (opening s) node ≡ o → (HasLog logs node → ⊥) → o ≡ None
no_log s logs node None one is without = refl
no_log s logs node (Some n) one is without = absurd (without (one.each node (subst IsSome (sym is) refl)))

-- a log's node is there
not_there : (s : WorldSettings) (logs : List NodeLog) (node : Node) → OnePerNode s logs → node_at (opening s) node ≡ None → HasLog logs node → ⊥
not_there s logs node one is h =
    nothing_there (subst IsSome (ap (λ (n : Node). node_at (opening s) n) h.names ∙ is) (all_at (λ (l : NodeLog). IsSome (node_at (opening s) l.node)) logs h.number h.log one.known h.at))
  where
    nothing_there : IsSome {T = AnyNode} None → ⊥
    nothing_there e = absurd cc

-- the node of a log makes its turns

made_by : (ctx : Context) (s : WorldSettings) (logs : List NodeLog) (turns : List Turn) (node : Node) (o : Option AnyNode) → OnePerNode s logs → AllByRecursion (IsMade ctx s) logs → AreTurnsOf logs turns → node_at (opening s) node ≡ o
    → MakesAt ctx o (turns_of turns node)
made_by ctx s logs turns node None one made are is = are.others node (not_there s logs node one is)
made_by ctx s logs turns node (Some n) one made are is =
    let h = one.each node (subst IsSome (sym is) refl) in
    let m = all_at (IsMade ctx s) logs h.number h.log made h.at in
    let same = all_at (λ (log : NodeLog). turns_of turns log.node ≡ log.calls) logs h.number h.log are.same h.at in
    let e : ◌≡◌ {A = Option AnyNode} (Some m.before) (Some n) = sym m.opens ∙ (ap (λ (x : Node). node_at (opening s) x) h.names ∙ is) in
    let before : m.before ≡ n = cc in
    subst (λ (x : AnyNode). Makes ctx x (turns_of turns node)) before
    (subst (λ (log : List Logged). Makes ctx m.before log) (sym same ∙ ap (turns_of turns) h.names) m.makes)

pub legal : (ctx : Context) (s : WorldSettings) (logs : List NodeLog) (turns : List Turn) → OnePerNode s logs → AllByRecursion (IsMade ctx s) logs → AreTurnsOf logs turns → IsInterleaving ctx s logs (events_of turns)
legal ctx s logs turns one made are =
    let r = made_turns ctx (opening s) turns are.order (λ node. made_by ctx s logs turns node (node_at (opening s) node) one made are refl) in
    record {
      one = one;
      accepted = r.accepted;
      same = all_from (λ (log : NodeLog). log_in ctx (opening s) (events_of turns) log.node ≡ log.calls) logs
          (λ n log at. r.each log.node ∙ all_at (λ (x : NodeLog). turns_of turns x.node ≡ x.calls) logs n log are.same at);
    }

-- and back

pub has_turns : (ctx : Context) (s : WorldSettings) (logs : List NodeLog) (events : List Event) → IsInterleaving ctx s logs events → HasTurns logs events
has_turns ctx s logs events i =
    let r = run_turns ctx (opening s) events i.accepted in
    record {
      turns = r.turns;
      events_are = r.events_are;
      turns_are = record {
        order = r.order;
        same = all_from (λ (log : NodeLog). turns_of r.turns log.node ≡ log.calls) logs
            (λ n log at. r.each log.node ∙ all_at (λ (x : NodeLog). log_in ctx (opening s) events x.node ≡ x.calls) logs n log i.same at);
        others = λ node without. r.each node ∙ (absent_stays ctx (opening s) events node (no_log s logs node (node_at (opening s) node) i.one refl without)).0;
      };
    }

made_of : (ctx : Context) (s : WorldSettings) (events : List Event) (log : NodeLog) (o : Option AnyNode) → node_at (opening s) log.node ≡ o → IsSome (node_at (opening s) log.node) → log_in ctx (opening s) events log.node ≡ log.calls → IsMade ctx s log
made_of ctx s events log None is there same = let wrong : IsSome {T = AnyNode} None = subst IsSome is there in absurd cc
made_of ctx s events log (Some before) is there same =
    record { before = before; opens = is; makes = subst (Makes ctx before) same (replays ctx (opening s) events log.node before is).makes }

pub all_made : (ctx : Context) (s : WorldSettings) (logs : List NodeLog) (events : List Event) → IsInterleaving ctx s logs events → AllByRecursion (IsMade ctx s) logs
all_made ctx s logs events i =
    all_from (IsMade ctx s) logs (λ n log at. made_of ctx s events log (node_at (opening s) log.node) refl
    (all_at (λ (l : NodeLog). IsSome (node_at (opening s) l.node)) logs n log i.one.known at)
    (all_at (λ (x : NodeLog). log_in ctx (opening s) events x.node ≡ x.calls) logs n log i.same at))

-- ---- under settings that have grown

made_over : (ctx wider : Context) (s t : WorldSettings) (log : NodeLog) → Grows ctx wider s t → RejectionsStay ctx wider log.node log.calls → IsMade ctx s log → IsMade wider t log
made_over ctx wider s t log g stays m =
    let o = goes_over ctx wider s t log.node m.before log.calls g m.opens stays m.makes in
    record { before = with_cap o.cap m.before; opens = o.opens; makes = o.makes }

-- a log with no call is made by its node, if that is there
empty_made : (ctx : Context) (t : WorldSettings) (log : NodeLog) (o : Option AnyNode) → node_at (opening t) log.node ≡ o → IsSome (node_at (opening t) log.node) → log.calls ≡ [] → IsMade ctx t log
empty_made ctx t log None is there none = let wrong : IsSome {T = AnyNode} None = subst IsSome is there in absurd cc
empty_made ctx t log (Some before) is there none = record { before = before; opens = is; makes = subst (Makes ctx before) (sym none) tt }

-- turns of logs, to which empty ones are added

more_log : (logs more : List NodeLog) (node : Node) → HasLog logs node → HasLog (logs ++ more) node
more_log logs more node h = record { number = h.number; log = h.log; at = numbered_append logs more h.number h.log h.at; names = h.names }

-- a log after these has a number beyond theirs
record Beyond {A : Type 0} (xs ys : List A) (a : A) : Type 0 where
  number : ℕ
  far : length xs < number
  is : numbered (xs ++ ys) number ≡ Some a

beyond : {A : Type 0} (xs ys : List A) (n : ℕ) (a : A) → numbered ys n ≡ Some a → Beyond xs ys a
beyond [] ys n a e = record { number = n; far = (numbered_within ys n a e).0; is = e }
beyond (x ∷ xs) ys n a e = next (beyond xs ys n a e).number (beyond xs ys n a e).far (beyond xs ys n a e).is
  where
    next : (m : ℕ) → length xs < m → numbered (xs ++ ys) m ≡ Some a → Beyond (x ∷ xs) ys a
    next zero far is = absurd cc
    next (suc k) far is = record { number = suc (suc k); far = omega (arith, far); is = is }

-- a node with a log among the first has none after them
apart : (t : WorldSettings) (logs more : List NodeLog) (n : ℕ) (log : NodeLog) → OnePerNode t (logs ++ more) → numbered more n ≡ Some log → HasLog logs log.node → ⊥
apart t logs more n log one at h =
    let b = beyond logs more n log at in
    let within = numbered_within logs h.number h.log h.at in
    let e = one.once h.number b.number h.log log (numbered_append logs more h.number h.log h.at) b.is h.names in
    absurd (omega (arith, within.1, b.far, e))

turns_with : (t : WorldSettings) (logs more : List NodeLog) (turns : List Turn) → Added t logs more → AreTurnsOf logs turns → AreTurnsOf (logs ++ more) turns
turns_with t logs more turns added are =
    record {
      order = are.order;
      same = all_append (λ (log : NodeLog). turns_of turns log.node ≡ log.calls) logs more are.same
          (all_from (λ (log : NodeLog). turns_of turns log.node ≡ log.calls) more
          (λ n log at. are.others log.node (apart t logs more n log added.one at) ∙ sym (all_at (λ (x : NodeLog). x.calls ≡ []) more n log added.empty at)));
      others = λ node without. are.others node (λ h. without (more_log logs more node h));
    }

-- logs that are made under the new settings, in the same turns
over_in_turns : (ctx wider : Context) (s t : WorldSettings) (logs more : List NodeLog) (events : List Event) → AllByRecursion (IsMade wider t) logs → Added t logs more
    → IsInterleaving ctx s logs events → IsInterleaving wider t (logs ++ more) events
over_in_turns ctx wider s t logs more events made added i =
    let h = has_turns ctx s logs events i in
    subst (IsInterleaving wider t (logs ++ more)) h.events_are
    (legal wider t (logs ++ more) h.turns added.one
    (all_append (IsMade wider t) logs more made
    (all_from (IsMade wider t) more (λ n log at. empty_made wider t log (node_at (opening t) log.node) refl
    (all_at (λ (l : NodeLog). IsSome (node_at (opening t) l.node)) more n log (all_right (λ (l : NodeLog). IsSome (node_at (opening t) l.node)) logs more added.one.known) at)
    (all_at (λ (x : NodeLog). x.calls ≡ []) more n log added.empty at))))
    (turns_with t logs more h.turns added h.turns_are))

pub runs_over : (ctx wider : Context) (s t : WorldSettings) (logs more : List NodeLog) (events : List Event) → Grows ctx wider s t → AllByRecursion (λ (log : NodeLog). RejectionsStay ctx wider log.node log.calls) logs → Added t logs more
    → IsInterleaving ctx s logs events → IsInterleaving wider t (logs ++ more) events
runs_over ctx wider s t logs more events g stays added i =
    let made = all_made ctx s logs events i in
    over_in_turns ctx wider s t logs more events
    (all_from (IsMade wider t) logs (λ n log at. made_over ctx wider s t log g (all_at (λ (x : NodeLog). RejectionsStay ctx wider x.node x.calls) logs n log stays at) (all_at (IsMade ctx s) logs n log made at)))
    added i

made_over_for : (ctx wider : Context) (s t : WorldSettings) (log : NodeLog) → GrowsFor ctx wider s t → HasOwnCalls ctx s log.calls → RejectionsStay ctx wider log.node log.calls → IsMade ctx s log → IsMade wider t log
made_over_for ctx wider s t log g own stays m =
    let o = goes_over_for ctx wider s t log.node m.before log.calls g m.opens own stays m.makes in
    record { before = with_cap o.cap m.before; opens = o.opens; makes = o.makes }

pub runs_over_for : (ctx wider : Context) (s t : WorldSettings) (logs more : List NodeLog) (events : List Event) → Laws ctx → Accepts ctx s → GrowsFor ctx wider s t → AllByRecursion (λ (log : NodeLog). RejectionsStay ctx wider log.node log.calls) logs → Added t logs more
    → IsInterleaving ctx s logs events → IsInterleaving wider t (logs ++ more) events
runs_over_for ctx wider s t logs more events laws accepts g stays added i =
    let made = all_made ctx s logs events i in
    let own = all_own ctx s logs events laws accepts i in
    over_in_turns ctx wider s t logs more events
    (all_from (IsMade wider t) logs (λ n log at. made_over_for ctx wider s t log g (all_at (λ (x : NodeLog). HasOwnCalls ctx s x.calls) logs n log own at) (all_at (λ (x : NodeLog). RejectionsStay ctx wider x.node x.calls) logs n log stays at) (all_at (IsMade ctx s) logs n log made at)))
    added i
