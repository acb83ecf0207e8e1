-- A call takes what was sent, once moves have said it on the wire.
use Rattle.std.proofs.Common.{◌≡◌, ℕ, zero, suc, true, false, List, [], ◌∷◌, ◌++◌, Some, refl, sym, ap, ◌∙◌, subst, append_assoc, append-nil}
use Rattle.std.specs.Prelude.{⊤, option_map}
use Rattle.claim_model.specs.Context.{Context}
use Rattle.claim_model.specs.Node.{Node, Pharmacy, Switch, Payer, Call, Submit, Tick, Take, Stop, Start, Revise, Adjudicate}
use Rattle.claim_model.specs.World.{Packet, Event, Submission, Ticking, Delivery, Stopping, Starting, Revising, Adjudication}
use Rattle.claim_model.specs.Settings.{WorldSettings}
use Rattle.claim_model.specs.Nodes.{asked, taking, adjudicating}
use Rattle.claim_model.specs.Logs.{Logged, posted_by}
use Rattle.claim_model.proofs.Lists.{numbered_append}
use Rattle.crash_safety.specs.Network.{Process, Network, Move, after}
use Rattle.crash_safety.specs.Runs.{IsAmong}
use Rattle.crash_safety.specs.Steps.{Step, Makes, Syncs, Crashes, Restarts, CanCome}
use Rattle.crash_safety.proofs.Stepping.{can_be_said}
use Rattle.crash_safety.proofs.Lighter.{among_right, posted_append}
use Rattle.node_process.proofs.OwnSteps.{is_own}

among_front : (xs ys : List Packet) (p : Packet) → IsAmong xs p → IsAmong (xs ++ ys) p
among_front xs ys p a = record { number = a.number; is = numbered_append xs ys a.number p a.is }

pub sent_behind : (node : Node) (closed log : List Logged) (p : Packet) → IsAmong (posted_by node log) p → IsAmong (posted_by node (closed ++ log)) p
sent_behind node closed log p a = subst (λ (ps : List Packet). IsAmong ps p) (sym (posted_append node closed log)) (among_right (posted_by node closed) (posted_by node log) p a)

pub sent_still : (node : Node) (log more : List Logged) (p : Packet) → IsAmong (posted_by node log) p → IsAmong (posted_by node (log ++ more)) p
sent_still node log more p a = subst (λ (ps : List Packet). IsAmong ps p) (sym (posted_append node log more)) (among_front (posted_by node log) (posted_by node more) p a)

-- a call can come, where what it takes was sent
abbrev pub CanAsk : Network → Node → Call → Type 0
CanAsk n node (Take from bytes) = IsAmong (posted_by from (n.at from).synced) (record { from = from; to = node; bytes = bytes })
CanAsk n node (Submit text) = is_own node (Submit text) ≡ true
CanAsk n node Tick = is_own node Tick ≡ true
CanAsk n node Stop = ⊤
CanAsk n node Start = ⊤
CanAsk n node (Revise change) = is_own node (Revise change) ≡ true
CanAsk n node (Adjudicate from bytes advice) = IsAmong (posted_by from (n.at from).synced) (record { from = from; to = node; bytes = bytes })

abbrev pub CanAskAll : Network → Node → List Step → Type 0
CanAskAll n node [] = ⊤
CanAskAll n node (Makes call ∷ more) = CanAsk n node call × CanAskAll n node more
CanAskAll n node (Syncs ∷ more) = CanAskAll n node more
CanAskAll n node (Crashes left ∷ more) = CanAskAll n node more
CanAskAll n node (Restarts ∷ more) = CanAskAll n node more

-- the same processes
abbrev pub SameAt : Network → Network → Type 0
SameAt n m = (other : Node) → m.at other ≡ n.at other

ask_there : (n m : Network) (node : Node) (call : Call) → SameAt n m → CanAsk n node call → CanAsk m node call
ask_there n m node (Take from bytes) same a = subst (λ (p : Process). IsAmong (posted_by from p.synced) (record { from = from; to = node; bytes = bytes })) (sym (same from)) a
ask_there n m node (Submit text) same a = a
ask_there n m node Tick same a = a
ask_there n m node Stop same a = a
ask_there n m node Start same a = a
ask_there n m node (Revise change) same a = a
ask_there n m node (Adjudicate from bytes advice) same a = subst (λ (p : Process). IsAmong (posted_by from p.synced) (record { from = from; to = node; bytes = bytes })) (sym (same from)) a

asks_there : (n m : Network) (node : Node) (steps : List Step) → SameAt n m → CanAskAll n node steps → CanAskAll m node steps
asks_there n m node [] same a = tt
asks_there n m node (Makes call ∷ more) same a = (ask_there n m node call same a.0, asks_there n m node more same a.1)
asks_there n m node (Syncs ∷ more) same a = asks_there n m node more same a
asks_there n m node (Crashes left ∷ more) same a = asks_there n m node more same a
asks_there n m node (Restarts ∷ more) same a = asks_there n m node more same a

-- moves that say what is wanted
pub record Says (ctx : Context) (s : WorldSettings) (n : Network) (node : Node) (steps : List Step) : Type 0 where
  pub moves : List Move
  pub same : SameAt n (after ctx s n moves)
  pub more : List Packet
  pub wire : (after ctx s n moves).wire ≡ n.wire ++ more
  pub can : CanCome (after ctx s n moves).wire node steps

abbrev Comes : List Packet → Node → Call → Type 0
Comes wire node call = (event : Event) × (asked wire event ≡ Some (record { node = node; call = call }))

comes_taken : (wire : List Packet) (node from : Node) (bytes : List ℕ) → IsAmong wire (record { from = from; to = node; bytes = bytes }) → Comes wire node (Take from bytes)
comes_taken wire node from bytes a = (Delivery a.number, ap (option_map taking) a.is)

comes_advised : (wire : List Packet) (node from : Node) (bytes advice : List ℕ) → IsAmong wire (record { from = from; to = node; bytes = bytes }) → Comes wire node (Adjudicate from bytes advice)
comes_advised wire node from bytes advice a = (Adjudication a.number advice, ap (option_map (adjudicating advice)) a.is)

module _ (ctx : Context) (s : WorldSettings) where
  -- a call that needs no packet
  freely : (n : Network) (node : Node) (call : Call) (more : List Step) → ((wire : List Packet) → Comes wire node call) → Says ctx s n node more → Says ctx s n node (Makes call ∷ more)
  freely n node call more comes r = record { moves = r.moves; same = r.same; more = r.more; wire = r.wire; can = (comes (after ctx s n r.moves).wire, r.can) }

  -- one that takes a packet, which is said first
  taken : (n : Network) (node : Node) (call : Call) (more : List Step) (p : Packet) → IsAmong (posted_by p.from (n.at p.from).synced) p → ((wire : List Packet) → IsAmong wire p → Comes wire node call)
      → ((m : Network) → SameAt n m → Says ctx s m node more) → Says ctx s n node (Makes call ∷ more)
  taken n node call more p a comes rest =
      let said = can_be_said ctx s n p.from p a in
      let m = after ctx s n (said.move ∷ []) in
      let r = rest m said.own in
      let wire : (after ctx s m r.moves).wire ≡ n.wire ++ (p ∷ r.more) = r.wire ∙ (ap (λ (ps : List Packet). ps ++ r.more) said.wire ∙ append_assoc n.wire (p ∷ []) r.more) in
      let there : IsAmong (n.wire ++ (p ∷ r.more)) p = among_right n.wire (p ∷ r.more) p (record { number = suc zero; is = refl }) in
      record {
        moves = said.move ∷ r.moves;
        same = λ other. r.same other ∙ said.own other;
        more = p ∷ r.more;
        wire = wire;
        can = (comes (after ctx s m r.moves).wire (subst (λ (ps : List Packet). IsAmong ps p) (sym wire) there), r.can);
      }

  pub says : (n : Network) (node : Node) (steps : List Step) → CanAskAll n node steps → Says ctx s n node steps
  says n node [] a = record { moves = []; same = λ other. refl; more = []; wire = sym (append-nil n.wire); can = tt }
  says n node (Makes (Take from bytes) ∷ more) a =
      taken n node (Take from bytes) more (record { from = from; to = node; bytes = bytes }) a.0 (λ wire there. comes_taken wire node from bytes there) (λ m same. says m node more (asks_there n m node more same a.1))
  says n node (Makes (Adjudicate from bytes advice) ∷ more) a =
      taken n node (Adjudicate from bytes advice) more (record { from = from; to = node; bytes = bytes }) a.0 (λ wire there. comes_advised wire node from bytes advice there) (λ m same. says m node more (asks_there n m node more same a.1))
  says n (Pharmacy k) (Makes (Submit text) ∷ more) a = freely n (Pharmacy k) (Submit text) more (λ wire. (Submission k text, refl)) (says n (Pharmacy k) more a.1)
  says n (Switch k) (Makes (Submit text) ∷ more) a = absurd (let wrong : false ≡ true = a.0 in cc)
  says n (Payer k) (Makes (Submit text) ∷ more) a = absurd (let wrong : false ≡ true = a.0 in cc)
  says n (Pharmacy k) (Makes Tick ∷ more) a = freely n (Pharmacy k) Tick more (λ wire. (Ticking k, refl)) (says n (Pharmacy k) more a.1)
  says n (Switch k) (Makes Tick ∷ more) a = absurd (let wrong : false ≡ true = a.0 in cc)
  says n (Payer k) (Makes Tick ∷ more) a = absurd (let wrong : false ≡ true = a.0 in cc)
  says n node (Makes (Revise revision) ∷ more) a = freely n node (Revise revision) more (λ wire. (Revising node revision, refl)) (says n node more a.1)
  says n node (Makes Stop ∷ more) a = freely n node Stop more (λ wire. (Stopping node, refl)) (says n node more a.1)
  says n node (Makes Start ∷ more) a = freely n node Start more (λ wire. (Starting node, refl)) (says n node more a.1)
  says n node (Syncs ∷ more) a = let r = says n node more a in record { moves = r.moves; same = r.same; more = r.more; wire = r.wire; can = r.can }
  says n node (Crashes left ∷ more) a = let r = says n node more a in record { moves = r.moves; same = r.same; more = r.more; wire = r.wire; can = r.can }
  says n node (Restarts ∷ more) a = let r = says n node more a in record { moves = r.moves; same = r.same; more = r.more; wire = r.wire; can = r.can }
