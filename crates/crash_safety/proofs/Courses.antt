-- The course of a network, from the beginning.
use Rattle.std.proofs.Common.{◌≡◌, ℕ, zero, suc, Bool, true, false, cond, List, [], ◌∷◌, ◌++◌, Option, Some, None, refl, sym, ap, ◌∙◌, subst, append_assoc}
use Rattle.std.specs.Prelude.{filter}
use Rattle.std.proofs.lemmas.List.{append-nil}
use Rattle.claim_model.specs.Context.{Context}
use Rattle.claim_model.specs.Numbered.{numbered}
use Rattle.claim_model.specs.Node.{Node}
use Rattle.claim_model.specs.World.{Packet, Event, run}
use Rattle.claim_model.specs.Settings.{WorldSettings, opening}
use Rattle.claim_model.specs.Logs.{Logged, posted_by, is_from}
use Rattle.claim_model.proofs.Names.{same_self}
use Rattle.claim_model.proofs.Posting.{are_posted}
use Rattle.claim_model.specs.Nodes.{Asked, asked}
use Rattle.claim_model.proofs.Lists.{numbered_append}
use Rattle.claim_model.proofs.Serving.{Grown}
use Rattle.crash_safety.specs.Network.{Network, Move, Calling, Syncing, Saying, Crashing, Restarting, put, calling, one_synced, saying, crashed, restarted, beginning, moved, after, network}
use Rattle.crash_safety.specs.Runs.{IsAmong, HasRun, Course, IsReplay}
use Rattle.crash_safety.proofs.Sound.{IsSound, begins_soundly}
use Rattle.crash_safety.proofs.Moving.{goes_on}
use Rattle.crash_safety.proofs.Finishing.{files_run}

pub after_append : (ctx : Context) (s : WorldSettings) (n : Network) (moves more : List Move) → after ctx s n (moves ++ more) ≡ after ctx s (after ctx s n moves) more
after_append ctx s n [] more = refl
after_append ctx s n (move ∷ moves) more = after_append ctx s (moved ctx s n move) moves more

pub course : (ctx : Context) (s : WorldSettings) (moves more : List Move) → Course ctx s (network ctx s moves) (network ctx s (moves ++ more))
course ctx s moves more =
    let first = goes_on ctx s beginning [] moves (begins_soundly ctx s) in
    let second = goes_on ctx s (network ctx s moves) first.more more first.sound in
    let sound : IsSound ctx s (network ctx s (moves ++ more)) (first.more ++ second.more) =
    subst (λ (n : Network). IsSound ctx s n (first.more ++ second.more)) (sym (after_append ctx s beginning moves more)) second.sound in
    let files = files_run ctx s (network ctx s (moves ++ more)) (first.more ++ second.more) sound in
    record { before = first.more; between = second.more; beyond = files.beyond; first = first.sound.has; disks = sound.has; files = files.has }

pub replays : (ctx : Context) (s : WorldSettings) (moves : List Move) (node : Node) → IsReplay ctx s node ((network ctx s moves).at node)
replays ctx s moves node =
    let w = (goes_on ctx s beginning [] moves (begins_soundly ctx s)).sound.each node in
    record { memory = w.memory; makes = w.makes }

-- what was said stays said

called_wire : (ctx : Context) (n : Network) (o : Option Asked) → (calling ctx n o).wire ≡ n.wire
called_wire ctx n None = refl
called_wire ctx n (Some a) = refl

said_wire : (n : Network) (o : Option Packet) → Grown n.wire (saying n o).wire
said_wire n None = record { more = []; is = sym (append-nil n.wire) }
said_wire n (Some p) = record { more = p ∷ []; is = refl }

same_wire : (n m : Network) → m.wire ≡ n.wire → Grown n.wire m.wire
same_wire n m e = record { more = []; is = e ∙ sym (append-nil n.wire) }

wire_moved : (ctx : Context) (s : WorldSettings) (n : Network) (move : Move) → Grown n.wire (moved ctx s n move).wire
unfolding moved
wire_moved ctx s n (Calling event) = same_wire n (calling ctx n (asked n.wire event)) (called_wire ctx n (asked n.wire event))
wire_moved ctx s n (Syncing node) = same_wire n (put n node (one_synced (n.at node) (n.at node).unsynced)) refl
wire_moved ctx s n (Saying node k) = said_wire n (numbered (posted_by node (n.at node).synced) k)
wire_moved ctx s n (Crashing node left) = same_wire n (put n node (crashed (n.at node) left)) refl
wire_moved ctx s n (Restarting node) = same_wire n (put n node (restarted ctx s node (n.at node))) refl

wire_grows : (ctx : Context) (s : WorldSettings) (n : Network) (moves : List Move) → Grown n.wire (after ctx s n moves).wire
wire_grows ctx s n [] = same_wire n n refl
wire_grows ctx s n (move ∷ moves) =
    let one = wire_moved ctx s n move in
    let rest = wire_grows ctx s (moved ctx s n move) moves in
    record { more = one.more ++ rest.more; is = rest.is ∙ (ap (λ (ps : List Packet). ps ++ rest.more) one.is ∙ append_assoc n.wire one.more rest.more) }

pub stays_said : (ctx : Context) (s : WorldSettings) (moves more : List Move) (k : ℕ) (p : Packet) → numbered (network ctx s moves).wire k ≡ Some p → (j : ℕ) × (numbered (network ctx s (moves ++ more)).wire j ≡ Some p)
stays_said ctx s moves more k p e =
    let g = wire_grows ctx s (network ctx s moves) more in
    (k, ap (λ (n : Network). numbered n.wire k) (after_append ctx s beginning moves more) ∙ (ap (λ (ps : List Packet). numbered ps k) g.is ∙ numbered_append (network ctx s moves).wire g.more k p e))

-- what was said stands in a log

-- an element that passes a test stands among those that pass it

pub one_further : (packets : List Packet) (p q : Packet) → IsAmong packets p → IsAmong (q ∷ packets) p
one_further packets p q a = further a.number a.is
  where
    further : (n : ℕ) → numbered packets n ≡ Some p → IsAmong (q ∷ packets) p
    further zero e = absurd cc
    further (suc n) e = record { number = suc (suc n); is = e }

kept_further : (b : Bool) (packets : List Packet) (p q : Packet) → IsAmong packets p → IsAmong (cond b (q ∷ packets) packets) p
kept_further true packets p q a = one_further packets p q a
kept_further false packets p q a = a

among_filter : (test : Packet → Bool) (packets : List Packet) (p : Packet) (k : ℕ) → test p ≡ true → numbered packets k ≡ Some p → IsAmong (filter test packets) p
among_filter test packets p zero passes e = absurd cc
among_filter test [] p (suc k) passes e = absurd cc
among_filter test (q ∷ packets) p (suc zero) passes e =
    let same : q ≡ p = cc in
    subst (λ b. IsAmong (cond b (q ∷ filter test packets) (filter test packets)) p) (sym (ap test same ∙ passes)) (record { number = suc zero; is = e })
among_filter test (q ∷ packets) p (suc (suc k)) passes e = kept_further (test q) (filter test packets) p q (among_filter test packets p (suc k) passes e)

pub recorded : (ctx : Context) (s : WorldSettings) (logs : Node → List Logged) (said : List Packet) (events : List Event) (k : ℕ) (p : Packet) → HasRun ctx s logs said events → numbered said k ≡ Some p → IsAmong (posted_by p.from (logs p.from)) p
recorded ctx s logs said events k p h e =
    let sent = h.all k p e in
    let packets = (run ctx (opening s) events).packets in
    subst (λ (log : List Logged). IsAmong (posted_by p.from log) p) (h.each p.from)
    (subst (λ (ps : List Packet). IsAmong ps p) (are_posted ctx (opening s) events p.from) (among_filter (is_from p.from) packets p sent.number (same_self p.from) sent.is))
