-- One event more, in what a search for an order keeps.
use Rattle.std.proofs.Common.{◌≡◌, ℕ, zero, suc, ◌<◌, ◌==◌, true, false, List, [], ◌∷◌, ◌++◌, map, length, drop, get_or, slice_set, refl, sym, ap, ◌∙◌, subst}
use Rattle.std.specs.List.{list_all}
use Rattle.claim_model.specs.Node.{Node, Sent}
use Rattle.claim_model.specs.World.{Packet, posted}
use Rattle.world_setup.specs.Seen.{node_seen, event_seen}
use Rattle.world_setup.specs.declared.event.Event.{Event}
use Rattle.claim_model.specs.Logs.{Logged, NodeLog}
use Rattle.claim_model.proofs.Options.{same_some}
use Rattle.run_merge.specs.Order.{Completes, NoOrder}
use Rattle.run_merge.specs.Line.{GoesAt, OrderParts, IsPlaced, IsStill, IsMadeByEvents, AllPlaced, AllWait}
use Rattle.run_merge.specs.LineSeen.{line_seen, lines_seen}
use Rattle.run_merge.specs.declared.line.Line.{Line}
use Rattle.run_merge.proofs.Places.{found_at, map_more, placed_all, placed_not}
use Rattle.run_merge.proofs.Lines.{all_made, none_made}

lines_set : (lines : List Line) (k : ℕ) (x : Line) → lines_seen (slice_set lines k x) ≡ slice_set (lines_seen lines) k (line_seen x)
lines_set [] k x = refl
lines_set (l ∷ lines) zero x = refl
lines_set (l ∷ lines) (suc k) x = ap (λ (xs : List NodeLog). line_seen l ∷ xs) (lines_set lines k x)

first_is : (calls more : List Logged) (one first : Logged) → calls ≡ first ∷ more → one ≡ get_or calls 0 one → one ≡ first
first_is calls more one first h e = e ∙ ap (λ (x : List Logged). get_or x 0 one) h

pub placed : (lines : List Line) (place : ℕ) (line after : Line) (one : Logged) (packets next : List Packet) (sent : List Sent) (events more : List Event) (event : Event)
    → place < length lines → line ≡ get_or lines place line → GoesAt packets (lines_seen lines) place (event_seen event) → one ≡ get_or line.left.now 0 one
    → next ≡ posted packets (node_seen line.node) sent → sent ≡ one.sent → more ≡ events ++ event ∷ [] → line_seen after ≡ record { node = node_seen line.node; calls = drop 1 line.left.now }
    → IsPlaced (record { lines = lines_seen lines; packets = packets; events = map event_seen events }) (record { lines = lines_seen (slice_set lines place after); packets = next; events = map event_seen more })
placed lines place line after one packets next sent events more event lt is g one_is next_is sent_is more_is after_is =
    let log_is : line_seen line ≡ g.log = same_some (line_seen line) g.log (sym (found_at line_seen lines place line lt is) ∙ g.at) in
    let node_is : node_seen line.node ≡ g.log.node = ap (λ (x : NodeLog). x.node) log_is in
    let left_is : line.left.now ≡ g.goes.first ∷ g.goes.calls = ap (λ (x : NodeLog). x.calls) log_is ∙ g.goes.is in
    let first : one ≡ g.goes.first = first_is line.left.now g.goes.calls one g.goes.first left_is one_is in
    let sends : sent ≡ g.goes.first.sent = sent_is ∙ ap (λ (x : Logged). x.sent) first in
    let rest : drop 1 line.left.now ≡ g.goes.calls = ap (drop 1) left_is in
    let after_log : line_seen after ≡ record { node = g.log.node; calls = g.goes.calls } = after_is ∙ (λ i. record { node = node_is i; calls = rest i }) in
    record {
      place = place;
      event = event_seen event;
      log = g.log;
      first = g.goes.first;
      calls = g.goes.calls;
      at = g.at;
      is = g.goes.is;
      asks = g.goes.asks;
      lines = lines_set lines place after ∙ ap (λ (x : NodeLog). slice_set (lines_seen lines) place x) after_log;
      packets = next_is ∙ (λ i. posted packets (node_is i) (sends i));
      events = ap (map event_seen) more_is ∙ map_more event_seen events event;
    }

-- an order that did not change, and whose logs all wait
pub still_after : (old new : OrderParts) → new ≡ old → AllWait new.packets new.lines → IsStill old new
still_after old new e w = record {
  lines = ap (λ (o : OrderParts). o.lines) e;
  packets = ap (λ (o : OrderParts). o.packets) e;
  events = ap (λ (o : OrderParts). o.events) e;
  wait = subst (λ (o : OrderParts). AllWait o.packets o.lines) e w;
}

made_still : (given : Node → List Logged) (old new : OrderParts) → IsMadeByEvents given old → IsStill old new → IsMadeByEvents given new
made_still given old new m s =
    let e : old ≡ new = λ i. record { lines = sym s.lines i; packets = sym s.packets i; events = sym s.events i } in
    subst (IsMadeByEvents given) e m

pub still_done : (given : Node → List Logged) (old new : OrderParts) (lines : List Line) → IsMadeByEvents given old → IsStill old new → new.lines ≡ lines_seen lines → list_all (λ line. length line.left.now == 0) lines ≡ true → Completes given new.events new.packets
still_done given old new lines m s e h = all_made given new (made_still given old new m s) (subst AllPlaced (sym e) (placed_all lines h))

pub still_none : (given : Node → List Logged) (old new : OrderParts) (lines : List Line) → IsMadeByEvents given old → IsStill old new → new.lines ≡ lines_seen lines → list_all (λ line. length line.left.now == 0) lines ≡ false → NoOrder given
still_none given old new lines m s e h =
    let a : AllWait new.packets old.lines = subst (λ (ps : List Packet). AllWait ps old.lines) (sym s.packets) s.wait in
    let w : AllWait new.packets new.lines = subst (λ (ls : List NodeLog). AllWait new.packets ls) (sym s.lines) a in
    none_made given new (made_still given old new m s) w (λ f. placed_not lines h (subst AllPlaced e f))
