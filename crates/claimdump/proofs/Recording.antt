-- What events add to the logs of nodes.
use Rattle.std.proofs.Common.{◌≡◌, ℕ, ◌+◌, ◌-◌, ◌<◌, ◌≤◌, List, [], ◌∷◌, ◌++◌, drop, get_or, length, map, Option, Some, None, refl, sym, ap, subst, ◌∙◌, append_assoc, append-nil, arith}
use Rattle.std.proofs.lemmas.List.{at_drop_more, drop-map, drop_all}
use Rattle.world_setup.specs.Seen.{packet_seen}
use Rattle.world_setup.specs.declared.call.Packet.{Packet as Given}
use Rattle.std.proofs.Math.Seq.{drop-append_seam}
use Rattle.claim_model.specs.Bytes.{bytes_with}
use Rattle.claim_model.specs.Context.{Context}
use Rattle.claim_model.specs.declared.refusal.Refusal.{Refusal}
use Rattle.claim_model.specs.Node.{Node, Sent, Outcome, Done, Refused}
use Rattle.claim_model.specs.World.{World, Packet, Event, packet_from, step, world_after, run}
use Rattle.claim_model.specs.Nodes.{Asked, asked}
use Rattle.claim_model.specs.Logs.{Logged, NodeLog, log_in, logged_by}
use Rattle.claim_model.specs.Local.{Follows}
use Rattle.claim_model.proofs.Ends.{Unchanged, One_call, ended, log_unchanged}
use Rattle.claim_model.proofs.Replaying.{run_unchanged}
use Rattle.world_core.specs.Parts.{context_of}
use Rattle.world_core.specs.Stepping.{next_of}
use Rattle.claimdump.specs.Calls.{sent_as}
use Rattle.claimdump.specs.NodeLogs.{AllLogs, each, with_own, gone_on}
use Rattle.claimdump.specs.Recorded.{sent_from, noted, IsAfter}
use Rattle.claimdump.specs.declared.recorded.Recorded.{Recorded}
use Rattle.claimdump.proofs.NodeLogs.{cons_alike}

-- the same is done to each log
map_alike : (f g : NodeLog → NodeLog) → ((log : NodeLog) → f log ≡ g log) → (logs : List NodeLog) → map f logs ≡ map g logs
map_alike f g alike [] = refl
map_alike f g alike (log ∷ logs) = cons_alike (alike log) (map_alike f g alike logs)

map_self : (f : NodeLog → NodeLog) → ((log : NodeLog) → f log ≡ log) → (logs : List NodeLog) → map f logs ≡ logs
map_self f self [] = refl
map_self f self (log ∷ logs) = cons_alike (self log) (map_self f self logs)

map_twice : (f g h : NodeLog → NodeLog) → ((log : NodeLog) → f log ≡ g (h log)) → (logs : List NodeLog) → map f logs ≡ map g (map h logs)
map_twice f g h twice [] = refl
map_twice f g h twice (log ∷ logs) = cons_alike (twice log) (map_twice f g h twice logs)

each_alike : (f g : NodeLog → NodeLog) → ((log : NodeLog) → f log ≡ g log) → (logs : AllLogs) → each f logs ≡ each g logs
each_alike f g alike logs = λ i. record {
  pharmacies = map_alike f g alike logs.pharmacies i;
  switches = map_alike f g alike logs.switches i;
  payers = map_alike f g alike logs.payers i;
}

each_self : (f : NodeLog → NodeLog) → ((log : NodeLog) → f log ≡ log) → (logs : AllLogs) → each f logs ≡ logs
each_self f self logs = λ i. record {
  pharmacies = map_self f self logs.pharmacies i;
  switches = map_self f self logs.switches i;
  payers = map_self f self logs.payers i;
}

each_twice : (f g h : NodeLog → NodeLog) → ((log : NodeLog) → f log ≡ g (h log)) → (logs : AllLogs) → each f logs ≡ each g (each h logs)
each_twice f g h twice logs = λ i. record {
  pharmacies = map_twice f g h twice logs.pharmacies i;
  switches = map_twice f g h twice logs.switches i;
  payers = map_twice f g h twice logs.payers i;
}

abbrev with_calls : (log : NodeLog) (more : List Logged) → NodeLog
with_calls log more = record { node = log.node; calls = log.calls ++ more }

-- no events add nothing
pub gone_nowhere : (ctx : Context) (w : World) (logs : AllLogs) → each (gone_on ctx w []) logs ≡ logs
gone_nowhere ctx w logs = each_self (gone_on ctx w []) (λ log. λ i. record { node = log.node; calls = append-nil log.calls i }) logs

-- nor does a refused event
pub refused_adds : (ctx : Context) (w : World) (event : Event) (why : Refusal) → step ctx w event ≡ Refused why → (logs : AllLogs) → each (gone_on ctx w (event ∷ [])) logs ≡ logs
refused_adds ctx w event why q logs =
    each_self (gone_on ctx w (event ∷ []))
    (λ log. ap (with_calls log) (log_unchanged ctx w event [] log.node why q) ∙ (λ i. record { node = log.node; calls = append-nil log.calls i })) logs

-- what was sent is what was posted
as_sent : (node : Node) (sent : List Sent) → map sent_as (map (packet_from node) sent) ≡ sent
as_sent node [] = refl
as_sent node (s ∷ sent) = ap (λ (more : List Sent). s ∷ more) (as_sent node sent)

pub sent_is : (w v : World) (node : Node) (sent : List Sent) (first : ℕ) → v.packets ≡ w.packets ++ map (packet_from node) sent → first ≡ length w.packets + 1 → sent_from v.packets first ≡ sent
sent_is w v node sent first posts is =
    ap (λ (ps : List Packet). map sent_as (drop (first - 1) ps)) posts
    ∙ (ap (λ (k : ℕ). map sent_as (drop k (w.packets ++ map (packet_from node) sent))) (omega (arith, is))
    ∙ (ap (λ (ps : List Packet). map sent_as ps) (drop-append_seam w.packets (map (packet_from node) sent))
    ∙ as_sent node sent))

-- an accepted event adds its call, with what was sent
pub accepted_adds : (ctx : Context) (w v : World) (event : Event) (a : Asked) (sent : List Sent) → asked w.packets event ≡ Some a → step ctx w event ≡ Done v sent
    → (logs : AllLogs) → each (with_own a.node (record { call = a.call; sent = sent })) logs ≡ each (gone_on ctx w (event ∷ [])) logs
accepted_adds ctx w v event a sent p q logs =
    each_alike (with_own a.node (record { call = a.call; sent = sent })) (gone_on ctx w (event ∷ []))
    (λ log. ap (with_calls log)
    (sym (append-nil (logged_by log.node (Some a) (Done v sent)))
    ∙ (ap (λ (o : Option Asked). logged_by log.node o (Done v sent) ++ []) (sym p)
    ∙ ap (λ (o : Outcome World). logged_by log.node (asked w.packets event) o ++ []) (sym q)))) logs

-- an event, and then others
pub gone_on_more : (ctx : Context) (w : World) (event : Event) (events : List Event) (logs : AllLogs)
    → each (gone_on ctx w (event ∷ events)) logs ≡ each (gone_on ctx (world_after w (step ctx w event)) events) (each (gone_on ctx w (event ∷ [])) logs)
gone_on_more ctx w event events logs =
    each_twice (gone_on ctx w (event ∷ events)) (gone_on ctx (world_after w (step ctx w event)) events) (gone_on ctx w (event ∷ []))
    (λ log.
    let one = logged_by log.node (asked w.packets event) (step ctx w event) in
    let rest = log_in ctx (world_after w (step ctx w event)) events log.node in
    ap (λ (l : List Logged). with_calls log (l ++ rest)) (sym (append-nil one)) ∙ sym (ap (λ (l : List Logged). let more : NodeLog = record { node = log.node; calls = l } in more) (append_assoc log.calls (one ++ []) rest))) logs

-- a refused event leaves the world
pub refused_stays : (ctx : Context) (w : World) (event : Event) (why : Refusal) → step ctx w event ≡ Refused why → w ≡ run ctx w (event ∷ [])
refused_stays ctx w event why q = sym (run_unchanged ctx w event [] (Refused why) q)

-- an accepted one leads on, and its call is noted
pub record Made (ctx : Context) (w v : World) (event : Event) (old new : AllLogs) : Type 0 where
  pub world : v ≡ run ctx w (event ∷ [])
  pub logs : new ≡ each (gone_on ctx w (event ∷ [])) old

made_by : (ctx : Context) (w v : World) (event : Event) (o : Option Asked) (first : ℕ) (logs new : AllLogs) (a : Asked) (sent : List Sent) → asked w.packets event ≡ Some a → step ctx w event ≡ Done v sent → Follows ctx w v a.node a.call sent
    → o ≡ asked w.packets event → first ≡ length w.packets + 1 → new ≡ noted o (sent_from v.packets first) logs → Made ctx w v event logs new
made_by ctx w v event o first logs new a sent p q f of number is = record {
  world = sym (run_unchanged ctx w event [] (Done v sent) q);
  logs = is ∙ (ap (λ (x : Option Asked). noted x (sent_from v.packets first) logs) (of ∙ p)
      ∙ (ap (λ (s : List Sent). noted (Some a) s logs) (sent_is w v a.node sent first f.posts number) ∙ accepted_adds ctx w v event a sent p q logs));
}

pub made : (ctx : Context) (w v : World) (event : Event) (o : Option Asked) (first : ℕ) (logs new : AllLogs) → next_of (step ctx w event) ≡ Some v → o ≡ asked w.packets event → first ≡ length w.packets + 1
    → new ≡ noted o (sent_from v.packets first) logs → Made ctx w v event logs new
made ctx w v event o first logs new next of number is =
    elim (ended ctx w event) [
      | Unchanged why q ↦ let wrong : None ≡ Some v = sym (ap next_of q) ∙ next in absurd cc
      | One_call a u sent p q f ↦
          let some : Some u ≡ Some v = sym (ap next_of q) ∙ next in
          let same : u ≡ v = cc in
          made_by ctx w v event o first logs new a sent p (q ∙ ap (λ (x : World). Done x sent) same) (subst (λ (x : World). Follows ctx w x a.node a.call sent) same f) of number is
    ]

-- what is left of some events leads to what all of them lead to
pub record Left (before now : Recorded) (left all : List Event) : Type 0 where
  pub routes : now.world.routes ≡ before.world.routes
  pub world : run (context_of before.world) now.world.world left ≡ run (context_of before.world) before.world.world all
  pub logs : each (gone_on (context_of before.world) now.world.world left) now.logs ≡ each (gone_on (context_of before.world) before.world.world all) before.logs

pub goes_on : (before now next : Recorded) (event : Event) (events all : List Event) → IsAfter (event ∷ []) now next → Left before now (event ∷ events) all → Left before next events all
goes_on before now next event events all after l =
    let ctx = context_of before.world in
    let w = now.world.world in
    let same : context_of now.world ≡ ctx = ap bytes_with l.routes in
    let world : next.world.world ≡ run ctx w (event ∷ []) = after.world ∙ ap (λ (c : Context). run c w (event ∷ [])) same in
    let logs : next.logs ≡ each (gone_on ctx w (event ∷ [])) now.logs = after.logs ∙ ap (λ (c : Context). each (gone_on c w (event ∷ [])) now.logs) same in
    record {
      routes = after.routes ∙ l.routes;
      world = ap (λ (v : World). run ctx v events) world ∙ l.world;
      logs = ap (λ (v : World). each (gone_on ctx v events) next.logs) world
          ∙ (ap (each (gone_on ctx (run ctx w (event ∷ [])) events)) logs ∙ (sym (gone_on_more ctx w event events now.logs) ∙ l.logs));
    }

-- where none is left, they were all made
pub all_made : (before now : Recorded) (all : List Event) → Left before now [] all → IsAfter all before now
all_made before now all l = record {
  world = l.world;
  routes = l.routes;
  logs = sym (gone_nowhere (context_of before.world) now.world.world now.logs) ∙ l.logs;
}

-- a packet more, as it was sent
pub sents_go_on : (a b whole : List Sent) (xs : List Given) (i : ℕ) (x : Given) → i < length xs → x ≡ get_or xs i x → b ≡ a ++ sent_as (packet_seen x) ∷ []
    → a ++ map sent_as (map packet_seen (drop i xs)) ≡ whole → b ++ map sent_as (map packet_seen (drop (i + 1) xs)) ≡ whole
sents_go_on a b whole xs i x lt is added so_far =
    let rest = map sent_as (map packet_seen (drop (i + 1) xs)) in
    ap (λ (l : List Sent). l ++ rest) added
    ∙ (append_assoc a (sent_as (packet_seen x) ∷ []) rest
    ∙ (ap (λ (y : Given). a ++ sent_as (packet_seen y) ∷ rest) is
    ∙ (sym (at_drop_more (λ (l : List Given). a ++ map sent_as (map packet_seen l)) xs i x lt) ∙ so_far)))

pub sents_are : (a : List Sent) (xs packets : List Given) (i first : ℕ) → length xs ≤ i → xs ≡ drop (first - 1) packets → a ++ map sent_as (map packet_seen (drop i xs)) ≡ map sent_as (map packet_seen xs)
    → a ≡ sent_from (map packet_seen packets) first
sents_are a xs packets i first le is so_far =
    sym (append-nil a)
    ∙ (ap (λ (l : List Given). a ++ map sent_as (map packet_seen l)) (sym (drop_all i xs le))
    ∙ (so_far ∙ (ap (λ (l : List Given). map sent_as (map packet_seen l)) is ∙ ap (map sent_as) (sym (drop-map packet_seen (first - 1) packets)))))
