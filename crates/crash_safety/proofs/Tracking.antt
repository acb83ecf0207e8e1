-- Of every run the calls of pharmacies and payers are explained: what a switch sends was sent to it, or is the fixed rejection.
use Rattle.std.proofs.Common.{◌≡◌, ℕ, Bool, cond, List, [], ◌∷◌, ◌++◌, map, Option, Some, None, refl, sym, ap, ◌∙◌, subst, inl, inr}
use Rattle.std.specs.List.{AllByRecursion}
use Rattle.claim_model.specs.Context.{Context}
use Rattle.claim_model.specs.Laws.{Laws}
use Rattle.claim_model.specs.declared.refusal.Refusal.{Refusal}
use Rattle.claim_model.specs.Numbered.{numbered}
use Rattle.claim_model.specs.Table.{Table}
use Rattle.claim_model.specs.Node.{Node, Pharmacy, Switch, Payer, Power, Up, Sent, Call, Outcome, Done, Refused, pharmacy_step, switch_step}
use Rattle.claim_model.specs.World.{World, Packet, Event, packet_from, step, world_after, run}
use Rattle.claim_model.specs.Settings.{WorldSettings, Accepts, opening}
use Rattle.claim_model.specs.Nodes.{AnyNode, OfPharmacy, OfSwitch, node_step, node_at, same_node, Asked, asked}
use Rattle.claim_model.specs.Logs.{Logged, log_in, Makes}
use Rattle.claim_model.specs.Local.{Follows}
use Rattle.claim_model.specs.Promises.{Reached}
use Rattle.claim_model.proofs.Lists.{all_at, all_map}
use Rattle.claim_model.proofs.Options.{map_some, same_some}
use Rattle.claim_model.proofs.Names.{told_apart}
use Rattle.claim_model.proofs.Ends.{Unchanged, One_call, ended, log_unchanged, log_own, log_other}
use Rattle.claim_model.proofs.Replaying.{replays, absent_stays, run_unchanged}
use Rattle.crash_safety.specs.Runs.{IsAmong}
use Rattle.crash_safety.specs.Explained.{Turn, log_among, Explained, IsThereIn, IsExplainedOrder, turns_at, turns_by, outside}
use Rattle.crash_safety.proofs.Sound.{nothing_numbered}
use Rattle.crash_safety.proofs.Ways.{reached_on}
use Rattle.crash_safety.proofs.Sources.{among_split, NoSwitch, as_node_done}
use Rattle.crash_safety.proofs.Tracked.{TrackedFrom, TrackedPacket, TableSource, Tracked, from_later, table_later, CallTracked, asked_tracked, explained_of, made_by_pharmacy, made_by_payer, AsksSwitch, pharmacy_asks, SentTracked, pharmacy_tracked, payer_tracked}
use Rattle.crash_safety.proofs.Relaying.{switch_tracked}

-- ---- event by event

-- the turns after an event
pub outside_unchanged : (ctx : Context) (w : World) (event : Event) (events : List Event) (why : Refusal) → step ctx w event ≡ Refused why → outside ctx w (event ∷ events) ≡ outside ctx w events
outside_unchanged ctx w event events why q =
    ap (λ (o : Outcome World). turns_by (asked w.packets event) o ++ outside ctx (world_after w o) events) q
    ∙ ap (λ (ts : List Turn). ts ++ outside ctx w events) (none_by (asked w.packets event))
  where
    none_by : (o : Option Asked) → turns_by o (Refused why) ≡ []
    none_by None = refl
    none_by (Some a) = refl

pub outside_called : (ctx : Context) (w v : World) (event : Event) (events : List Event) (a : Asked) (sent : List Sent) → asked w.packets event ≡ Some a → step ctx w event ≡ Done v sent
    → outside ctx w (event ∷ events) ≡ turns_at a.node a.call sent ++ outside ctx v events
outside_called ctx w v event events a sent p q =
    ap (λ (o : Outcome World). turns_by (asked w.packets event) o ++ outside ctx (world_after w o) events) q
    ∙ ap (λ (o : Option Asked). turns_by o (Done v sent) ++ outside ctx v events) p

-- the world after a call of a pharmacy or a payer
tracked_after : (ctx : Context) (s : WorldSettings) (w v : World) (packets more : List Packet) (node : Node) (call : Call) (sent : List Sent) → Tracked ctx s w packets → Reached ctx s v → Follows ctx w v node call sent
    → AllByRecursion (SentTracked ctx (packets ++ more) node) sent → ((m : ℕ) (x : Power Table ℕ) → node_at v (Switch m) ≡ Some (OfSwitch x) → TableSource ctx (packets ++ more) m x) → Tracked ctx s v (packets ++ more)
tracked_after ctx s w v packets more node call sent x r f all tables = record {
  reached = r;
  each = λ p a. elim (among_split w.packets (map (packet_from node) sent) p (subst (λ (ps : List Packet). IsAmong ps p) f.posts a)) [
    | inl old ↦ from_later ctx packets more p.from p.to p.bytes (x.each p old)
    | inr new ↦ all_at (TrackedPacket ctx (packets ++ more)) (map (packet_from node) sent) new.number p
        (all_map (SentTracked ctx (packets ++ more) node) (TrackedPacket ctx (packets ++ more)) (packet_from node) (λ y t. t) sent all) new.is
  ];
  tables = tables;
}

kind_of_pharmacy : (ctx : Context) (s : WorldSettings) (v : World) (n : ℕ) (call : Call) (now next : AnyNode) (sent : List Sent) (w : World) → Reached ctx s v → node_at w (Pharmacy n) ≡ Some now → node_at v (Pharmacy n) ≡ Some next → node_step ctx now call ≡ Done next sent
    → AllByRecursion (AsksSwitch ctx n) sent
kind_of_pharmacy ctx s v n call now next sent w r is at steps =
    let j = map_some OfPharmacy (numbered w.pharmacies n) now is in
    let d = as_node_done OfPharmacy (pharmacy_step ctx j.0 call) next sent (ap (λ (y : AnyNode). node_step ctx y call) j.2 ∙ steps) in
    pharmacy_asks ctx s v n j.0 d.0 call sent r (at ∙ ap (λ (y : AnyNode). Some y) (sym d.2)) d.1

tables_stay : (ctx : Context) (s : WorldSettings) (w v : World) (packets more : List Packet) (node : Node) (call : Call) (sent : List Sent) → NoSwitch node → Tracked ctx s w packets → Follows ctx w v node call sent
    → (m : ℕ) (x : Power Table ℕ) → node_at v (Switch m) ≡ Some (OfSwitch x) → TableSource ctx (packets ++ more) m x
tables_stay ctx s w v packets more node call sent d t f m x e = table_later ctx packets more m x (t.tables m x (sym (f.others (Switch m) (λ g. d m (sym g))) ∙ e))

same_tables : (x y : Power Table ℕ) → OfSwitch x ≡ OfSwitch y → x ≡ y
same_tables x y e = cc

with_nothing : (ctx : Context) (s : WorldSettings) (w : World) (packets : List Packet) → Tracked ctx s w (packets ++ []) → Tracked ctx s w packets
with_nothing ctx s w packets t = subst (Tracked ctx s w) (Rattle.std.proofs.lemmas.List.append-nil packets) t

to_nothing : (packets : List Packet) → packets ≡ packets ++ []
to_nothing packets = sym (Rattle.std.proofs.lemmas.List.append-nil packets)

switch_after : (ctx : Context) (s : WorldSettings) (w v : World) (packets : List Packet) (m : ℕ) (call : Call) (sent : List Sent) → Tracked ctx s w packets → Reached ctx s v → Follows ctx w v (Switch m) call sent → CallTracked ctx w packets (Switch m) call → Tracked ctx s v packets
switch_after ctx s w v packets m call sent t r f c =
    let y = map_some OfSwitch (numbered w.switches m) f.before f.was in
    let d = as_node_done OfSwitch (switch_step ctx y.0 call) f.after sent (ap (λ (z : AnyNode). node_step ctx z call) y.2 ∙ f.steps) in
    let table = t.tables m y.0 (f.was ∙ ap (λ (z : AnyNode). Some z) (sym y.2)) in
    let k = switch_tracked ctx w packets m y.0 d.0 call sent r.laws table c d.1 in
    with_nothing ctx s v packets
    (tracked_after ctx s w v packets [] (Switch m) call sent t r f (subst (λ (ps : List Packet). AllByRecursion (SentTracked ctx ps (Switch m)) sent) (to_nothing packets) k.sends)
    (λ n x e. subst (λ (ps : List Packet). TableSource ctx ps n x) (to_nothing packets)
    (elim (told_apart (Switch m) (Switch n)) [
      | inl same ↦
          let is : OfSwitch d.0 ≡ OfSwitch x = same_some (OfSwitch d.0) (OfSwitch x) (ap (λ (z : AnyNode). Some z) d.2 ∙ (sym f.is ∙ (ap (node_at v) same.1 ∙ e))) in
          let number : m ≡ n = let g : Switch m ≡ Switch n = same.1 in cc in
          subst (λ (l : ℕ). TableSource ctx packets l x) number (subst (TableSource ctx packets m) (same_tables d.0 x is) k.table)
      | inr other ↦ t.tables n x (sym (f.others (Switch n) (λ g. other.1 (sym g))) ∙ e)
    ])))

-- one call of a run: what it adds to the turns is explained, and so is the rest
called_explained : (ctx : Context) (s : WorldSettings) (w v : World) (packets : List Packet) (node : Node) (call : Call) (sent : List Sent) (rest : List Turn) → Tracked ctx s w packets → Reached ctx s v → Follows ctx w v node call sent → CallTracked ctx w packets node call
    → ((later : List Packet) → Tracked ctx s v later → Explained ctx later rest) → Explained ctx packets (turns_at node call sent ++ rest)
called_explained ctx s w v packets (Switch m) call sent rest t r f c go = go packets (switch_after ctx s w v packets m call sent t r f c)
called_explained ctx s w v packets (Pharmacy n) call sent rest t r f c go =
    let new = map (packet_from (Pharmacy n)) sent in (
      explained_of ctx w packets (Pharmacy n) call (λ m e. cc) (made_by_pharmacy ctx w n call f.before f.after sent f.was f.steps) c,
      go (packets ++ new)
          (tracked_after ctx s w v packets new (Pharmacy n) call sent t r f
          (pharmacy_tracked ctx packets n sent (kind_of_pharmacy ctx s v n call f.before f.after sent w r f.was f.is f.steps)) (tables_stay ctx s w v packets new (Pharmacy n) call sent (λ m e. cc) t f)),
    )
called_explained ctx s w v packets (Payer n) call sent rest t r f c go =
    let new = map (packet_from (Payer n)) sent in (
      explained_of ctx w packets (Payer n) call (λ m e. cc) (made_by_payer ctx w n call f.before f.after sent f.was f.steps) c,
      go (packets ++ new)
          (tracked_after ctx s w v packets new (Payer n) call sent t r f
          (payer_tracked ctx s w v packets n call f.before f.after sent t.reached r f.was f.is f.steps c) (tables_stay ctx s w v packets new (Payer n) call sent (λ m e. cc) t f)),
    )

track : (ctx : Context) (s : WorldSettings) (w : World) (packets : List Packet) (events : List Event) → Tracked ctx s w packets → Explained ctx packets (outside ctx w events)
track ctx s w packets [] t = tt
track ctx s w packets (event ∷ events) t =
    elim (ended ctx w event) [
      | Unchanged why q ↦ subst (Explained ctx packets) (sym (outside_unchanged ctx w event events why q)) (track ctx s w packets events t)
      | One_call a v sent p q f ↦
          subst (Explained ctx packets) (sym (outside_called ctx w v event events a sent p q))
          (called_explained ctx s w v packets a.node a.call sent (outside ctx v events) t (reached_on ctx s w v event sent t.reached q) f (asked_tracked ctx s w packets event a t p) (λ later x. track ctx s v later events x))
    ]

-- and so is the world at the end
called_tracked : (ctx : Context) (s : WorldSettings) (w v : World) (packets : List Packet) (node : Node) (call : Call) (sent : List Sent) → Tracked ctx s w packets → Reached ctx s v → Follows ctx w v node call sent → CallTracked ctx w packets node call
    → (later : List Packet) × Tracked ctx s v later
called_tracked ctx s w v packets (Switch m) call sent t r f c = (packets, switch_after ctx s w v packets m call sent t r f c)
called_tracked ctx s w v packets (Pharmacy n) call sent t r f c =
    let new = map (packet_from (Pharmacy n)) sent in (
      packets ++ new,
      tracked_after ctx s w v packets new (Pharmacy n) call sent t r f
          (pharmacy_tracked ctx packets n sent (kind_of_pharmacy ctx s v n call f.before f.after sent w r f.was f.is f.steps)) (tables_stay ctx s w v packets new (Pharmacy n) call sent (λ m e. cc) t f),
    )
called_tracked ctx s w v packets (Payer n) call sent t r f c =
    let new = map (packet_from (Payer n)) sent in (
      packets ++ new,
      tracked_after ctx s w v packets new (Payer n) call sent t r f
          (payer_tracked ctx s w v packets n call f.before f.after sent t.reached r f.was f.is f.steps c) (tables_stay ctx s w v packets new (Payer n) call sent (λ m e. cc) t f),
    )

track_end : (ctx : Context) (s : WorldSettings) (w : World) (packets : List Packet) (events : List Event) → Tracked ctx s w packets → (later : List Packet) × Tracked ctx s (run ctx w events) later
track_end ctx s w packets [] t = (packets, t)
track_end ctx s w packets (event ∷ events) t =
    elim (ended ctx w event) [
      | Unchanged why q ↦ subst (λ (x : World). (later : List Packet) × Tracked ctx s x later) (sym (run_unchanged ctx w event events (Refused why) q)) (track_end ctx s w packets events t)
      | One_call a v sent p q f ↦
          let c = called_tracked ctx s w v packets a.node a.call sent t (reached_on ctx s w v event sent t.reached q) f (asked_tracked ctx s w packets event a t p) in
          subst (λ (x : World). (later : List Packet) × Tracked ctx s x later) (sym (run_unchanged ctx w event events (Done v sent) q)) (track_end ctx s v c.0 events c.1)
    ]

-- ---- logs

log_turns : (node other : Node) (call : Call) (sent : List Sent) (rest : List Turn) → NoSwitch other → log_among (turns_at node call sent ++ rest) other ≡ cond (same_node node other) (record { call = call; sent = sent } ∷ []) [] ++ log_among rest other
log_turns (Pharmacy n) other call sent rest d = refl
log_turns (Payer n) other call sent rest d = refl
log_turns (Switch m) (Pharmacy k) call sent rest d = refl
log_turns (Switch m) (Payer k) call sent rest d = refl
log_turns (Switch m) (Switch k) call sent rest d = absurd (d k refl)

pub logs_outside : (ctx : Context) (w : World) (events : List Event) (node : Node) → NoSwitch node → log_among (outside ctx w events) node ≡ log_in ctx w events node
logs_outside ctx w [] node d = refl
logs_outside ctx w (event ∷ events) node d =
    elim (ended ctx w event) [
      | Unchanged why q ↦ ap (λ (ts : List Turn). log_among ts node) (outside_unchanged ctx w event events why q) ∙ (logs_outside ctx w events node d ∙ sym (log_unchanged ctx w event events node why q))
      | One_call a v sent p q f ↦
          let l : Logged = record { call = a.call; sent = sent } in
          let rest = logs_outside ctx v events node d in
          ap (λ (ts : List Turn). log_among ts node) (outside_called ctx w v event events a sent p q)
          ∙ (log_turns a.node node a.call sent (outside ctx v events) d
          ∙ (elim (told_apart a.node node) [
            | inl same ↦
                ap (λ (b : Bool). cond b (l ∷ []) [] ++ log_among (outside ctx v events) node) same.0
                ∙ (ap (λ (log : List Logged). l ∷ log) rest ∙ sym (log_own ctx w v event events node a sent p q same.0))
            | inr other ↦
                ap (λ (b : Bool). cond b (l ∷ []) [] ++ log_among (outside ctx v events) node) other.0
                ∙ (rest ∙ sym (log_other ctx w v event events node a sent p q other.0))
          ]))
    ]

none_of_switch : (node : Node) (m : ℕ) (call : Call) (sent : List Sent) (rest : List Turn) → log_among (turns_at node call sent ++ rest) (Switch m) ≡ log_among rest (Switch m)
none_of_switch (Pharmacy n) m call sent rest = refl
none_of_switch (Payer n) m call sent rest = refl
none_of_switch (Switch k) m call sent rest = refl

no_switch_outside : (ctx : Context) (w : World) (events : List Event) (m : ℕ) → log_among (outside ctx w events) (Switch m) ≡ []
no_switch_outside ctx w [] m = refl
no_switch_outside ctx w (event ∷ events) m =
    elim (ended ctx w event) [
      | Unchanged why q ↦ ap (λ (ts : List Turn). log_among ts (Switch m)) (outside_unchanged ctx w event events why q) ∙ no_switch_outside ctx w events m
      | One_call a v sent p q f ↦
          ap (λ (ts : List Turn). log_among ts (Switch m)) (outside_called ctx w v event events a sent p q)
          ∙ (none_of_switch a.node m a.call sent (outside ctx v events) ∙ no_switch_outside ctx v events m)
    ]

outside_made : (ctx : Context) (w : World) (events : List Event) (node : Node) (before : AnyNode) → node_at w node ≡ Some before → Makes ctx before (log_among (outside ctx w events) node)
outside_made ctx w events (Pharmacy k) before is = subst (Makes ctx before) (sym (logs_outside ctx w events (Pharmacy k) (λ m e. cc))) (replays ctx w events (Pharmacy k) before is).makes
outside_made ctx w events (Payer k) before is = subst (Makes ctx before) (sym (logs_outside ctx w events (Payer k) (λ m e. cc))) (replays ctx w events (Payer k) before is).makes
outside_made ctx w events (Switch m) before is = subst (Makes ctx before) (sym (no_switch_outside ctx w events m)) tt

-- ---- the nodes of turns are there

there_first : (ctx : Context) (s : WorldSettings) (w : World) (node : Node) (x : AnyNode) → Reached ctx s w → node_at w node ≡ Some x → (y : AnyNode) × (node_at (opening s) node ≡ Some y)
there_first ctx s w node x r is = by_option (node_at (opening s) node) refl
  where
    none_some : ◌≡◌ {A = Option AnyNode} None (Some x) → ⊥
    none_some e = cc

    by_option : (o : Option AnyNode) → node_at (opening s) node ≡ o → (y : AnyNode) × (node_at (opening s) node ≡ Some y)
    by_option (Some y) e = (y, e)
    by_option None e = absurd (none_some (sym (absent_stays ctx (opening s) r.events node e).1 ∙ (ap (λ (u : World). node_at u node) r.leads ∙ is)))

turns_there : (s : WorldSettings) (node : Node) (call : Call) (sent : List Sent) (rest : List Turn) → (y : AnyNode) × (node_at (opening s) node ≡ Some y) → AllByRecursion (IsThereIn (opening s)) rest → AllByRecursion (IsThereIn (opening s)) (turns_at node call sent ++ rest)
turns_there s (Pharmacy n) call sent rest y all = (y, all)
turns_there s (Payer n) call sent rest y all = (y, all)
turns_there s (Switch m) call sent rest y all = all

outside_there : (ctx : Context) (s : WorldSettings) (w : World) (events : List Event) → Reached ctx s w → AllByRecursion (IsThereIn (opening s)) (outside ctx w events)
outside_there ctx s w [] r = tt
outside_there ctx s w (event ∷ events) r =
    elim (ended ctx w event) [
      | Unchanged why q ↦ subst (AllByRecursion (IsThereIn (opening s))) (sym (outside_unchanged ctx w event events why q)) (outside_there ctx s w events r)
      | One_call a v sent p q f ↦
          subst (AllByRecursion (IsThereIn (opening s))) (sym (outside_called ctx w v event events a sent p q))
          (turns_there s a.node a.call sent (outside ctx v events) (there_first ctx s w a.node f.before r f.was) (outside_there ctx s v events (reached_on ctx s w v event sent r q)))
    ]

-- ---- all of it

opening_tables : (ctx : Context) (s : WorldSettings) (m : ℕ) (x : Power Table ℕ) → node_at (opening s) (Switch m) ≡ Some (OfSwitch x) → TableSource ctx [] m x
opening_tables ctx s m x e =
    let c = Rattle.crash_safety.proofs.Caps.opens_empty s m (OfSwitch x) e in
    subst (TableSource ctx [] m) (sym (same_tables x (Up (record { cap = c.0; entries = [] })) c.1)) tt

pub runs_explained : (ctx : Context) (s : WorldSettings) (events : List Event) → Laws ctx → Accepts ctx s → IsExplainedOrder ctx s (outside ctx (opening s) events)
runs_explained ctx s events laws accepts =
    let r : Reached ctx s (opening s) = record { laws = laws; accepts = accepts; events = []; leads = refl } in
    record {
      there = outside_there ctx s (opening s) events r;
      makes = outside_made ctx (opening s) events;
      explained = track ctx s (opening s) [] events (record { reached = r; each = λ p a. absurd (nothing_numbered a.number p a.is); tables = opening_tables ctx s });
    }

pub pharmacy_logs : (ctx : Context) (w : World) (events : List Event) (k : ℕ) → log_among (outside ctx w events) (Pharmacy k) ≡ log_in ctx w events (Pharmacy k)
pharmacy_logs ctx w events k = logs_outside ctx w events (Pharmacy k) (λ m e. cc)

pub payer_logs : (ctx : Context) (w : World) (events : List Event) (k : ℕ) → log_among (outside ctx w events) (Payer k) ≡ log_in ctx w events (Payer k)
payer_logs ctx w events k = logs_outside ctx w events (Payer k) (λ m e. cc)

-- what a pharmacy or a payer sends in a run goes to a switch
goes_to_switch : (ctx : Context) (packets : List Packet) (from to : Node) (bytes : List ℕ) → NoSwitch from → TrackedFrom ctx packets from to bytes → (m : ℕ) × (to ≡ Switch m)
goes_to_switch ctx packets (Pharmacy n) to bytes d x = x.1
goes_to_switch ctx packets (Payer n) to bytes d x = x.1
goes_to_switch ctx packets (Switch k) to bytes d x = absurd (d k refl)

pub sent_to_switch : (ctx : Context) (s : WorldSettings) (events : List Event) (p : Packet) → Laws ctx → Accepts ctx s → NoSwitch p.from → IsAmong (run ctx (opening s) events).packets p → (m : ℕ) × (p.to ≡ Switch m)
sent_to_switch ctx s events p laws accepts d a =
    let r : Reached ctx s (opening s) = record { laws = laws; accepts = accepts; events = []; leads = refl } in
    let t = track_end ctx s (opening s) [] events (record { reached = r; each = λ p a. absurd (nothing_numbered a.number p a.is); tables = opening_tables ctx s }) in
    goes_to_switch ctx t.0 p.from p.to p.bytes d (t.1.each p a)
