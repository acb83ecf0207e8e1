-- The packets of a run are those that the logs sent.
use Rattle.std.proofs.Common.{◌≡◌, true, false, cond, List, [], ◌∷◌, ◌++◌, map, refl, sym, ap, ◌∙◌, inl, inr, append_assoc}
use Rattle.std.specs.Prelude.{filter, flat_map}
use Rattle.std.proofs.lemmas.List.{append-nil, map-append}
use Rattle.std.proofs.lemmas.List.Elements.{filter-append}
use Rattle.claim_model.specs.Context.{Context}
use Rattle.claim_model.specs.Node.{Node, Sent, Done, Refused}
use Rattle.claim_model.specs.World.{World, Packet, Event, packet_from}
use Rattle.claim_model.specs.Nodes.{same_node}
use Rattle.claim_model.specs.Logs.{Logged, log_in, posted_by, is_from}
use Rattle.claim_model.specs.Replays.{ArePosted}
use Rattle.claim_model.proofs.Names.{told_apart}
use Rattle.claim_model.proofs.Ends.{Unchanged, One_call, ended, log_unchanged, log_own, log_other}
use Rattle.claim_model.proofs.Replaying.{run_unchanged}

-- what one node sends, among the packets of another or its own
all_its_own : (node a : Node) (sent : List Sent) → same_node a node ≡ true → filter (is_from node) (map (packet_from a) sent) ≡ map (packet_from a) sent
all_its_own node a [] t = refl
all_its_own node a (s ∷ sent) t =
    ap (λ b. cond b (packet_from a s ∷ filter (is_from node) (map (packet_from a) sent)) (filter (is_from node) (map (packet_from a) sent))) t
    ∙ ap (λ (ps : List Packet). packet_from a s ∷ ps) (all_its_own node a sent t)

none_its_own : (node a : Node) (sent : List Sent) → same_node a node ≡ false → filter (is_from node) (map (packet_from a) sent) ≡ []
none_its_own node a [] t = refl
none_its_own node a (s ∷ sent) t =
    ap (λ b. cond b (packet_from a s ∷ filter (is_from node) (map (packet_from a) sent)) (filter (is_from node) (map (packet_from a) sent))) t
    ∙ none_its_own node a sent t

-- the packets of a longer log
pub posted_more : (node : Node) (l : Logged) (log : List Logged) → posted_by node (l ∷ log) ≡ map (packet_from node) l.sent ++ posted_by node log
posted_more node l log = map-append (packet_from node) l.sent (flat_map (λ (x : Logged). x.sent) log)

own_packets : (ctx : Context) (w v : World) (node a : Node) (sent : List Sent) → v.packets ≡ w.packets ++ map (packet_from a) sent → filter (is_from node) v.packets ≡ filter (is_from node) w.packets ++ filter (is_from node) (map (packet_from a) sent)
own_packets ctx w v node a sent e = ap (filter (is_from node)) e ∙ filter-append (is_from node) w.packets (map (packet_from a) sent)

pub are_posted : (ctx : Context) (w : World) (events : List Event) (node : Node) → ArePosted ctx w events node
are_posted ctx w [] node = sym (append-nil (filter (is_from node) w.packets))
are_posted ctx w (event ∷ events) node =
    elim (ended ctx w event) [
      | Unchanged why q ↦
          ap (λ (x : World). filter (is_from node) x.packets) (run_unchanged ctx w event events (Refused why) q)
          ∙ (are_posted ctx w events node
          ∙ ap (λ (log : List Logged). filter (is_from node) w.packets ++ posted_by node log) (sym (log_unchanged ctx w event events node why q)))
      | One_call a v sent p q f ↦
          ap (λ (x : World). filter (is_from node) x.packets) (run_unchanged ctx w event events (Done v sent) q)
          ∙ (are_posted ctx v events node
          ∙ (ap (λ (ps : List Packet). ps ++ posted_by node (log_in ctx v events node)) (own_packets ctx w v node a.node sent f.posts)
          ∙ (append_assoc (filter (is_from node) w.packets) (filter (is_from node) (map (packet_from a.node) sent)) (posted_by node (log_in ctx v events node))
          ∙ (elim (told_apart a.node node) [
            | inl t ↦
                ap (λ (ps : List Packet). filter (is_from node) w.packets ++ (ps ++ posted_by node (log_in ctx v events node))) (all_its_own node a.node sent t.0 ∙ ap (λ (n : Node). map (packet_from n) sent) t.1)
                ∙ (ap (λ (ps : List Packet). filter (is_from node) w.packets ++ ps) (sym (posted_more node (record { call = a.call; sent = sent }) (log_in ctx v events node)))
                ∙ ap (λ (log : List Logged). filter (is_from node) w.packets ++ posted_by node log) (sym (log_own ctx w v event events node a sent p q t.0)))
            | inr t ↦
                ap (λ (ps : List Packet). filter (is_from node) w.packets ++ (ps ++ posted_by node (log_in ctx v events node))) (none_its_own node a.node sent t.0)
                ∙ ap (λ (log : List Logged). filter (is_from node) w.packets ++ posted_by node log) (sym (log_other ctx w v event events node a sent p q t.0))
          ]))))
    ]
