use Rattle.std.proofs.Common.{Ok, Err, refl, ◌∙◌}
use Rattle.world_setup.specs.Seen.{node_seen}
use Rattle.node_state.proofs.powered.Powered.take_known.Goals as goal
use Rattle.node_state.proofs.powered.Powered.take_known.Goals.{in-Up+in-Ok, in-Up+in-Err, in-AtRest}

pub returns-clause-ok : goal.returns-clause-ok
returns-clause-ok g c = elim c.match-self.branch [
  | in-Up+in-Ok w ↦ rw (w.result-is, w.self-inside-is, ← c.self.view_is, w.in-Up.is) (rw (g.met.K.Kind.reads c.args.routes.now w.in-Up.node (node_seen c.args.from) c.args.packet.now (Ok w.in-Ok.envelope) (w.in-Ok.ensures.read c.args.routes.now)) w.take_known.ensures.ok)
  | in-Up+in-Err w ↦ rw w.result-is tt
  | in-AtRest w ↦ rw w.result-is tt
]

pub returns-clause-fault : goal.returns-clause-fault
returns-clause-fault g c = elim c.match-self.branch [
  | in-Up+in-Ok w ↦ rw (w.result-is, ← c.self.view_is, w.in-Up.is) (rw (g.met.K.Kind.reads c.args.routes.now w.in-Up.node (node_seen c.args.from) c.args.packet.now (Ok w.in-Ok.envelope) (w.in-Ok.ensures.read c.args.routes.now)) w.take_known.ensures.fault)
  | in-Up+in-Err w ↦ rw (w.result-is, ← c.self.view_is, w.in-Up.is) (rw (g.met.K.Kind.reads c.args.routes.now w.in-Up.node (node_seen c.args.from) c.args.packet.now (Err w.in-Err.refused) (w.in-Err.ensures.read c.args.routes.now)) refl)
  | in-AtRest w ↦ rw (w.result-is, ← c.self.view_is, w.in-AtRest.is) (g.met.K.Kind.takes_nothing c.args.routes.now _ (node_seen c.args.from) c.args.packet.now)
]

pub take_known-requires-clause-readable : goal.take_known-requires-clause-readable
take_known-requires-clause-readable g c =
    let read = g.met.K.Kind.reads c.args.routes.now c.in-Up.node (node_seen c.args.from) c.args.packet.now (Ok c.in-Ok.envelope) (c.in-Ok.ensures.read c.args.routes.now) in
    λ unreadable. c.requires (rw (← c.self.view_is, c.in-Up.is) (read ∙ unreadable))
