use Rattle.std.proofs.Common.{ℕ, List, ap}
use Rattle.std.proofs.lemmas.Result.{on_ok_weaker}
use Rattle.std.specs.Arc.{arc_value}
use Rattle.world_setup.specs.Seen.{node_seen}
use Rattle.kept_logs.specs.Digests.{version_seen}
use Rattle.node_service.specs.Serving.{Serving}
use Rattle.node_service.proofs.service.Service.tell.Goals as goal
use Rattle.world_setup.specs.Taken.{routes_in}

pub returns : goal.returns
returns c =
    let s = c.self.inside in
    let saying = λ (out : List ℕ). let it : Serving = record { settings = (arc_value s.shared).settings; node = node_seen s.name; version = version_seen s.version; state = s.state; calls = s.calls; references = s.references; records = s.records.items; out = out } in it in
    rw (← c.self.view_is) (on_ok_weaker c.put_told.result (λ said. ap saying said) (c.put_told.ensures (routes_in (arc_value s.shared).settings)))
