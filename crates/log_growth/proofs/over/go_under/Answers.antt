-- A log that is one of the new settings already.
use Rattle.std.proofs.Common.{sym, ap}
use Rattle.std.proofs.lemmas.Result.{IfErr-weaker, IfOk-weaker}
use Rattle.world_setup.specs.Seen.{node_seen}
use Rattle.kept_logs.specs.LogSeen.{reading_seen}
use Rattle.log_growth.specs.Over.{Becomes, IsOpen, IsShutFor, StaysFor}
use Rattle.log_growth.proofs.Staying.{shut_there, there}
use Rattle.log_growth.proofs.over.go_under.Goals as goal

pub returns-in-Ok-clause-over : goal.returns-in-Ok-clause-over
returns-in-Ok-clause-over c =
    IfOk-weaker c.stay.result (IsOpen c.args.text.now c.node.result c.args.bytes.now) (Becomes c.args.old.now c.args.text.now c.args.bytes.now)
    (λ gone is. there c.args.old.now c.args.text.now c.args.bytes.now (reading_seen c.in-Ok.read) c.node.result gone (rw (← c.requires.own) c.in-Ok.ensures.ok) (ap node_seen (sym c.node.ensures)) is) c.stay.ensures.there

pub returns-in-Ok-clause-stays : goal.returns-in-Ok-clause-stays
returns-in-Ok-clause-stays c =
    let read = reading_seen c.in-Ok.read in
    IfErr-weaker c.stay.result (IsShutFor c.args.text.now read.log.node c.args.bytes.now) (StaysFor c.args.old.now c.args.text.now c.args.bytes.now)
    (λ why is. shut_there c.args.old.now c.args.text.now c.args.bytes.now read why (rw (← c.requires.own) c.in-Ok.ensures.ok) is)
    (rw (← c.node.ensures) c.stay.ensures.shut)
