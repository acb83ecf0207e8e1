use Rattle.std.proofs.Common.{Ok, Err, refl}
use Rattle.claim_model.specs.Bytes.{bytes_with}
use Rattle.claim_model.specs.Node.{advice_in}
use Rattle.world_setup.specs.Seen.{node_seen}
use Rattle.node_state.specs.Taking.{payer_opens}
use Rattle.node_state.proofs.payer.open_advised.Goals as goal

pub returns-in-Ok-clause-ok : goal.returns-in-Ok-clause-ok
returns-in-Ok-clause-ok c = rw (payer_opens c.args.routes.now c.args.book.now (advice_in (bytes_with c.args.routes.now) c.args.advice.now) (node_seen c.args.from) c.args.packet.now (Ok c.in-Ok.envelope) (c.in-Ok.ensures.read c.args.routes.now)) c.take_advised.ensures.ok

pub returns-in-Ok-clause-fault : goal.returns-in-Ok-clause-fault
returns-in-Ok-clause-fault c = rw (payer_opens c.args.routes.now c.args.book.now (advice_in (bytes_with c.args.routes.now) c.args.advice.now) (node_seen c.args.from) c.args.packet.now (Ok c.in-Ok.envelope) (c.in-Ok.ensures.read c.args.routes.now)) c.take_advised.ensures.fault

pub returns-in-Err-clause-fault : goal.returns-in-Err-clause-fault
returns-in-Err-clause-fault c = payer_opens c.args.routes.now c.args.book.now (advice_in (bytes_with c.args.routes.now) c.args.advice.now) (node_seen c.args.from) c.args.packet.now (Err c.in-Err.fault) (c.in-Err.ensures.read c.args.routes.now)
