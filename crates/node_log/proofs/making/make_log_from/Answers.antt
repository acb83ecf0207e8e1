-- A log has no misfit where all of its calls are made.
use Rattle.claim_model.specs.Bytes.{bytes_with}
use Rattle.node_log.proofs.Breaking.{made_whole}
use Rattle.node_log.proofs.making.make_log_from.Goals as goal

pub returns-in-None : goal.returns-in-None
returns-in-None c =
    rw (← c.records.ensures) (made_whole (bytes_with c.args.routes.now) c.args.begins c.misfit_among.new.node c.records.result.now c.in_ok-first.field-0 c.in-None.is c.in_ok-first.ensures.first c.in_ok-first.ensures.ends)
