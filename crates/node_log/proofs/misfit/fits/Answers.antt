-- All calls fit where there is no first that does not.
use Rattle.claim_model.specs.Bytes.{bytes_with}
use Rattle.node_log.proofs.Fitting.{tells_whole}
use Rattle.node_log.proofs.misfit.fits.Goals as goal

pub returns : goal.returns
returns c = tells_whole (bytes_with c.args.routes.now) c.args.node.now c.args.records.now c.in_ok-misfit_among.field-0 c.is_none.result c.is_none.ensures c.in_ok-misfit_among.ensures.first
