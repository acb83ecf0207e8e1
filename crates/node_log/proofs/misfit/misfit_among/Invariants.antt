use Rattle.std.proofs.Common.{drop}
use Rattle.claim_model.specs.Bytes.{bytes_with}
use Rattle.node_log.proofs.Breaking.{Leads}
use Rattle.node_log.proofs.misfit.misfit_among.Given as goal

-- what the calls that are left come to, all come to
abbrev pub invariant-loop-place : goal.invariant-loop-place
invariant-loop-place l = Leads (bytes_with l.routes) l.node (drop l.place l.records) l.initial.node l.records l.place
