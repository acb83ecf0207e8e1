use Rattle.claim_reports.proofs.Comparisons.{found_is}
use Rattle.claim_reports.proofs.differences.compare.Goals as goal

pub returns-clause-found : goal.returns-clause-found
returns-clause-found c = found_is c.args.counted.now c.args.entries.now c.args.made.now c.in_ok-held.held c.in_ok-known.known c.in_ok-paid.paid _ c.in_ok-held.ensures c.in_ok-known.ensures c.in_ok-paid.ensures c.in_ok-found.ensures
