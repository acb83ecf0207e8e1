use Rattle.claim_profile.proofs.Headers.{readable_is}
use Rattle.claim_profile.proofs.header_parts.bin_of.Goals as goal

pub returns-clause-readable : goal.returns-clause-readable
returns-clause-readable c = readable_is c.args.request.now c.requires
