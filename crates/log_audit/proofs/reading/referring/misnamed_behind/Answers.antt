use Rattle.kept_logs.specs.Rests.{references_before}
use Rattle.std.specs.Option.{option_copied}
use Rattle.log_audit.specs.Names.{uses_from}
use Rattle.log_audit.proofs.Lookups.{behind_found}
use Rattle.log_audit.proofs.reading.referring.misnamed_behind.Goals as goal

pub returns : goal.returns
returns c =
    behind_found c.new-known.result.keys c.misnamed_before.new.known.keys c.as_slice.result.now c.in_ok-references.references.items (references_before (option_copied c.args.rest)) (uses_from 1 c.args.calls.now)
    c.in_ok-it.field-0 c.misnamed_call.result c.new-known.ensures.empty c.as_slice.ensures.value c.in_ok-references.ensures c.in_default.is c.in_ok-it.ensures c.misnamed_call.ensures
