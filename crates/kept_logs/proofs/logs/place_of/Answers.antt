-- The place after the records of the first calls.
use Rattle.std.proofs.Common.{arith}
use Rattle.world_setup.specs.Seen.{node_seen}
use Rattle.kept_logs.specs.Digests.{version_seen}
use Rattle.kept_logs.proofs.Passing.{place_is, no_head}
use Rattle.kept_logs.proofs.logs.place_of.Goals as goal

pub returns-in-Ok : goal.returns-in-Ok
returns-in-Ok c = λ read is room.
    place_is c.args.settings.now c.args.bytes.now c.in-Ok.records.now (version_seen c.version.result) (node_seen c.in-Ok.field-0-0) read c.args.count c.behind_calls.result c.as_slice.ensures.size c.version.ensures c.in-Ok.ensures.ok
    (c.log_is_its_text.ensures.text c.args.settings.now c.args.bytes.now read c.as_slice.ensures.size (λ i. omega (arith, c.type_inv.bytes i)) is) room c.behind_calls.ensures

pub returns-in-Err : goal.returns-in-Err
returns-in-Err c = λ read is room. absurd (no_head c.args.settings.now c.args.bytes.now read c.in-Err.field-0 c.in-Err.ensures.fault is)
