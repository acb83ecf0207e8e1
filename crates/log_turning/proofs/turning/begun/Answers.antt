-- The records of a node that is served from no bytes.
use Rattle.std.proofs.Common.{ℕ}
use Rattle.std.specs.Global.{Vec}
use Rattle.world_setup.specs.Seen.{node_seen}
use Rattle.log_turning.proofs.Closing.{new_records}
use Rattle.log_turning.proofs.turning.begun.Goals as goal

pub returns-clause-new : goal.returns-clause-new
returns-clause-new c =
    new_records (λ (records : Vec ℕ). records.items) c.records_of.result c.args.text.now (node_seen c.args.node) c.args.rest.now c.in_ok-service.field-0-1 c.in_ok-service.service c.records_of.new.service c.in_ok-service.ensures.serves c.records_of.ensures.on c.records_of.ensures.records
