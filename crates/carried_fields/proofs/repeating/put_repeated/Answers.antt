use Rattle.carried_fields.specs.Repeating.{repeated_seen}
use Rattle.carried_fields.proofs.RepeatedPlaces.{own_group}
use Rattle.d0_segments.specs.Pieces.{shared_of}
use Rattle.carried_fields.proofs.repeating.put_repeated.Goals as goal

pub returns-in-Err : goal.returns-in-Err
returns-in-Err c =
    rw (own_group (repeated_seen c.args.repeated) (shared_of c.args.own.bytes.now) c.in-Err.field-0 c.in-Err.ensures.fault) c.put_segments-in-Err.ensures
