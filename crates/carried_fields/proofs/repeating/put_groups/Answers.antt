use Rattle.std.proofs.Common.{◌++◌, map, arith}
use Rattle.std.specs.Option.{option_map}
use Rattle.d0_segments.specs.Pieces.{shared_of, groups_of}
use Rattle.d0_segments.specs.Texts.{groups_text}
use Rattle.carried_fields.specs.Repeating.{repeated_seen, repeating_groups}
use Rattle.carried_fields.proofs.RepeatedPlaces.{next_repeated}
use Rattle.carried_fields.proofs.repeating.put_groups.Goals as goal

pub loop-place-preserved : goal.loop-place-preserved
loop-place-preserved c =
    let own = groups_of c.args.own.now.body.bytes.now in
    let sources = map (option_map repeated_seen) c.args.sources.now in
    next_repeated c.loop-place.place c.loop-place.text.items c.put_group.new.text.items own sources
    (shared_of c.group.result.bytes.now) (option_map repeated_seen c.source_at.result)
    (c.args.text.now.items ++ groups_text (repeating_groups own sources))
    (omega arith) c.group.ensures c.source_at.ensures c.in_ok-put_group.ensures c.loop-place.invariant
