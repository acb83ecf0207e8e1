use Rattle.std.proofs.Common.{◌≡◌, drop, map, is_some}
use Rattle.std.specs.List.{list_any}
use Rattle.std.specs.Option.{option_map}
use Rattle.carried_fields.specs.Repeating.{repeated_seen}
use Rattle.carried_fields.proofs.repeating.repeats_any.Given as goal

-- the places so far repeat nothing, so that those that are left decide
abbrev pub invariant-loop-source : goal.invariant-loop-source
invariant-loop-source l = list_any is_some (map (option_map repeated_seen) (drop l.source-index l.sources)) ≡ list_any is_some (map (option_map repeated_seen) l.sources)
