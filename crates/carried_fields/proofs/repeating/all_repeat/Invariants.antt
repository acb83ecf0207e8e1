use Rattle.std.proofs.Common.{◌≡◌, drop, map}
use Rattle.std.specs.List.{list_all}
use Rattle.std.specs.Option.{option_map}
use Rattle.carried_fields.specs.Repeating.{repeated_seen, repeats_answer}
use Rattle.carried_fields.proofs.repeating.all_repeat.Given as goal

-- the places so far repeat one, so that those that are left decide
abbrev pub invariant-loop-source : goal.invariant-loop-source
invariant-loop-source l = list_all (repeats_answer l.answer) (map (option_map repeated_seen) (drop l.source-index l.sources)) ≡ list_all (repeats_answer l.answer) (map (option_map repeated_seen) l.sources)
