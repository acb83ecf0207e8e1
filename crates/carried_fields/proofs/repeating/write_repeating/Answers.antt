use Rattle.std.proofs.Common.{sym, ◌∙◌, map}
use Rattle.std.specs.Option.{option_map}
use Rattle.carried_fields.specs.Repeating.{repeated_seen}
use Rattle.carried_fields.proofs.RepeatedPlaces.{no_text}
use Rattle.carried_fields.proofs.repeating.write_repeating.Goals as goal

pub returns-in-Err : goal.returns-in-Err
returns-in-Err c = record {
  text = c.new-in-Err.ensures.items
      ∙ sym (no_text c.args.plain.now (map (option_map repeated_seen) c.args.sources.now) c.in-Err.field-0 c.in-Err.ensures.fault);
}
