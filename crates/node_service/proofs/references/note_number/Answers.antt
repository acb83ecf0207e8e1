-- A name that has a number keeps it.
use Rattle.std.proofs.Common.{ℕ, List, sym, ap, ◌∙◌}
use Rattle.std.specs.Map.{lookup}
use Rattle.std.specs.Option.{option_copied}
use Rattle.node_service.specs.Numbers.{is_name}
use Rattle.node_service.proofs.Numbers.{added_again}
use Rattle.node_service.proofs.references.note_number.Goals as goal

pub returns-in-Some-clause-noted : goal.returns-in-Some-clause-noted
returns-in-Some-clause-noted c = λ list has.
    added_again list c.args.numbers.now.entries c.args.one.now c.in-Some.field-0.now
    (ap (λ (name : List ℕ). lookup (is_name name) c.args.numbers.now.entries) (sym c.name.ensures) ∙ (sym c.get.ensures.value ∙ ap option_copied c.in-Some.is)) has
