use Rattle.std.proofs.Common.{sym, ap, ◌∙◌}
use Rattle.std.specs.Option.{option_copied}
use Rattle.node_state.proofs.AtRest.{tries_some}
use Rattle.node_state.proofs.resumed.pharmacy_resumed.Goals as goal

pub read_journal-requires-clause-some_node : goal.read_journal-requires-clause-some_node
read_journal-requires-clause-some_node c =
    rw c.in_ok-copy.ensures (tries_some c.args.pharmacies.now c.args.number c.in-Some.settings.now c.requires (sym c.of_number.ensures ∙ ap option_copied c.in-Some.is))
