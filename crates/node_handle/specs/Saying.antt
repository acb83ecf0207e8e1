-- What a call says: that it was made, or why not.
use Rattle.std.specs.Prelude.{Result}
use Rattle.node_handle.specs.declared.refusal.Refusal.{Refusal}

abbrev pub Said : Type 0
Said = Result (Unit {0}) Refusal
