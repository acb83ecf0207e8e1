use Rattle.std.proofs.Common.{◌≡◌, ◌++◌, map, drop}
use Rattle.std.specs.Option.{option_map}
use Rattle.carried_fields.specs.Repeating.{repeated_seen}
use Rattle.payer_book.specs.Origins.{repeated_in}
use Rattle.payer_book.proofs.book.Book.all_repeated.Given as goal

-- what the rulings before repeat, and then what those repeat that are left, is all
abbrev pub invariant-loop-ruling : goal.invariant-loop-ruling
invariant-loop-ruling l = map (option_map repeated_seen) l.places.items ++ repeated_in l.self (drop l.ruling-index l.rulings) ≡ repeated_in l.self l.rulings
