use Rattle.std.proofs.Common.{◌≡◌, ◌∷◌, ◌++◌, drop, map}
use Rattle.std.specs.List.{flat_map}
use Rattle.table_text.specs.Quoting.{csv_text}
use Rattle.table_text.proofs.layout.put_more_names.Given as goal

-- the text so far, and then that of the names that are left
abbrev pub invariant-loop-name : goal.invariant-loop-name
invariant-loop-name l = l.out.items ++ flat_map (λ name. 44 ∷ csv_text name) (map (λ name. name.now) (drop l.name-index l.names)) ≡ l.initial.out.items ++ flat_map (λ name. 44 ∷ csv_text name) (map (λ name. name.now) (l.names))
