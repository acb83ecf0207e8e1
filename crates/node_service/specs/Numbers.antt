-- The numbers of references, in a map that finds them.
use Rattle.std.specs.Prelude.{◌≡◌, ℕ, Bool, bytes_eq, List, Option}
use Rattle.std.specs.Map.{lookup}
use Rattle.std.specs.Global.{Vec}
use Rattle.kept_logs.specs.References.{Reference}
use Rattle.node_service.specs.Serving.{found}

-- whether a key is this name
abbrev pub is_name : List ℕ → Vec ℕ → Bool
is_name name key = bytes_eq name key.items

-- each name is found in the map as in the list: with the number that it has there first
abbrev pub HasNumbers : List Reference → List (Vec ℕ × ℕ) → Type 0
HasNumbers list entries = (name : List ℕ) → lookup (is_name name) entries ≡ found list name
