-- Arrays: the value of each item, in order.
use Rattle.std.specs.Prelude.{ℕ, List, [], ◌∷◌, Option, Some, None}
use Rattle.std.specs.Global.{Vec}
use Rattle.std.specs.Option.{option_map}
use Rattle.input_text.specs.Options.{◌>>=◌}
use Rattle.toml.specs.Data.{Data, Items, no_items, item, Members, get_member, as_array}

-- the items of a list that was read
abbrev pub items_of : {A : Type 0} → Option (Vec A) → Option (List A)
items_of {A} list = option_map (λ (l : Vec A). l.items) list

-- an item before those of a list
abbrev pub onto : {A : Type 0} → Option A → Option (List A) → Option (List A)
onto None rest = None
onto (Some first) None = None
onto (Some first) (Some rest) = Some (first ∷ rest)

-- what each value of an array spells, where each spells something
abbrev pub each : {A : Type 0} → (Data → Option A) → Items → Option (List A)
each spelled no_items = Some []
each spelled (item value rest) = onto (spelled value) (each spelled rest)

-- the same for the array at a key, which has to be there
abbrev pub list_at : {A : Type 0} → (Data → Option A) → List ℕ → Members → Option (List A)
list_at spelled key table = get_member key table >>= as_array >>= each spelled
