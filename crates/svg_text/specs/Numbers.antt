-- The beginning of an element: its name, how it looks, and its numbers.
use Rattle.std.specs.Prelude.{ℕ, List, ◌++◌, codes, decimal, flat_map}
use Rattle.svg_text.specs.declared.numbers.Name.{Name}
use Rattle.svg_text.specs.declared.numbers.Name.TheVariants.{X, Y, X1, Y1, X2, Y2, Width, Height}
use Rattle.svg_text.specs.declared.numbers.Number.{Number}

-- an attribute up to its value
abbrev pub name_text : Name → List ℕ
name_text X = codes " x=\""
name_text Y = codes " y=\""
name_text X1 = codes " x1=\""
name_text Y1 = codes " y1=\""
name_text X2 = codes " x2=\""
name_text Y2 = codes " y2=\""
name_text Width = codes " width=\""
name_text Height = codes " height=\""

unfoldable pub number_text : Number → List ℕ
number_text n = name_text n.name ++ (decimal n.value ++ codes "\"")

unfoldable pub start_text : List ℕ → List ℕ → List Number → List ℕ
start_text element style numbers = codes "<" ++ (element ++ (style ++ flat_map number_text numbers))
