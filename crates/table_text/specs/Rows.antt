-- Rows, the line of names before them, and lists of them.
use Rattle.std.specs.Prelude.{◌≡◌, ℕ, List, [], ◌∷◌, ◌++◌, ◌-◌, length, take, codes}
use Rattle.std.specs.List.{flat_map}
use Rattle.table_text.specs.Members.{Member, Row}
use Rattle.table_text.specs.Quoting.{csv_text, json_text}
use Rattle.table_text.specs.Values.{csv_value, json_value}
use Rattle.table_text.specs.declared.layout.Style.{Style}
use Rattle.table_text.specs.declared.layout.Style.TheVariants.{Csv, Json}

-- texts with a comma before each
abbrev pub behind_commas : {A : Type 0} → (A → List ℕ) → List A → List ℕ
behind_commas text xs = flat_map (λ x. 44 ∷ text x) xs

-- texts with a comma between them
abbrev pub separated : {A : Type 0} → (A → List ℕ) → List A → List ℕ
separated text [] = []
separated text (x ∷ more) = text x ++ behind_commas text more

abbrev pub csv_member : Member → List ℕ
csv_member m = csv_value m.value

-- a row as a line of CSV
unfoldable pub csv_row : Row → List ℕ
csv_row row = separated csv_member row ++ codes "\n"

-- a member of an object: its name, and its value
unfoldable pub json_member : Member → List ℕ
json_member m = json_text m.name ++ (codes ":" ++ json_value m.value)

-- a row as an object of JSON, on a line of its own
unfoldable pub json_object : Row → List ℕ
json_object row = codes "\n{" ++ (separated json_member row ++ codes "}")

-- the same with a comma after it
unfoldable pub json_row : Row → List ℕ
json_row row = codes "\n{" ++ (separated json_member row ++ codes "},")

abbrev pub row_text : Style → Row → List ℕ
row_text Csv row = csv_row row
row_text Json row = json_row row

-- the text of some rows
unfoldable pub rows_text : Style → List Row → List ℕ
rows_text style rows = flat_map (row_text style) rows

-- the line of the names of columns
unfoldable pub head_text : List (List ℕ) → List ℕ
head_text names = separated csv_text names ++ codes "\n"

-- rows that were written as JSON, as a list: without the comma after the last of them
unfoldable pub list_text : List ℕ → List ℕ
list_text rows = codes "[" ++ (take (length rows - 1) rows ++ codes "\n]")

-- a list of rows is their objects with commas between them
abbrev pub ListsAreSeparated : Type 0
ListsAreSeparated = (rows : List Row) → list_text (rows_text Json rows) ≡ codes "[" ++ (separated json_object rows ++ codes "\n]")
