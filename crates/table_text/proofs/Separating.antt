-- Objects with a comma after each, and with commas between them.
use Rattle.std.proofs.Common.{◌≡◌, ℕ, ◌-◌, List, [], ◌∷◌, ◌++◌, length, take, refl, sym, ap, ◌∙◌, append_assoc, append-nil, length-append, arith}
use Rattle.std.specs.Prelude.{codes}
use Rattle.std.specs.List.{flat_map}
use Rattle.std.proofs.lemmas.List.{take-append-le, take_all}
use Rattle.table_text.specs.Members.{Row}
use Rattle.table_text.specs.Rows.{separated, json_member, json_object, json_row, rows_text, list_text, ListsAreSeparated}

-- a row is its object and a comma
row_is : (row : Row) → json_row row ≡ json_object row ++ codes ","
unfolding json_row json_object
row_is row =
    sym (append_assoc (codes "\n{") (separated json_member row ++ codes "}") (codes ",")
    ∙ ap (λ (t : List ℕ). codes "\n{" ++ t) (append_assoc (separated json_member row) (codes "}") (codes ",")))

-- rows are their objects with commas between them, and a comma
rows_are : (row : Row) (more : List Row) → flat_map json_row (row ∷ more) ≡ separated json_object (row ∷ more) ++ codes ","
rows_are row [] = append-nil (json_row row) ∙ (row_is row ∙ ap (λ (t : List ℕ). t ++ codes ",") (sym (append-nil (json_object row))))
rows_are row (next ∷ more) =
    ap (λ (t : List ℕ). json_row row ++ t) (rows_are next more)
    ∙ (ap (λ (t : List ℕ). t ++ (separated json_object (next ∷ more) ++ codes ",")) (row_is row)
    ∙ (append_assoc (json_object row) (codes ",") (separated json_object (next ∷ more) ++ codes ",")
    ∙ sym (append_assoc (json_object row) (codes "," ++ separated json_object (next ∷ more)) (codes ","))))

-- a text without the comma after it
comma_off : (t : List ℕ) → take (length (t ++ codes ",") - 1) (t ++ codes ",") ≡ t
comma_off t =
    let count : length (t ++ codes ",") - 1 ≡ length t = rw (length-append t (codes ",")) (omega arith) in
    ap (λ (n : ℕ). take n (t ++ codes ",")) count ∙ (take-append-le (length t) t (codes ",") (omega arith) ∙ take_all (length t) t (omega arith))

pub separated_lists : ListsAreSeparated
unfolding list_text rows_text
separated_lists [] = refl
separated_lists (row ∷ more) =
    ap (λ (t : List ℕ). codes "[" ++ (take (length t - 1) t ++ codes "\n]")) (rows_are row more)
    ∙ ap (λ (t : List ℕ). codes "[" ++ (t ++ codes "\n]")) (comma_off (separated json_object (row ∷ more)))
