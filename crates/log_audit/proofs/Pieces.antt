-- Pieces that are filled and put, and lists that end.
use Rattle.std.proofs.Common.{◌≡◌, ℕ, ◌-◌, List, [], ◌∷◌, ◌++◌, length, take, sym, ap, ◌∙◌, append_assoc, append-nil, length-append, arith}
use Rattle.std.specs.Prelude.{codes}
use Rattle.std.specs.List.{flat_map}
use Rattle.std.proofs.lemmas.List.{take-append-le, take_all}
use Rattle.table_text.specs.Members.{Row}
use Rattle.table_text.specs.Rows.{separated, json_member, json_row, rows_text, list_text}
use Rattle.table_text.specs.declared.layout.Style.TheVariants.{Json}
use Rattle.log_audit.specs.Commas.{without_comma}
use Rattle.log_audit.proofs.Commas.{comma_inside}

-- a text that an empty piece was filled with, is put
pub piece_put : (a b piece filled slice text : List ℕ) → piece ≡ [] → filled ≡ piece ++ text → slice ≡ filled → b ≡ a ++ slice → b ≡ a ++ text
piece_put a b piece filled slice text none fills is put =
    put ∙ ap (λ (t : List ℕ). a ++ t) (is ∙ (fills ∙ ap (λ (t : List ℕ). t ++ text) none))

-- a row ends in a comma, and so do rows
row_ends : (row : Row) → json_row row ≡ (codes "\n{" ++ (separated json_member row ++ codes "}")) ++ codes ","
unfolding json_row
row_ends row =
    sym (append_assoc (codes "\n{") (separated json_member row ++ codes "}") (codes ",")
    ∙ ap (λ (t : List ℕ). codes "\n{" ++ t) (append_assoc (separated json_member row) (codes "}") (codes ",")))

rows_end : (row : Row) (more : List Row) → (t : List ℕ) × (flat_map json_row (row ∷ more) ≡ t ++ codes ",")
rows_end row [] = (codes "\n{" ++ (separated json_member row ++ codes "}"), append-nil (json_row row) ∙ row_ends row)
rows_end row (next ∷ more) =
    let rest = rows_end next more in
    (json_row row ++ rest.0, ap (λ (t : List ℕ). json_row row ++ t) rest.1 ∙ sym (append_assoc (json_row row) rest.0 (codes ",")))

-- a text without the comma after it
comma_off : (t : List ℕ) → take (length (t ++ codes ",") - 1) (t ++ codes ",") ≡ t
comma_off t =
    let count : length (t ++ codes ",") - 1 ≡ length t = rw (length-append t (codes ",")) (omega arith) in
    ap (λ (n : ℕ). take n (t ++ codes ",")) count ∙ (take-append-le (length t) t (codes ",") (omega arith) ∙ take_all (length t) t (omega arith))

-- what stands after a bracket, and then the end of the list
bracket_ends : (a : List ℕ) (rows : List Row) → without_comma ((a ++ codes "[") ++ rows_text Json rows) ++ codes "\n]" ≡ a ++ list_text (rows_text Json rows)
unfolding rows_text list_text
bracket_ends a [] =
    ap (λ (t : List ℕ). without_comma t ++ codes "\n]") (append-nil (a ++ codes "["))
    ∙ (ap (λ (t : List ℕ). t ++ codes "\n]") (comma_inside a 91 []) ∙ append_assoc a (codes "[") (codes "\n]"))
bracket_ends a (row ∷ more) =
    let rows = rows_end row more in
    let t = rows.0 in
    let front = a ++ codes "[" in
    ap (λ (r : List ℕ). without_comma (front ++ r) ++ codes "\n]") rows.1
    ∙ (ap (λ (r : List ℕ). without_comma r ++ codes "\n]") (sym (append_assoc front t (codes ",")))
    ∙ (ap (λ (r : List ℕ). r ++ codes "\n]") (comma_inside (front ++ t) 44 [] ∙ append-nil (front ++ t))
    ∙ (append_assoc front t (codes "\n]")
    ∙ (append_assoc a (codes "[") (t ++ codes "\n]")
    ∙ ap (λ (r : List ℕ). a ++ (codes "[" ++ (r ++ codes "\n]"))) (sym (comma_off t) ∙ ap (λ (r : List ℕ). take (length r - 1) r) (sym rows.1))))))

pub list_ended : (a b c d : List ℕ) (rows : List Row) → b ≡ a ++ codes "[" → c ≡ b ++ rows_text Json rows → d ≡ without_comma c ++ codes "\n]" → d ≡ a ++ list_text (rows_text Json rows)
list_ended a b c d rows begun put end =
    end ∙ (ap (λ (t : List ℕ). without_comma t ++ codes "\n]") (put ∙ ap (λ (t : List ℕ). t ++ rows_text Json rows) begun) ∙ bracket_ends a rows)
