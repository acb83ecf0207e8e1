-- How loops that append go on, and end.
use Rattle.std.proofs.Common.{◌≡◌, ℕ, ◌+◌, ◌<◌, ◌≤◌, List, [], ◌∷◌, ◌++◌, length, drop, get_or, sym, ap, ◌∙◌, append_assoc, append-nil, add-one}
use Rattle.std.proofs.lemmas.List.{at_drop_more, drop_all}
use Rattle.std.proofs.lemmas.Grind.{flat_map-append}
use Rattle.claim_model.specs.Logs.{NodeLog}
use Rattle.log_audit.specs.Sentences.{told_line, told_lines}
use Rattle.log_audit.specs.Lacks.{lack_lines, lacks_up_to, kind_node}
use Rattle.log_audit.specs.declared.judging.missing.NodeKind.{NodeKind}
use Rattle.log_audit.specs.declared.sentences.Manner.{Manner}

-- what is said of the elements from a place on, is said of the one there and those after it
pub left_at : {A B : Type 0} (left : List A → B) (xs : List A) (i : ℕ) (x : A) → i < length xs → x ≡ get_or xs i x → left (drop i xs) ≡ left (x ∷ drop (i + 1) xs)
left_at left xs i x lt is = at_drop_more left xs i x lt ∙ sym (ap (λ y. left (y ∷ drop (i + 1) xs)) is)

-- the text of one element comes after the text so far, and those of the others are left
pub goes_on : {A B : Type 0} (left : List A → List B) (one rest a b whole : List B) (xs : List A) (i : ℕ) (x : A) → i < length xs → x ≡ get_or xs i x
    → left (x ∷ drop (i + 1) xs) ≡ one ++ rest → b ≡ a ++ one → a ++ left (drop i xs) ≡ whole → b ++ rest ≡ whole
goes_on {A} {B} left one rest a b whole xs i x lt is split added so_far =
    ap (λ (t : List B). t ++ rest) added
    ∙ (append_assoc a one rest
    ∙ (ap (λ (t : List B). a ++ t) (sym (left_at left xs i x lt is ∙ split)) ∙ so_far))

-- no element is left, and no text of it
pub is_done : {A B : Type 0} (left : List A → List B) (a whole : List B) (xs : List A) (i : ℕ) → length xs ≤ i → left [] ≡ [] → a ++ left (drop i xs) ≡ whole → a ≡ whole
is_done {A} {B} left a whole xs i le none so_far =
    sym (append-nil a) ∙ (ap (λ (t : List B). a ++ t) (sym none) ∙ (sym (ap (λ (rest : List A). a ++ left rest) (drop_all i xs le)) ∙ so_far))

-- lines after lines
pub lines_join : (manner : Manner) (a b c : List ℕ) (xs ys : List (List ℕ)) → b ≡ a ++ told_lines manner xs → c ≡ b ++ told_lines manner ys → c ≡ a ++ told_lines manner (xs ++ ys)
lines_join manner a b c xs ys one two =
    two ∙ (ap (λ (t : List ℕ). t ++ told_lines manner ys) one
    ∙ (append_assoc a (told_lines manner xs) (told_lines manner ys) ∙ ap (λ (t : List ℕ). a ++ t) (sym (flat_map-append (told_line manner) xs ys))))

-- the lines on one node more of a kind
pub lacks_more : (manner : Manner) (logs : List NodeLog) (kind : NodeKind) (number : ℕ) (a b c : List ℕ) → b ≡ a ++ told_lines manner (lacks_up_to logs kind number)
    → c ≡ b ++ told_lines manner (lack_lines logs (kind_node kind (number + 1))) → c ≡ a ++ told_lines manner (lacks_up_to logs kind (number + 1))
lacks_more manner logs kind number a b c one two =
    lines_join manner a b c (lacks_up_to logs kind number) (lack_lines logs (kind_node kind (number + 1))) one two
    ∙ ap (λ (n : ℕ). a ++ told_lines manner (lacks_up_to logs kind n)) (sym (add-one number))
