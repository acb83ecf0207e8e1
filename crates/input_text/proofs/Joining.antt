-- How lists follow one another.
use Rattle.std.proofs.Common.{◌≡◌, List, ◌++◌, ap, ◌∙◌, append_assoc}

-- one list after another, after what was there
pub lists_join : {A : Type 0} (a b c x y : List A) → b ≡ a ++ x → c ≡ b ++ y → c ≡ a ++ (x ++ y)
lists_join {A} a b c x y one two = two ∙ (ap (λ (t : List A). t ++ y) one ∙ append_assoc a x y)
