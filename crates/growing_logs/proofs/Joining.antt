-- How texts follow one another.
use Rattle.std.proofs.Common.{◌≡◌, ℕ, List, [], ◌++◌, ap, ◌∙◌}
use Rattle.input_text.proofs.Joining.{lists_join}

-- several texts, each after the one before
pub three_join : (a b c d x y z : List ℕ) → b ≡ a ++ x → c ≡ b ++ y → d ≡ c ++ z → d ≡ a ++ (x ++ (y ++ z))
three_join a b c d x y z one two three = lists_join a b d x (y ++ z) one (lists_join b c d y z two three)

pub four_join : (a b c d e x y z u : List ℕ) → b ≡ a ++ x → c ≡ b ++ y → d ≡ c ++ z → e ≡ d ++ u → e ≡ a ++ (x ++ (y ++ (z ++ u)))
four_join a b c d e x y z u one two three four = lists_join a b e x (y ++ (z ++ u)) one (three_join b c d e y z u two three four)

-- a text that begins with nothing
pub from_nothing : (a b x : List ℕ) → a ≡ [] → b ≡ a ++ x → b ≡ x
from_nothing a b x none e = e ∙ ap (λ (t : List ℕ). t ++ x) none
