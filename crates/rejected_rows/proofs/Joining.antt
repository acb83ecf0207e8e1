-- How texts follow one another.
use Rattle.std.proofs.Common.{◌≡◌, ℕ, List, ◌++◌}
use Rattle.input_text.proofs.Joining.{lists_join}

-- several texts, each after the one before
pub three_join : (a b c d x y z : List ℕ) → b ≡ a ++ x → c ≡ b ++ y → d ≡ c ++ z → d ≡ a ++ (x ++ (y ++ z))
three_join a b c d x y z one two three = lists_join a b d x (y ++ z) one (lists_join b c d y z two three)

pub six_join : (a b c d e f g x y z u v w : List ℕ) → b ≡ a ++ x → c ≡ b ++ y → d ≡ c ++ z → e ≡ d ++ u → f ≡ e ++ v → g ≡ f ++ w → g ≡ a ++ (x ++ (y ++ (z ++ (u ++ (v ++ w)))))
six_join a b c d e f g x y z u v w one two three four five six =
    three_join a b c g x y (z ++ (u ++ (v ++ w))) one two (three_join c d e g z u (v ++ w) three four (lists_join e f g v w five six))
