-- Words written one after the other.
use Rattle.std.proofs.Common.{◌≡◌, ◌<◌, ◌+◌, ℕ, false, List, [], ◌∷◌, ◌++◌, ap, ◌∙◌, append_assoc}
use Rattle.std.specs.Fmt.{decimal}
use Rattle.std.proofs.lemmas.Fmt.{decimal_digit}
use Rattle.message_words.specs.declared.text.Text.{Text}
use Rattle.message_words.specs.Written.{Takes}

pub both : (u v : List ℕ) (a b c : Text) → Takes u a b → Takes v b c → Takes (u ++ v) a c
both u v a b c p q = λ e.
    let s = q e in
    let r = p s.0 in
    (r.0, s.1 ∙ ap (λ (bs : List ℕ). bs ++ v) r.1 ∙ append_assoc a.bytes.items u v)

-- three and four of them
pub three : (u v w : List ℕ) (a b c d : Text) → Takes u a b → Takes v b c → Takes w c d → Takes (u ++ v ++ w) a d
three u v w a b c d p q r = both (u ++ v) w a c d (both u v a b c p q) r

pub four : (u v w x : List ℕ) (a b c d e : Text) → Takes u a b → Takes v b c → Takes w c d → Takes x d e → Takes (u ++ v ++ w ++ x) a e
four u v w x a b c d e p q r s = both (u ++ v ++ w) x a d e (three u v w a b c d p q r) s

-- five of them after nothing
pub five : (u v w x y : List ℕ) (a b c d e f : Text) → a.bytes.items ≡ [] → Takes u a b → Takes v b c → Takes w c d → Takes x d e → Takes y e f → f.refused ≡ false → f.bytes.items ≡ u ++ v ++ w ++ x ++ y
five u v w x y a b c d e f none p q r s t taken =
    let all : Takes (u ++ v ++ w ++ x ++ y) a f = both (u ++ v ++ w ++ x) y a e f (both (u ++ v ++ w) x a d e (both (u ++ v) w a c d (both u v a b c p q) r) s) t in
    (all taken).1 ∙ ap (λ (bs : List ℕ). bs ++ (u ++ v ++ w ++ x ++ y)) none

-- a number of one digit
pub one_digit : (n : ℕ) → n < 10 → decimal n ≡ (48 + n) ∷ []
one_digit n lt = decimal_digit n lt
