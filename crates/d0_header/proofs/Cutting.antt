-- Fields of given widths are cut from the front of bytes, and fields that stand one after another are cut out again.
use Rattle.std.proofs.Common.{◌≡◌, ℕ, ◌+◌, ◌≤◌, ◌<◌, List, [], ◌∷◌, ◌++◌, map, length, get_or, take, drop, refl, sym, ap, ◌∙◌, append_assoc, append-nil, arith}
use Rattle.std.specs.List.{concat}
use Rattle.std.proofs.Math.Seq.{take-add, drop-cons, take-append_seam, drop-append_seam}
use Rattle.std.proofs.lemmas.List.{length-append, length-take, take-append-drop}

-- the fields of these widths
abbrev pub cut : List ℕ → List ℕ → List (List ℕ)
cut [] bytes = []
cut (n ∷ ns) bytes = take n bytes ∷ cut ns (drop n bytes)

-- all widths together
abbrev pub total : List ℕ → ℕ
total [] = 0
total (n ∷ ns) = n + total ns

pub concat-cut : (ns : List ℕ) (bytes : List ℕ) → concat (cut ns bytes) ≡ take (total ns) bytes
concat-cut [] bytes = refl
concat-cut (n ∷ ns) bytes = ap (λ (xs : List ℕ). take n bytes ++ xs) (concat-cut ns (drop n bytes)) ∙ sym (take-add n (total ns) bytes)

pub cut-concat : (fields : List (List ℕ)) (rest : List ℕ) → cut (map length fields) (concat fields ++ rest) ≡ fields
cut-concat [] rest = refl
cut-concat (f ∷ fs) rest =
    rw (append_assoc f (concat fs) rest, take-append_seam f (concat fs ++ rest), drop-append_seam f (concat fs ++ rest))
    (ap (λ (gs : List (List ℕ)). f ∷ gs) (cut-concat fs rest))

pub length-concat : (fields : List (List ℕ)) → length (concat fields) ≡ total (map length fields)
length-concat [] = refl
length-concat (f ∷ fs) = omega (arith, length-append f (concat fs), length-concat fs)

-- one byte is the field of width one
pub one_byte : (bytes : List ℕ) (i : ℕ) → i < length bytes → take 1 (drop i bytes) ≡ get_or bytes i 0 ∷ []
one_byte bytes i h = rw (drop-cons bytes i 0 h) refl

-- fields that the front of bytes is the text of are cut out of the bytes
pub cut_front : (bytes : List ℕ) (fields : List (List ℕ)) → take (total (map length fields)) bytes ≡ concat fields → cut (map length fields) bytes ≡ fields
cut_front bytes fields e =
    let whole : bytes ≡ concat fields ++ drop (total (map length fields)) bytes =
    sym (take-append-drop (total (map length fields)) bytes) ∙ ap (λ (xs : List ℕ). xs ++ drop (total (map length fields)) bytes) e in
    ap (cut (map length fields)) whole ∙ cut-concat fields (drop (total (map length fields)) bytes)

-- bytes whose front is a text are as long as the text
pub front_fits : (bytes text : List ℕ) (n : ℕ) → take n bytes ≡ text → length text ≡ n → n ≤ length bytes
front_fits bytes text n e long =
    let both : length (take n bytes) ≡ length text = ap length e in
    omega (arith, length-take n bytes)

-- a field that is put after a text makes the longer text
pub put_behind : (old new field before : List ℕ) (place end : ℕ) → end ≡ place + length field → take (place + length field) new ≡ take place old ++ field → take place old ≡ before → take end new ≡ before ++ field
put_behind old new field before place end e f g =
    ap (λ (n : ℕ). take n new) e ∙ (f ∙ ap (λ (xs : List ℕ). xs ++ field) g)

-- the first field of a text
pub put_first : (new field : List ℕ) (end : ℕ) → end ≡ 0 + length field → take (0 + length field) new ≡ field → take end new ≡ field
put_first new field end e f = ap (λ (n : ℕ). take n new) e ∙ f

pub seven_joined : (a b c d e f g : List ℕ) → ((((((a ++ b) ++ c) ++ d) ++ e) ++ f) ++ g) ≡ concat (a ∷ b ∷ c ∷ d ∷ e ∷ f ∷ g ∷ [])
seven_joined a b c d e f g = simp (append_assoc, append-nil)

pub nine_joined : (a b c d e f g h i : List ℕ) → ((((((((a ++ b) ++ c) ++ d) ++ e) ++ f) ++ g) ++ h) ++ i) ≡ concat (a ∷ b ∷ c ∷ d ∷ e ∷ f ∷ g ∷ h ∷ i ∷ [])
nine_joined a b c d e f g h i = simp (append_assoc, append-nil)
