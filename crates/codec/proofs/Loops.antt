-- Loops over lists of values of one codec: what is done, and what is left.
use Rattle.std.proofs.Common.{◌≡◌, ℕ, suc, ◌+◌, ◌-◌, ◌<◌, ◌≤◌, List, [], ◌∷◌, ◌++◌, Option, Some, None, option_map, refl, ap, ◌∙◌, sym, arith, append_assoc, append-nil}
use Rattle.std.specs.List.{AllByRecursion, flat_map}
use Rattle.codec.specs.Options.{◌>>=◌}
use Rattle.codec.specs.Codecs.{Codec, times}

pub one_less : (count i : ℕ) → i < count → count - i ≡ suc (count - (i + 1))
one_less count i h = omega arith

pub none_left : (count i : ℕ) → count ≤ i → count - i ≡ 0
none_left count i h = omega arith

-- ---- values that are put

-- so far and then what is left is all, and all fit if those that are left do
pub record Puts {A : Type 0} (c : Codec A) (before now : List ℕ) (all left : List A) : Type 0 where
  pub text : now ++ flat_map c.text left ≡ before ++ flat_map c.text all
  pub fits : AllByRecursion c.Fits left → AllByRecursion c.Fits all

pub put_more : {A : Type 0} {c : Codec A} (before now longer : List ℕ) (all left : List A) (one : A) (rest : List A) → left ≡ one ∷ rest → longer ≡ now ++ c.text one → c.Fits one → Puts c before now all left → Puts c before longer all rest
put_more {A} {c} before now longer all left one rest is put fits so_far = record {
  text = ap (λ t. t ++ flat_map c.text rest) put ∙ append_assoc now (c.text one) (flat_map c.text rest) ∙ ap (λ (xs : List A). now ++ flat_map c.text xs) (sym is) ∙ so_far.text;
  fits = λ f. so_far.fits (rw is (fits, f));
}

pub put_all : {A : Type 0} {c : Codec A} (before now : List ℕ) (all left : List A) → left ≡ [] → Puts c before now all left → (now ≡ before ++ flat_map c.text all) × AllByRecursion c.Fits all
put_all {A} {c} before now all left none so_far = (sym (append-nil now) ∙ ap (λ (xs : List A). now ++ flat_map c.text xs) (sym none) ∙ so_far.text, so_far.fits (rw none tt))

-- ---- values that are taken

-- what was taken and then what is left is all
abbrev pub after : {A : Type 0} → List A → Option (List A × List ℕ) → Option (List A × List ℕ)
after done o = option_map (λ more. (done ++ more.0, more.1)) o

pub take_begins : {A : Type 0} (o : Option (List A × List ℕ)) → o ≡ after [] o
take_begins None = refl
take_begins (Some more) = refl

pub take_more : {A : Type 0} (c : Codec A) (count i : ℕ) (done : List A) (bytes : List ℕ) (one : A) (rest : List ℕ) → i < count → c.at bytes ≡ Some (one, rest)
    → after done (times c (count - i) bytes) ≡ after (done ++ one ∷ []) (times c (count - (i + 1)) rest)
take_more {A} c count i done bytes one rest h e = rw (one_less count i h, e) (joined (times c (count - (i + 1)) rest))
  where
    joined : (o : Option (List A × List ℕ)) → after done (o >>= λ more. Some (one ∷ more.0, more.1)) ≡ after (done ++ one ∷ []) o
    joined None = refl
    joined (Some more) = ap (λ (xs : List A). Some (xs, more.1)) (sym (append_assoc done (one ∷ []) more.0))

pub take_stops : {A : Type 0} (c : Codec A) (count i : ℕ) (done : List A) (bytes : List ℕ) → i < count → c.at bytes ≡ None → after done (times c (count - i) bytes) ≡ None
take_stops c count i done bytes h e = rw (one_less count i h, e) refl

pub take_ends : {A : Type 0} (c : Codec A) (count i : ℕ) (done : List A) (bytes : List ℕ) → count ≤ i → after done (times c (count - i) bytes) ≡ Some (done, bytes)
take_ends {A} c count i done bytes h = rw (none_left count i h) (ap (λ (xs : List A). Some (xs, bytes)) (append-nil done))
