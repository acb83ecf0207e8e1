-- Texts with facts in them, up to a mark.
use Rattle.std.proofs.Common.{◌≡◌, ◌<◌, ◌≤◌, ◌+◌, ℕ, zero, suc, Bool, true, false, List, [], ◌∷◌, ◌++◌, length, take, drop, Option, None, Some, refl, ap, sym, subst, ◌∙◌, arith, slice_index}
use Rattle.std.specs.Prelude.{◌==◌}
use Rattle.std.proofs.lemmas.List.{append-nil, drop_all, drop_more, take_all}
use Rattle.memchr.specs.Find.{IsFirstByte, is_byte}
use Rattle.message_words.specs.declared.page.Style.{Style}
use Rattle.message_words.specs.declared.text.Text.{Text}
use Rattle.message_words.specs.Facts.{Fact, fact_of, filled}
use Rattle.message_words.specs.Written.{Takes}
use Rattle.message_words.proofs.Written.{both}

-- bytes before a mark stand for themselves
filled_run : (style : Style) (facts : List Fact) (text : List ℕ) (k : ℕ) → k ≤ length text → ((j : ℕ) → j < k → (slice_index text j == 36) ≡ false) → filled style facts false text ≡ take k text ++ filled style facts false (drop k text)
filled_run style facts text zero le plain = refl
filled_run style facts [] (suc k) le plain = absurd (omega arith)
filled_run style facts (b ∷ bs) (suc k) le plain =
    let first : (b == 36) ≡ false = plain 0 (omega arith) in
    let rest : filled style facts false bs ≡ take k bs ++ filled style facts false (drop k bs) = filled_run style facts bs k (omega arith) (λ j lt. plain (suc j) (omega arith)) in
    rw first (ap (λ (x : List ℕ). b ∷ x) rest)

after_mark : (style : Style) (facts : List Fact) (b : ℕ) (more : List ℕ) → (b == 36) ≡ true → filled style facts false (b ∷ more) ≡ filled style facts true more
after_mark style facts b more is = rw is refl

marked : (style : Style) (facts : List Fact) (more : List ℕ) → filled style facts true more ≡ fact_of style facts more ++ filled style facts false (drop 1 more)
marked style facts [] = refl
marked style facts (b ∷ more) = refl

-- up to the first mark, and the fact there
pub filled_mark : (style : Style) (facts : List Fact) (text : List ℕ) (k : ℕ) → IsFirstByte (is_byte 36) text (Some k)
    → filled style facts false text ≡ take k text ++ (fact_of style facts (drop 1 (drop k text)) ++ filled style facts false (drop 1 (drop 1 (drop k text))))
filled_mark style facts text k (between, is) =
    let cut : drop k text ≡ slice_index text k ∷ drop (k + 1) text = drop_more text k 0 between.high in
    let run = filled_run style facts text k (omega (arith, between.high)) (λ j lt. by_test j lt (slice_index text j == 36) refl) in
    let next : filled style facts false (drop k text) ≡ filled style facts true (drop 1 (drop k text)) =
    ap (filled style facts false) cut ∙ after_mark style facts (slice_index text k) (drop (k + 1) text) is ∙ ap (λ (bs : List ℕ). filled style facts true (drop 1 bs)) (sym cut) in
    run ∙ ap (λ (bs : List ℕ). take k text ++ bs) (next ∙ marked style facts (drop 1 (drop k text)))
  where
    by_test : (j : ℕ) → j < k → (b : Bool) → (slice_index text j == 36) ≡ b → (slice_index text j == 36) ≡ false
    by_test j lt true e = absurd (between.before j (omega arith) lt e)
    by_test j lt false e = e

-- a text without a mark
pub filled_none : (style : Style) (facts : List Fact) (text : List ℕ) → IsFirstByte (is_byte 36) text None → filled style facts false text ≡ text
filled_none style facts text nowhere =
    let run = filled_run style facts text (length text) (omega arith) (λ j lt. by_test j lt (slice_index text j == 36) refl) in
    let end : take (length text) text ++ filled style facts false (drop (length text) text) ≡ text = (λ i. take_all (length text) text (omega arith) i ++ filled style facts false (drop_all (length text) text (omega arith) i)) ∙ append-nil text in
    run ∙ end
  where
    by_test : (j : ℕ) → j < length text → (b : Bool) → (slice_index text j == 36) ≡ b → (slice_index text j == 36) ≡ false
    by_test j lt true e = absurd (nowhere j (omega arith) lt e)
    by_test j lt false e = e

-- what is written up to a mark, of the fact there, and of what is left, is all of it
pub fill_more : (style : Style) (facts : List Fact) (rest front digit next : List ℕ) (k : ℕ) (a b c n : Text) → IsFirstByte (is_byte 36) rest (Some k)
    → front ≡ take k rest → digit ≡ drop 1 (drop k rest) → next ≡ drop 1 digit → Takes front a b → Takes (fact_of style facts digit) b c
    → Takes (filled style facts false next) c n → Takes (filled style facts false rest) a n
fill_more style facts rest front digit next k a b c n found is_front is_digit is_next p q r =
    let parts : front ++ (fact_of style facts digit ++ filled style facts false next) ≡ filled style facts false rest =
    (λ i. is_front i ++ (fact_of style facts (is_digit i) ++ filled style facts false ((is_next ∙ ap (drop 1) is_digit) i))) ∙ sym (filled_mark style facts rest k found) in
    subst (λ (bs : List ℕ). Takes bs a n) parts (both front (fact_of style facts digit ++ filled style facts false next) a b n p (both (fact_of style facts digit) (filled style facts false next) b c n q r))

pub fill_end : (style : Style) (facts : List Fact) (rest : List ℕ) (found : Option ℕ) (a n : Text) → IsFirstByte (is_byte 36) rest found
    → ((k : ℕ) → found ≡ Some k → ⊥) → Takes rest a n → Takes (filled style facts false rest) a n
fill_end style facts rest None a n nowhere not p = subst (λ (bs : List ℕ). Takes bs a n) (sym (filled_none style facts rest nowhere)) p
fill_end style facts rest (Some k) a n first not p = absurd (not k refl)
