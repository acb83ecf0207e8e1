-- The formats of records: what was put is taken, and only what stands there is taken.
use Rattle.std.proofs.Common.{◌≡◌, ℕ, zero, suc, ◌<◌, ◌≤◌, ◌^◌, Bool, true, false, ◌&&◌, nat_le, List, [], ◌∷◌, ◌++◌, length, Option, Some, None, All, refl, arith}
use Rattle.std.proofs.lemmas.Bool.Decides.{nat_tests}
use Rattle.std.proofs.lemmas.List.Elements.{All-head, All-tail}
use Rattle.std.specs.List.{AllByRecursion}
use Rattle.std.specs.Option.{ForSome}
use Rattle.plan_rules.specs.Prices.{Prices}
use Rattle.plan_rules.specs.Terms.{IsPriced}
use Rattle.claim_model.specs.Journal.{Kept}
use Rattle.payer_book.specs.Added.{KeptRow}
use Rattle.codec.specs.Laws.{AreBytes, IsCodec}
use Rattle.codec.proofs.FieldsBack.{u8_at-put}
use Rattle.codec.proofs.FieldsOnly.{u8_at_taken}
use Rattle.codec.proofs.CodecLaws.{u8_is, u16_is, u32_is, u64_is, at_most_is, sized_is, both_is, of_parts_is, empty_is, made_back, IsKind, made_only, tagged_is}
use Rattle.kept_records.specs.declared.book_head.BookHead.{BookHead}
use Rattle.kept_records.specs.declared.journal_parts.JournalHead.{JournalHead}
use Rattle.kept_records.specs.Fields.{text_codec}
use Rattle.kept_records.specs.Versions.{version_codec}
use Rattle.kept_records.specs.Heads.{journal_head_codec, book_head_codec}
use Rattle.kept_records.specs.Products.{product_codec}
use Rattle.kept_records.specs.Rows.{row_codec}
use Rattle.kept_records.specs.BookLaws.{IsKeptRow, AreKeptRows}
use Rattle.kept_records.specs.Entries.{answer_spelled, answer_of, answer_codec, entry_codec}
use Rattle.kept_records.proofs.AddedEntries.{IsShort}

pub text_is : IsCodec text_codec
unfolding text_codec
text_is = sized_is (at_most_is 32768 u32_is)

version_is : IsCodec version_codec
version_is = record { back = λ n rest fits. u8_at-put n rest; only = λ bytes n rest are h. ((u8_at_taken bytes n rest are h).0, tt) }

pub journal_head_is : IsCodec journal_head_codec
unfolding journal_head_codec
journal_head_is = of_parts_is _ (λ (h : JournalHead). (h.mark, (h.version, (h.number, h.count)))) (both_is u16_is (both_is version_is (both_is u16_is u32_is))) (λ h. refl) (λ p. refl)

pub book_head_is : IsCodec book_head_codec
unfolding book_head_codec
book_head_is =
    of_parts_is _ (λ (h : BookHead). ((h.name, (h.version, (h.payer, h.serial))), (h.fee, (h.copay, (h.products, h.rows)))))
    (both_is (both_is u16_is (both_is version_is (both_is u16_is u64_is))) (both_is u32_is (both_is u32_is (both_is u32_is u32_is)))) (λ h. refl) (λ p. refl)

pub product_is : IsCodec product_codec
unfolding product_codec
product_is = both_is (sized_is u8_is) u32_is

pub row_is : IsCodec row_codec
unfolding row_codec
row_is = of_parts_is _ (λ (k : KeptRow). ((k.id.pharmacy, k.id.number), (k.request, k.answer))) (both_is (both_is u16_is u64_is) (both_is text_is text_is)) (λ k. refl) (λ p. refl)

answer_is : IsCodec answer_codec
unfolding answer_codec
answer_is = tagged_is answer_spelled answer_of back only
  where
    back : (answer : Option (List ℕ)) (rest : List ℕ) → (answer_spelled answer).Fits → answer_of (answer_spelled answer).kind ((answer_spelled answer).text ++ rest) ≡ Some (answer, rest)
    back None rest fits = refl
    back (Some answer) rest fits = made_back text_is Some answer rest fits

    only : (flag : ℕ) (bytes : List ℕ) (answer : Option (List ℕ)) (rest : List ℕ) → AreBytes bytes → answer_of flag bytes ≡ Some (answer, rest) → IsKind answer_spelled flag bytes answer rest
    only zero bytes answer rest are h = made_only empty_is answer_spelled 0 (λ u. None) (λ b r p t f. (refl, t, f)) bytes answer rest are h
    only (suc zero) bytes answer rest are h = made_only text_is answer_spelled 1 Some (λ b r p t f. (refl, t, f)) bytes answer rest are h
    only (suc (suc flag)) bytes answer rest are h = cc

pub entry_is : IsCodec entry_codec
unfolding entry_codec
entry_is = both_is u64_is (of_parts_is _ (λ (kept : Kept). (kept.request, kept.answer)) (both_is text_is answer_is) (λ kept. refl) (λ p. refl))

-- ---- what fits

pub product_fits : (entry : List ℕ × ℕ) → IsPriced entry → product_codec.Fits entry
unfolding product_codec
product_fits entry good = (below (length entry.0) (second (nat_le 1 (length entry.0)) (nat_le (length entry.0) 19) _ _ good.0), omega (arith, good.1))
  where
    second : (a b c d : Bool) → (a && b && c && d) ≡ true → b ≡ true
    second true true c d h = refl
    second true false c d h = cc
    second false b c d h = cc

    below : (n : ℕ) → nat_le n 19 ≡ true → n < 2 ^ 8
    below n t = grind (arith, nat_tests)

pub products_fit : (prices : Prices) → All IsPriced prices → AllByRecursion product_codec.Fits prices
products_fit [] good = tt
products_fit (entry ∷ prices) good = (product_fits entry (All-head IsPriced entry prices good), products_fit prices (All-tail IsPriced entry prices good))

text_fits : (bytes : List ℕ) → length bytes ≤ 32768 → text_codec.Fits bytes
unfolding text_codec
text_fits bytes short = (short, omega (arith, short))

pub row_fits : (k : KeptRow) → IsKeptRow k → row_codec.Fits k
unfolding row_codec
row_fits k is = ((is.id.pharmacy_fits, is.id.number_fits), (text_fits k.request is.request, text_fits k.answer is.answer))

pub rows_fit : (ks : List KeptRow) → AreKeptRows ks → AllByRecursion row_codec.Fits ks
rows_fit [] are = tt
rows_fit (k ∷ ks) are = (row_fits k are.0, rows_fit ks are.1)

pub entry_fits : (number : ℕ) (kept : Kept) → number < 2 ^ 64 → IsShort kept → entry_codec.Fits (number, kept)
unfolding entry_codec answer_codec
entry_fits number kept small short = (small, (text_fits kept.request short.request, by_answer kept.answer short.answer))
  where
    by_answer : (a : Option (List ℕ)) → ForSome a (λ answer. length answer ≤ 32768) → (answer_spelled a).Fits
    by_answer None short = tt
    by_answer (Some answer) short = text_fits answer (short answer refl)
