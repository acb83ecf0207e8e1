-- What holds of each element of a list, found one after another; and states that agree, part by part.
use Rattle.std.proofs.Common.{◌≡◌, ℕ, zero, suc, ◌+◌, ◌<◌, List, [], ◌∷◌, length, get_or, slice_get, Option, Some, None, sym, ap, ◌∙◌, subst, inl, inr, arith}
use Rattle.std.specs.Prelude.{option_and_then, option_map}
use Rattle.std.proofs.lemmas.Bool.{cases_eq}
use Rattle.claim_model.specs.Words.{TxnId}
use Rattle.claim_model.specs.Context.{Context}
use Rattle.claim_model.specs.Numbered.{numbered}
use Rattle.claim_model.specs.Rows.{Row, Book}
use Rattle.claim_model.specs.Journal.{JournalAtRest, Kept}
use Rattle.claim_model.specs.Held.{journal_at, book_at, journal_in, book_in, decided}
use Rattle.claim_model.proofs.Lists.{numbered_within}
use Rattle.claim_model.proofs.Options.{same_some, map_some, then_some}
use Rattle.vouched_runs.specs.Parties.{Parties, world_of}
use Rattle.vouched_runs.specs.Agreeing.{Agree}
use Rattle.days_audit.specs.Agreeing.{Finds, Each, RowFits, AllRowsFit, AnswerFits, JournalFits, AllAnswersFit}

pub found_there : {A : Type 0} (xs : List A) (k : ℕ) (x : A) → k < length xs → x ≡ get_or xs k x → slice_get xs k ≡ Some x
found_there [] k x h e = absurd (omega arith)
found_there (y ∷ xs) zero x h e = ap (λ z. Some z) (sym e)
found_there (y ∷ xs) (suc k) x h e = found_there xs k x (omega arith) e

place_below : {A : Type 0} (xs : List A) (k : ℕ) (y : A) → slice_get xs k ≡ Some y → k < length xs
place_below [] k y h = absurd cc
place_below (x ∷ xs) zero y h = omega arith
place_below (x ∷ xs) (suc k) y h = let r = place_below xs k y h in omega arith

-- it holds of those before a place
pub record EachBefore {A : Type 0} (place : ℕ) (P : ℕ → A → Type 0) (xs : List A) : Type 0 where
  pub each : (k : ℕ) (x : A) → k < place → slice_get xs k ≡ Some x → P k x

pub each_next : {A : Type 0} (P : ℕ → A → Type 0) (xs : List A) (place : ℕ) (x : A) → place < length xs → x ≡ get_or xs place x → P place x → EachBefore place P xs → EachBefore (place + 1) P xs
each_next P xs place x h e p b =
    record {
      each = λ k y l g. elim (cases_eq k place) [
        | inl s ↦
            let same : x ≡ y = same_some x y (sym (found_there xs place x h e) ∙ (ap (slice_get xs) (sym s) ∙ g)) in
            subst (λ m. P m y) (sym s) (subst (P place) same p)
        | inr d ↦ b.each k y (omega arith) g
      ];
    }

pub each_all : {A : Type 0} (P : ℕ → A → Type 0) (xs : List A) (place : ℕ) → length xs ≡ place → EachBefore place P xs → Each P xs
each_all P xs place h b k x e = let l = place_below xs k x e in b.each k x (omega arith) e

pub each_not : {A : Type 0} (P : ℕ → A → Type 0) (xs : List A) (place : ℕ) (x : A) → place < length xs → x ≡ get_or xs place x → (P place x → ⊥) → Each P xs → ⊥
each_not P xs place x h e n all = n (all place x (found_there xs place x h e))

-- ---- answers of a journal, by their numbers

pub record AnswersBefore (number : ℕ) (ctx : Context) (p : Parties) (n : ℕ) (j : JournalAtRest) : Type 0 where
  pub each : (k : ℕ) → k < number → AnswerFits ctx p (record { pharmacy = n; number = k }) j

-- there is no number 0
pub answers_none : (ctx : Context) (p : Parties) (n : ℕ) (j : JournalAtRest) → AnswersBefore 1 ctx p n j
answers_none ctx p n j = record { each = λ k l a e. absurd (none k (omega arith) a e) }
  where
    none : (k : ℕ) → k ≡ 0 → (a : List ℕ) → option_and_then (λ (e : Kept). e.answer) (numbered j.entries k) ≡ Some a → ⊥
    none zero z a e = cc
    none (suc k) z a e = absurd (omega (arith, z))

pub answers_next : (ctx : Context) (p : Parties) (n : ℕ) (j : JournalAtRest) (number : ℕ) (id : TxnId) → id ≡ record { pharmacy = n; number = number } → AnswerFits ctx p id j
    → AnswersBefore number ctx p n j → AnswersBefore (number + 1) ctx p n j
answers_next ctx p n j number id is fits b =
    record {
      each = λ k l. elim (cases_eq k number) [
        | inl s ↦ subst (λ (m : ℕ). AnswerFits ctx p (record { pharmacy = n; number = m }) j) (sym s) (subst (λ (i : TxnId). AnswerFits ctx p i j) is fits)
        | inr d ↦ b.each k (omega arith)
      ];
    }

pub answers_all : (ctx : Context) (p : Parties) (n : ℕ) (j : JournalAtRest) (count : ℕ) → length j.entries ≡ count → AnswersBefore (count + 1) ctx p n j → JournalFits ctx p n j
answers_all ctx p n j count h b number a e =
    let r = then_some (λ (e : Kept). e.answer) (numbered j.entries number) a e in
    let w = numbered_within j.entries number r.0 r.1 in
    b.each number (omega (arith, w.1, h)) a e

pub answer_not : (ctx : Context) (p : Parties) (n : ℕ) (j : JournalAtRest) (number : ℕ) (id : TxnId) → id ≡ record { pharmacy = n; number = number } → (AnswerFits ctx p id j → ⊥) → JournalFits ctx p n j → ⊥
answer_not ctx p n j number id is unfit all = unfit (subst (λ (i : TxnId). AnswerFits ctx p i j) (sym is) (all number))

-- ---- the parts and the whole

pub agree_rows : (ctx : Context) (p : Parties) → Agree ctx p → AllRowsFit ctx p
agree_rows ctx p a k s at i row e =
    let next : suc k ≡ k + 1 = omega arith in
    subst (λ (n : ℕ). RowFits ctx p n row) next
    (record { asks = a.asks (suc k) (book_in s) (suc i) row (ap (option_map book_in) at) e; routed = a.routes (suc k) (book_in s) (suc i) row (ap (option_map book_in) at) e })

pub agree_answers : (ctx : Context) (p : Parties) → Agree ctx p → AllAnswersFit ctx p
agree_answers ctx p a k s at number x e =
    let r = then_some (λ (e : Kept). e.answer) (numbered (journal_in s).entries number) x e in
    let next : suc k ≡ k + 1 = omega arith in
    subst (λ (n : ℕ). decided ctx (world_of p) (record { pharmacy = n; number = number }) ≡ Some x) next (a.answers (suc k) (journal_in s) number r.0 x (ap (option_map journal_in) at) r.1 r.2)

pub fit_agree : (ctx : Context) (p : Parties) → AllRowsFit ctx p → AllAnswersFit ctx p → Agree ctx p
fit_agree ctx p rows answers =
    record {
      asks = λ n b k row at e. (row_of n b k row at e).asks;
      routes = λ n b k row at e. (row_of n b k row at e).routed;
      answers = answer_of;
    }
  where
    row_of : (n : ℕ) (b : Book) (k : ℕ) (row : Row) → book_at (world_of p) n ≡ Some b → numbered b.rows k ≡ Some row → RowFits ctx p n row
    row_of zero b k row at e = absurd cc
    row_of (suc n) b zero row at e = absurd cc
    row_of (suc n) b (suc k) row at e =
        let s = map_some book_in (slice_get p.payers n) b at in
        let next : n + 1 ≡ suc n = omega arith in
        subst (λ (m : ℕ). RowFits ctx p m row) next (rows n s.0 s.1 k row (ap (λ (x : Book). slice_get x.rows k) s.2 ∙ e))

    answer_of : (n : ℕ) (j : JournalAtRest) (k : ℕ) (e : Kept) (a : List ℕ) → journal_at (world_of p) n ≡ Some j → numbered j.entries k ≡ Some e → e.answer ≡ Some a → decided ctx (world_of p) (record { pharmacy = n; number = k }) ≡ Some a
    answer_of zero j k e a at is has = absurd cc
    answer_of (suc n) j k e a at is has =
        let s = map_some journal_in (slice_get p.pharmacies n) j at in
        let next : n + 1 ≡ suc n = omega arith in
        subst (λ (m : ℕ). decided ctx (world_of p) (record { pharmacy = m; number = k }) ≡ Some a) next
        (answers n s.0 s.1 k a (ap (λ (x : JournalAtRest). option_and_then (λ (e : Kept). e.answer) (numbered x.entries k)) s.2 ∙ (ap (option_and_then (λ (e : Kept). e.answer)) is ∙ has)))

pub finds_other : {A : Type 0} (found : Option A) (P Q : Type 0) → (P → Q) → (Q → P) → Finds found P → Finds found Q
finds_other None P Q f g h = f h
finds_other (Some x) P Q f g n = λ q. n (g q)
