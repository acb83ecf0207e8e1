-- Marks of the entries that have a receipt.
use Rattle.std.proofs.Common.{◌≡◌, ℕ, suc, ◌+◌, ◌<◌, ◌==◌, Bool, true, false, ◌&&◌, ◌||◌, List, [], ◌∷◌, length, Some, slice_get, slice_set, nat_eq, refl, sym, ap, ◌∙◌, subst, inl, inr, arith, eq-eqb}
use Rattle.std.specs.List.{list_all}
use Rattle.std.specs.Cmp.Lexicographic.{pointwise, bytes_decides}
use Rattle.std.proofs.lemmas.Bool.{and_parts, and_from, cases_eq, eqb-true}
use Rattle.std.proofs.lemmas.List.{length-set}
use Rattle.claim_model.specs.Journal.{Kept}
use Rattle.claim_model.proofs.Options.{same_some}
use Rattle.claim_model.proofs.Lists.{get_put, get_put_other, get_within, get_exists}
use Rattle.node_logged.specs.Tills.{Receipt}
use Rattle.node_logged.specs.Ledgers.{is_receipt, has_one, each_has_one, IsEntryOf, IsOfNone}
use Rattle.node_logged.specs.Marked.{Marks}

either_true : (b : Bool) → (b || true) ≡ true
either_true true = refl
either_true false = refl

either_false : (b : Bool) → (b || false) ≡ b
either_false true = refl
either_false false = refl

-- a receipt that has the number and the request of an entry is of that entry
is_of : (entries : List Kept) (r : Receipt) (k : ℕ) (entry : Kept) → slice_get entries k ≡ Some entry → is_receipt (suc k) entry.request r ≡ true → IsEntryOf entries r k
is_of entries r k entry e h =
    let p = and_parts (r.number == suc k) (pointwise nat_eq entry.request r.request) h in
    record { number = eqb-true r.number (suc k) p.0; entry = entry; at = e; same = (bytes_decides entry.request r.request).0 p.1 }

-- and the other way round
of_is : (entries : List Kept) (r : Receipt) (k : ℕ) (entry : Kept) → slice_get entries k ≡ Some entry → IsEntryOf entries r k → is_receipt (suc k) entry.request r ≡ true
of_is entries r k entry e i =
    let same : i.entry ≡ entry = same_some i.entry entry (sym i.at ∙ e) in
    and_from (r.number == suc k) (pointwise nat_eq entry.request r.request) (eq-eqb r.number (suc k) i.number) ((bytes_decides entry.request r.request).1 (ap (λ (x : Kept). x.request) (sym same) ∙ i.same))

-- a receipt of no entry marks nothing
pub marks_none : (entries : List Kept) (r : Receipt) (left all : List Receipt) (marks : List Bool) → IsOfNone entries r → Marks entries (r ∷ left) all marks → Marks entries left all marks
marks_none entries r left all marks none m =
    record {
      size = m.size;
      each = λ k entry mark e g. by k entry mark e g (is_receipt (suc k) entry.request r) refl (m.each k entry mark e g);
    }
  where
    by : (k : ℕ) (entry : Kept) (mark : Bool) → slice_get entries k ≡ Some entry → slice_get marks k ≡ Some mark → (t : Bool) → is_receipt (suc k) entry.request r ≡ t
        → (mark || (is_receipt (suc k) entry.request r || has_one (suc k) entry.request left)) ≡ has_one (suc k) entry.request all → (mark || has_one (suc k) entry.request left) ≡ has_one (suc k) entry.request all
    by k entry mark e g true h was = absurd (none k (is_of entries r k entry e h))
    by k entry mark e g false h was = ap (λ b. mark || (b || has_one (suc k) entry.request left)) (sym h) ∙ was

-- a receipt of an entry marks that one
pub marks_one : (entries : List Kept) (r : Receipt) (place : ℕ) (left all : List Receipt) (marks : List Bool) → IsEntryOf entries r place → Marks entries (r ∷ left) all marks → Marks entries left all (slice_set marks place true)
marks_one entries r place left all marks i m =
    record {
      size = length-set marks place true ∙ m.size;
      each = λ k entry mark e g. elim (cases_eq place k) [
        | inl same ↦ here k same entry mark e g
        | inr d ↦ other k d entry mark e (sym (get_put_other marks place k true d) ∙ g) (is_receipt (suc k) entry.request r) refl
      ];
    }
  where
    here : (k : ℕ) → place ≡ k → (entry : Kept) (mark : Bool) → slice_get entries k ≡ Some entry → slice_get (slice_set marks place true) k ≡ Some mark → (mark || has_one (suc k) entry.request left) ≡ has_one (suc k) entry.request all
    here k same entry mark e g =
        let old = get_exists marks k (subst (λ (n : ℕ). k < n) (sym m.size) (get_within entries k entry e)) in
        let h = of_is entries r k entry e (subst (IsEntryOf entries r) same i) in
        let is : mark ≡ true = same_some mark true (sym g ∙ (ap (λ (n : ℕ). slice_get (slice_set marks n true) k) same ∙ get_put marks k old.0 true old.1)) in
        ap (λ b. b || has_one (suc k) entry.request left) is
        ∙ (sym (either_true old.0) ∙ (ap (λ b. old.0 || (b || has_one (suc k) entry.request left)) (sym h) ∙ m.each k entry old.0 e old.1))

    other : (k : ℕ) → (place ≡ k → ⊥) → (entry : Kept) (mark : Bool) → slice_get entries k ≡ Some entry → slice_get marks k ≡ Some mark → (t : Bool) → is_receipt (suc k) entry.request r ≡ t → (mark || has_one (suc k) entry.request left) ≡ has_one (suc k) entry.request all
    other k d entry mark e g true h = let o = is_of entries r k entry e h in absurd (d (omega (arith, o.number, i.number)))
    other k d entry mark e g false h = ap (λ b. mark || (b || has_one (suc k) entry.request left)) (sym h) ∙ m.each k entry mark e g

-- all receipts being looked at, each entry is marked exactly where each has one
pub marks_tell : (entries : List Kept) (all : List Receipt) (marks : List Bool) → Marks entries [] all marks → list_all (λ mark. mark) marks ≡ each_has_one 1 entries all
marks_tell entries all marks m = by 0 entries marks m.size (λ k entry mark e g. sym (either_false mark) ∙ (m.each k entry mark e g ∙ from_zero k entry))
  where
    from_zero : (k : ℕ) (x : Kept) → has_one (suc k) x.request all ≡ has_one (suc (0 + k)) x.request all
    from_zero k x = let e : k ≡ 0 + k = omega arith in ap (λ (m : ℕ). has_one (suc m) x.request all) e

    number : (n k : ℕ) (x : Kept) → k ≡ 0 → has_one (suc (n + k)) x.request all ≡ has_one (suc n) x.request all
    number n k x z = let e : n + k ≡ n = omega (arith, z) in ap (λ (m : ℕ). has_one (suc m) x.request all) e

    again : (n k : ℕ) (x : Kept) → has_one (suc (n + suc k)) x.request all ≡ has_one (suc (suc n + k)) x.request all
    again n k x = let e : n + suc k ≡ suc n + k = omega arith in ap (λ (m : ℕ). has_one (suc m) x.request all) e

    by : (n : ℕ) (entries : List Kept) (marks : List Bool) → length marks ≡ length entries → ((k : ℕ) (entry : Kept) (mark : Bool) → slice_get entries k ≡ Some entry → slice_get marks k ≡ Some mark → mark ≡ has_one (suc (n + k)) entry.request all)
        → list_all (λ mark. mark) marks ≡ each_has_one (suc n) entries all
    by n [] [] size each = refl
    by n [] (mark ∷ marks) size each = absurd cc
    by n (entry ∷ entries) [] size each = absurd cc
    by n (entry ∷ entries) (mark ∷ marks) size each =
        let first : mark ≡ has_one (suc n) entry.request all = each 0 entry mark refl refl ∙ number n 0 entry (omega arith) in
        let next : list_all (λ mark. mark) marks ≡ each_has_one (suc (suc n)) entries all = by (suc n) entries marks (omega (arith, size)) (λ k x b e g. each (suc k) x b e g ∙ again n k x) in
        let place : suc (suc n) ≡ suc n + 1 = omega arith in
        ap (λ b. b && list_all (λ mark. mark) marks) first ∙ (ap (λ b. has_one (suc n) entry.request all && b) next ∙ ap (λ m. has_one (suc n) entry.request all && each_has_one m entries all) place)
