-- Sets of authorizations, while payments are walked.
use Rattle.std.proofs.Common.{◌≡◌, ℕ, ◌+◌, ◌<◌, ◌≤◌, Bool, true, false, ◌||◌, List, ◌∷◌, length, drop, get_or, refl, sym, ap, ◌∙◌}
use Rattle.std.specs.List.{flat_map}
use Rattle.std.proofs.lemmas.List.{at_drop_more, drop_all}
use Rattle.std.proofs.lemmas.List.Folds.{list_any-append}
use Rattle.claim_model.specs.Words.{Auth}
use Rattle.claim_model.specs.Counted.{Counted}
use Rattle.claim_model.specs.Payments.{same_auth}
use Rattle.pharmacy_journal.specs.Counting.{has_auth}
use Rattle.pharmacy_journal.proofs.Payable.{or_assoc}
use Rattle.log_audit.specs.Tables.{names_auth}

or-false : (a : Bool) → (a || false) ≡ a
or-false true = refl
or-false false = refl

-- a payment more, and those that are left
pub auths_go_on : (old new : List Auth) (whole : Bool) (paid : List Counted) (i : ℕ) (p : Counted) (a : Auth) → i < length paid → p ≡ get_or paid i p
    → has_auth new a ≡ (has_auth old a || same_auth p.auth a) → (has_auth old a || names_auth (drop i paid) a) ≡ whole → (has_auth new a || names_auth (drop (i + 1) paid) a) ≡ whole
auths_go_on old new whole paid i p a lt is one so_far =
    let left = λ (rest : List Counted). has_auth old a || names_auth rest a in
    let more = drop (i + 1) paid in
    ap (λ (b : Bool). b || names_auth more a) one
    ∙ (or_assoc (has_auth old a) (same_auth p.auth a) (names_auth more a)
    ∙ (ap (λ (q : Counted). left (q ∷ more)) is ∙ (sym (at_drop_more left paid i p lt) ∙ so_far)))

pub auths_are_done : (old : List Auth) (whole : Bool) (paid : List Counted) (i : ℕ) (a : Auth) → length paid ≤ i → (has_auth old a || names_auth (drop i paid) a) ≡ whole → has_auth old a ≡ whole
auths_are_done old whole paid i a le so_far =
    sym (or-false (has_auth old a)) ∙ (sym (ap (λ (rest : List Counted). has_auth old a || names_auth rest a) (drop_all i paid le)) ∙ so_far)

-- the payments of a journal more, and those of what is left
pub journals_go_on : {A : Type 0} (told : A → List Counted) (old new : List Auth) (whole : Bool) (xs : List A) (i : ℕ) (x : A) (a : Auth) → i < length xs → x ≡ get_or xs i x
    → has_auth new a ≡ (has_auth old a || names_auth (told x) a) → (has_auth old a || names_auth (flat_map told (drop i xs)) a) ≡ whole
    → (has_auth new a || names_auth (flat_map told (drop (i + 1) xs)) a) ≡ whole
journals_go_on {A} told old new whole xs i x a lt is one so_far =
    let left = λ (rest : List A). has_auth old a || names_auth (flat_map told rest) a in
    let more = drop (i + 1) xs in
    ap (λ (b : Bool). b || names_auth (flat_map told more) a) one
    ∙ (or_assoc (has_auth old a) (names_auth (told x) a) (names_auth (flat_map told more) a)
    ∙ (ap (λ (b : Bool). has_auth old a || b) (sym (list_any-append (λ (c : Counted). same_auth c.auth a) (told x) (flat_map told more)))
    ∙ (ap (λ (y : A). left (y ∷ more)) is ∙ (sym (at_drop_more left xs i x lt) ∙ so_far))))

pub journals_are_done : {A : Type 0} (told : A → List Counted) (old : List Auth) (whole : Bool) (xs : List A) (i : ℕ) (a : Auth) → length xs ≤ i
    → (has_auth old a || names_auth (flat_map told (drop i xs)) a) ≡ whole → has_auth old a ≡ whole
journals_are_done {A} told old whole xs i a le so_far =
    sym (or-false (has_auth old a)) ∙ (sym (ap (λ (rest : List A). has_auth old a || names_auth (flat_map told rest) a) (drop_all i xs le)) ∙ so_far)
