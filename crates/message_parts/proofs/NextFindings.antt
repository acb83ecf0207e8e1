-- The findings of one transaction more.
use Rattle.std.proofs.Common.{◌≡◌, ℕ, ◌+◌, ◌<◌, ◌≤◌, List, [], ◌∷◌, ◌++◌, length, drop, get_or, refl, ap, sym, ◌∙◌}
use Rattle.std.proofs.lemmas.List.{append_assoc, append-nil, at_drop_more, drop_all}
use Rattle.d0_header.specs.Request.{Request}
use Rattle.d0_segments.specs.Parts.{SegmentParts}
use Rattle.message_parts.specs.Findings.{FindingSeen, transaction_findings, order_findings}

order_next : (h : Request) (shared : List SegmentParts) (n : ℕ) (g : List SegmentParts) (gs : List (List SegmentParts))
    → order_findings h shared n (g ∷ gs) ≡ transaction_findings h shared n g ++ order_findings h shared (n + 1) gs
unfolding order_findings
order_next h shared n g gs = refl

order_none : (h : Request) (shared : List SegmentParts) (n : ℕ) → order_findings h shared n [] ≡ []
unfolding order_findings
order_none h shared n = refl

-- the next transaction is found, and then what is left
pub transaction_next : (h : Request) (shared : List SegmentParts) (groups : List (List SegmentParts)) (place n : ℕ) (found new all : List FindingSeen)
    → place < length groups → found ++ order_findings h shared n (drop place groups) ≡ all
    → new ≡ found ++ transaction_findings h shared n (get_or groups place []) → new ++ order_findings h shared (n + 1) (drop (place + 1) groups) ≡ all
transaction_next h shared groups place n found new all lt before e =
    ap (λ (fs : List FindingSeen). fs ++ order_findings h shared (n + 1) (drop (place + 1) groups)) e
    ∙ append_assoc found (transaction_findings h shared n (get_or groups place [])) (order_findings h shared (n + 1) (drop (place + 1) groups))
    ∙ ap (λ (fs : List FindingSeen). found ++ fs) (sym (order_next h shared n (get_or groups place []) (drop (place + 1) groups)) ∙ sym (at_drop_more (order_findings h shared n) groups place [] lt))
    ∙ before

-- no transaction is left
pub transactions_done : (h : Request) (shared : List SegmentParts) (groups : List (List SegmentParts)) (place n : ℕ) (found all : List FindingSeen)
    → length groups ≤ place → found ++ order_findings h shared n (drop place groups) ≡ all → found ≡ all
transactions_done h shared groups place n found all ge before =
    sym (append-nil found) ∙ ap (λ (fs : List FindingSeen). found ++ fs) (sym (ap (order_findings h shared n) (drop_all place groups ge) ∙ order_none h shared n)) ∙ before
