-- Each step of a pass keeps the rule of an inbox.
use Rattle.std.proofs.Common.{◌≡◌, ℕ, zero, suc, List, [], ◌∷◌, ◌++◌, set, sym, refl, ap, ◌∙◌, subst, append_assoc, append-nil}
use Rattle.std.specs.Prelude.{flat_map, IsPermutation, ⊤}
use Rattle.std.proofs.lemmas.List.Concat.{flat_map-append}
use Rattle.std.proofs.lemmas.List.Sorted.{IsPermutation-sym, IsPermutation-trans, IsPermutation-cons, IsPermutation-middle, IsPermutation-append_left, IsPermutation-append_right, IsPermutation-to_front}
use mathlib.Core.Option.{some, some-injective, some-ne-none}
use lib.ListN.{get_elem?}
use Rattle.crossbeam_channel.specs.Fifo.{Pushes, Pops, Forks, Learns}
use Rattle.node_threads.specs.declared.inbox.mail.Mail.{Mail}
use Rattle.node_threads.specs.declared.inbox.traffic.Traffic.{Traffic}
use Rattle.node_threads.specs.InboxRule.{traffic, all_put, all_taken, Conserved, Added, Removed}

-- where one pass has one more, all passes together have one more
one_more : (f : Traffic → List Mail) (passes : List Traffic) (seat : ℕ) (before after : Traffic) (mail : Mail) → get_elem? passes seat ≡ some before → f after ≡ f before ++ mail ∷ []
    → IsPermutation (mail ∷ flat_map f passes) (flat_map f (set passes seat after))
one_more f [] seat before after mail here more = absurd (some-ne-none before (sym here))
one_more f (p ∷ ps) zero before after mail here more =
    let same : f p ≡ f before = ap f (some-injective p before here) in
    let is : f after ++ flat_map f ps ≡ f p ++ mail ∷ flat_map f ps = ap (λ l. l ++ flat_map f ps) (more ∙ ap (λ l. l ++ mail ∷ []) (sym same)) ∙ append_assoc (f p) (mail ∷ []) (flat_map f ps) in
    subst (λ l. IsPermutation (mail ∷ (f p ++ flat_map f ps)) l) (sym is) (IsPermutation-sym _ _ (IsPermutation-middle (f p) mail (flat_map f ps)))
one_more f (p ∷ ps) (suc seat) before after mail here more =
    IsPermutation-trans _ _ _ (IsPermutation-sym _ _ (IsPermutation-middle (f p) mail (flat_map f ps)))
    (IsPermutation-append_right (f p) _ _ (one_more f ps seat before after mail here more))

-- where one pass has as before, all passes together have
no_more : (f : Traffic → List Mail) (passes : List Traffic) (seat : ℕ) (before after : Traffic) → get_elem? passes seat ≡ some before → f after ≡ f before
    → flat_map f (set passes seat after) ≡ flat_map f passes
no_more f [] seat before after here same = refl
no_more f (p ∷ ps) zero before after here same = ap (λ l. l ++ flat_map f ps) (same ∙ sym (ap f (some-injective p before here)))
no_more f (p ∷ ps) (suc seat) before after here same = ap (λ l. f p ++ l) (no_more f ps seat before after here same)

-- writing what stands there changes nothing
set_again : (passes : List Traffic) (seat : ℕ) (own : Traffic) → get_elem? passes seat ≡ some own → set passes seat own ≡ passes
set_again [] seat own here = refl
set_again (p ∷ ps) zero own here = ap (λ q. q ∷ ps) (sym (some-injective p own here))
set_again (p ∷ ps) (suc seat) own here = ap (λ qs. p ∷ qs) (set_again ps seat own here)

added : (queue : List Mail) (passes : List Traffic) (seat : ℕ) (before : Traffic) (mail : Mail) → get_elem? passes seat ≡ some before → Conserved queue passes
    → Conserved (queue ++ mail ∷ []) (set passes seat (traffic (before.put ++ mail ∷ []) before.taken))
added queue passes seat before mail here kept =
    let after = traffic (before.put ++ mail ∷ []) before.taken in
    let put = one_more (λ v. v.put) passes seat before after mail here refl in
    let taken : all_taken (set passes seat after) ≡ all_taken passes = no_more (λ v. v.taken) passes seat before after here refl in
    let behind : all_taken (set passes seat after) ++ (queue ++ mail ∷ []) ≡ (all_taken passes ++ queue) ++ mail ∷ [] =
    ap (λ l. l ++ (queue ++ mail ∷ [])) taken ∙ sym (append_assoc (all_taken passes) queue (mail ∷ [])) in
    subst (λ l. IsPermutation (all_put (set passes seat after)) l) (sym behind)
    (IsPermutation-trans _ _ _ (IsPermutation-sym _ _ put)
    (IsPermutation-trans _ _ _ (IsPermutation-cons mail _ _ kept) (IsPermutation-sym _ _ (IsPermutation-to_front (all_taken passes ++ queue) mail))))

removed : (rest : List Mail) (passes : List Traffic) (seat : ℕ) (before : Traffic) (mail : Mail) → get_elem? passes seat ≡ some before → Conserved (mail ∷ rest) passes
    → Conserved rest (set passes seat (traffic before.put (before.taken ++ mail ∷ [])))
removed rest passes seat before mail here kept =
    let after = traffic before.put (before.taken ++ mail ∷ []) in
    let put : all_put (set passes seat after) ≡ all_put passes = no_more (λ v. v.put) passes seat before after here refl in
    let taken = one_more (λ v. v.taken) passes seat before after mail here refl in
    subst (λ l. IsPermutation l (all_taken (set passes seat after) ++ rest)) (sym put)
    (IsPermutation-trans _ _ _ kept
    (IsPermutation-trans _ _ _ (IsPermutation-middle (all_taken passes) mail rest) (IsPermutation-append_left rest _ _ taken)))

pub adds : (n seat : ℕ) (before : Traffic) (mail : Mail) → Pushes Conserved n seat before mail (λ after. Added before mail after)
unfolding Added
adds n seat before mail queue passes _ kept here = let after = traffic (before.put ++ mail ∷ []) before.taken in let then = added queue passes seat before mail here kept in (
  after,
  then,
  (refl, (record { queue = queue; passes = passes; seat = seat; here = here; conserved = kept }, then)),
)

pub removes : (seat : ℕ) (before : Traffic) → Pops Conserved seat before (λ mail after. Removed before mail after)
unfolding Removed
removes seat before mail rest passes kept here = let after = traffic before.put (before.taken ++ mail ∷ []) in let then = removed rest passes seat before mail here kept in (
  after,
  then,
  (refl, (record { queue = mail ∷ rest; passes = passes; seat = seat; here = here; conserved = kept }, rest, refl, then)),
)

pub forks : (seat : ℕ) (own : Traffic) → Forks Conserved seat own own (traffic [] [])
forks seat own queue passes kept here =
    let same : set passes seat own ≡ passes = set_again passes seat own here in
    let none : (f : Traffic → List Mail) → f (traffic [] []) ≡ [] → flat_map f (set passes seat own ++ traffic [] [] ∷ []) ≡ flat_map f passes = λ f is.
    flat_map-append f (set passes seat own) (traffic [] [] ∷ []) ∙ ap (λ l. flat_map f l ++ flat_map f (traffic [] [] ∷ [])) same ∙ ap (λ l. flat_map f passes ++ (l ++ [])) is ∙ append-nil (flat_map f passes) in
    subst (λ (l : List Mail × List Mail). IsPermutation l.0 (l.1 ++ queue)) (λ i. (sym (none (λ v. v.put) refl) i, sym (none (λ v. v.taken) refl) i)) kept

-- the lesson that asks nothing
pub learns : (seat : ℕ) (own : Traffic) → Learns Conserved seat own (λ queue. ⊤)
learns seat own queue passes kept here = tt
