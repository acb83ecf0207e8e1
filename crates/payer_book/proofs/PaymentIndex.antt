-- The index of standing payments.
use Rattle.std.proofs.Common.{◌≡◌, ℕ, zero, suc, ◌+◌, ◌<◌, ◌≤◌, Bool, true, false, cond, List, [], ◌∷◌, ◌++◌, map, length, Option, Some, None, slice_get, slice_set, refl, sym, ap, ◌∙◌, subst, inl, inr, arith}
use Rattle.std.specs.Prelude.{bytes_eq, ◌==◌, ◌&&◌, option_and_then}
use Rattle.std.specs.List.{AllByRecursion}
use Rattle.std.proofs.Math.Bool.{and_comm}
use Rattle.std.proofs.lemmas.Bool.{cond-true, cond-false, false_from_ne_true, both_ways}
use Rattle.std.proofs.lemmas.List.Elements.{filter_map-append}
use Rattle.std.proofs.lemmas.Option.{same_Some as same_some}
use Rattle.claim_model.specs.Words.{TxnId, Auth, Fill}
use Rattle.claim_model.specs.Payments.{same_auth}
use Rattle.claim_model.specs.Judgement.{same_fill}
use Rattle.claim_profile.specs.contracts.order.FillPartialEq.TheImpl as fill_eq
use Rattle.claim_model.proofs.Lists.{find_passes, get_last, get_more, get_within, all_append, all_weaker}
use Rattle.payer_book.specs.declared.book.payment.Standing.{Standing}
use Rattle.payer_book.specs.declared.book.payment.Payment.{Payment}
use Rattle.payer_book.specs.declared.book.payment.Payment.TheVariants.{Standing as Stands, Reversed as WasReversed}
use Rattle.payer_book.specs.Ledger.{has_auth, payment_with, is_of, still, standing_in, standing_of, after_reversal, reversal_of, AreNumbered, IsOther, NoFillTwice, IsNumbered, IsLedger}
use Rattle.payer_book.specs.PaymentPlaces.{StandsAt, IsBelow, IsIndexed}
use Rattle.payer_book.proofs.Lists.{get_append, get_set, get_set_other}
use Rattle.claim_model.proofs.Tests.{fill_same, fill_self, auth_same}
use Rattle.payer_book.proofs.Numbering.{numbered, numbered_at, numbered_more, numbered_kept, after_reversal_at}

-- the derived equality of fills is the model's, but for the order of the last two parts
pub fill_eq_same : (a b : Fill) → fill_eq.ghosts.eq a b ≡ same_fill a b
fill_eq_same a b =
    ap (λ t. bytes_eq a.bin b.bin && (bytes_eq a.pcn b.pcn && (bytes_eq a.qualifier b.qualifier && (bytes_eq a.provider b.provider && t))))
    (and_comm (a.fill == b.fill) (a.prescription == b.prescription))

-- what is found among the standing payments stands at some place, and what stands at a place is found

pub found_stands : (fill : Fill) (ps : List Payment) (s : Standing) → standing_of fill (standing_in ps) ≡ Some s → (k : ℕ) × (slice_get ps k ≡ Some (Stands s)) × (s.claim.fill ≡ fill)
found_stands fill [] s e = absurd cc
found_stands fill (WasReversed r ∷ ps) s e = let f = found_stands fill ps s e in (suc f.0, f.1, f.2)
found_stands fill (Stands t ∷ ps) s e = by_test (is_of fill t) refl e (found_stands fill ps s)
  where
    by_test : (b : Bool) → is_of fill t ≡ b → cond b (Some t) (standing_of fill (standing_in ps)) ≡ Some s
        → (standing_of fill (standing_in ps) ≡ Some s → (k : ℕ) × (slice_get ps k ≡ Some (Stands s)) × (s.claim.fill ≡ fill)) → (k : ℕ) × (slice_get (Stands t ∷ ps) k ≡ Some (Stands s)) × (s.claim.fill ≡ fill)
    by_test true is e g =
        let same : t ≡ s = same_some t s e in
        (0, ap (λ (x : Standing). Some (Stands x)) same, sym (fill_same fill s.claim.fill (subst (λ (x : Standing). is_of fill x ≡ true) same is)))
    by_test false is e g = let f = g e in (suc f.0, f.1, f.2)

pub stands_found : (fill : Fill) (ps : List Payment) (s : Standing) (k : ℕ) → slice_get ps k ≡ Some (Stands s) → s.claim.fill ≡ fill → (t : Standing) × (standing_of fill (standing_in ps) ≡ Some t)
stands_found fill [] s k e is = absurd cc
stands_found fill (WasReversed r ∷ ps) s zero e is = let same : WasReversed r ≡ Stands s = same_some (WasReversed r) (Stands s) e in absurd cc
stands_found fill (WasReversed r ∷ ps) s (suc k) e is = stands_found fill ps s k e is
stands_found fill (Stands t ∷ ps) s zero e is =
    let same : Stands t ≡ Stands s = same_some (Stands t) (Stands s) e in
    let one : t ≡ s = cc in
    (t, cond-true (is_of fill t) (Some t) (standing_of fill (standing_in ps)) (subst (λ (f : Fill). same_fill f t.claim.fill ≡ true) (ap (λ (x : Standing). x.claim.fill) one ∙ is) (fill_self t.claim.fill)))
stands_found fill (Stands t ∷ ps) s (suc k) e is = by_test (is_of fill t) (stands_found fill ps s k e is)
  where
    by_test : (b : Bool) → (u : Standing) × (standing_of fill (standing_in ps) ≡ Some u) → (u : Standing) × (cond b (Some t) (standing_of fill (standing_in ps)) ≡ Some u)
    by_test true g = (t, refl)
    by_test false g = g

module _ (payer first numbers : ℕ) (ps : List Payment) (at : Fill → Option ℕ) (h : IsIndexed payer first numbers ps at) where
  -- the payment at the place that the index has is the fill's standing one
  pub index_finds : (fill : Fill) (o : Option ℕ) → at fill ≡ o → option_and_then (λ k. option_and_then still (slice_get ps k)) o ≡ standing_of fill (standing_in ps)
  index_finds fill None e = by_search (standing_of fill (standing_in ps)) refl
    where
      by_search : (o : Option Standing) → standing_of fill (standing_in ps) ≡ o → None ≡ standing_of fill (standing_in ps)
      by_search None is = sym is
      by_search (Some s) is =
          let f = found_stands fill ps s is in
          let x : Some f.0 ≡ None = sym (h.there s f.0 f.1) ∙ (ap at f.2 ∙ e) in absurd cc
  index_finds fill (Some k) e =
      let f = h.found fill k e in
      let t = stands_found fill ps f.payment k f.there f.is_of in
      let g = found_stands fill ps t.0 t.1 in
      let m : k ≡ g.0 = same_some k g.0 (sym e ∙ (ap at (sym g.2) ∙ h.there t.0 g.0 g.1)) in
      ap (option_and_then still) (ap (slice_get ps) m ∙ g.1) ∙ sym t.1

  -- a fill without a standing payment has no place
  pub index_none : (fill : Fill) → standing_of fill (standing_in ps) ≡ None → at fill ≡ None
  index_none fill none = by_place (at fill) refl
    where
      by_place : (o : Option ℕ) → at fill ≡ o → at fill ≡ None
      by_place None e = e
      by_place (Some k) e =
          let f = h.found fill k e in
          let t = stands_found fill ps f.payment k f.there f.is_of in
          let x : Some t.0 ≡ None = sym t.1 ∙ none in absurd cc

-- no two standing payments are for one fill

abbrev Offset : (Fill → Option ℕ) → ℕ → List Payment → Type 0
Offset at n ps = (s : Standing) (k : ℕ) → slice_get ps k ≡ Some (Stands s) → at s.claim.fill ≡ Some (n + k)

one_on : (at : Fill → Option ℕ) (n : ℕ) (p : Payment) (ps : List Payment) → Offset at n (p ∷ ps) → Offset at (n + 1) ps
one_on at n p ps h s k e = let m : n + suc k ≡ n + 1 + k = omega arith in h s (suc k) e ∙ ap (λ x. Some x) m

others : (at : Fill → Option ℕ) (n m : ℕ) (s : Standing) (ps : List Payment) → at s.claim.fill ≡ Some m → m < n → Offset at n ps → AllByRecursion (IsOther s) (standing_in ps)
others at n m s [] is l h = tt
others at n m s (WasReversed r ∷ ps) is l h = others at (n + 1) m s ps is (omega arith) (one_on at n (WasReversed r) ps h)
others at n m s (Stands t ∷ ps) is l h =
    (λ same. let x : m ≡ n + 0 = same_some m (n + 0) (sym is ∙ (ap at same ∙ h t 0 refl)) in omega (arith, x), others at (n + 1) m s ps is (omega arith) (one_on at n (Stands t) ps h))

pub no_fill_twice : (at : Fill → Option ℕ) (n : ℕ) (ps : List Payment) → Offset at n ps → NoFillTwice (standing_in ps)
no_fill_twice at n [] h = tt
no_fill_twice at n (WasReversed r ∷ ps) h = no_fill_twice at (n + 1) ps (one_on at n (WasReversed r) ps h)
no_fill_twice at n (Stands s ∷ ps) h = (others at (n + 1) (n + 0) s ps (h s 0 refl) (omega arith) (one_on at n (Stands s) ps h), no_fill_twice at (n + 1) ps (one_on at n (Stands s) ps h))

pub index_ledger : (payer first numbers room : ℕ) (ps : List Payment) (at : Fill → Option ℕ) → IsIndexed payer first numbers ps at → IsLedger (record { payer = payer; first = first; payments = ps; room = room })
index_ledger payer first numbers room ps at h = record {
  numbered = h.numbered;
  fills = no_fill_twice at 0 ps (λ s k e. let m : k ≡ 0 + k = omega arith in h.there s k e ∙ ap (λ x. Some x) m);
  numbers = all_weaker (IsBelow numbers) IsNumbered (λ s below. let few = h.few in omega arith) (standing_in ps) h.below;
}

-- one payment more
module _ (payer first numbers more_numbers : ℕ) (ps : List Payment) (at new : Fill → Option ℕ) (s : Standing) (h : IsIndexed payer first numbers ps at) (auth : s.auth ≡ numbered payer (first + length ps))
    (few : more_numbers ≤ 100) (others : numbers ≤ more_numbers) (number : IsBelow more_numbers s) (none : standing_of s.claim.fill (standing_in ps) ≡ None) (more : (fill : Fill) → new fill ≡ cond (same_fill s.claim.fill fill) (Some (length ps)) (at fill)) where
  more_found : (fill : Fill) (place : ℕ) (b : Bool) → same_fill s.claim.fill fill ≡ b → cond b (Some (length ps)) (at fill) ≡ Some place → StandsAt (ps ++ Stands s ∷ []) fill place
  more_found fill place true is e = record {
    payment = s;
    there = subst (λ k. slice_get (ps ++ Stands s ∷ []) k ≡ Some (Stands s)) (same_some (length ps) place e) (get_last ps (Stands s));
    is_of = fill_same s.claim.fill fill is;
  }
  more_found fill place false is e =
      let f = h.found fill place e in record { payment = f.payment; there = get_append ps (Stands s ∷ []) place (get_within ps place (Stands f.payment) f.there) ∙ f.there; is_of = f.is_of }

  not_again : (t : Standing) (k : ℕ) → slice_get ps k ≡ Some (Stands t) → same_fill s.claim.fill t.claim.fill ≡ false
  not_again t k e = false_from_ne_true (same_fill s.claim.fill t.claim.fill) (λ is.
      let f = stands_found s.claim.fill ps t k e (sym (fill_same s.claim.fill t.claim.fill is)) in
      let x : Some f.0 ≡ None = sym f.1 ∙ none in absurd cc)

  more_there : (t : Standing) (place : ℕ) → slice_get (ps ++ Stands s ∷ []) place ≡ Some (Stands t) → new t.claim.fill ≡ Some place
  more_there t place e =
      elim (get_more ps (Stands s) place (Stands t) e) [
        | inl old ↦ more t.claim.fill ∙ (cond-false (same_fill s.claim.fill t.claim.fill) (Some (length ps)) (at t.claim.fill) (not_again t place old) ∙ h.there t place old)
        | inr last ↦ let one : Stands t ≡ Stands s = last.1 in
            let same : s ≡ t = cc in
            more t.claim.fill ∙ (cond-true (same_fill s.claim.fill t.claim.fill) (Some (length ps)) (at t.claim.fill) (subst (λ (x : Standing). same_fill s.claim.fill x.claim.fill ≡ true) same (fill_self s.claim.fill)) ∙ ap (λ k. Some k) (sym last.0))
      ]

  pub indexed_more : IsIndexed payer first more_numbers (ps ++ Stands s ∷ []) new
  indexed_more = record {
    least = h.least;
    numbered = numbered_more payer first ps (Stands s) h.numbered auth;
    few = few;
    below = subst (AllByRecursion (IsBelow more_numbers)) (sym (filter_map-append still ps (Stands s ∷ [])))
        (all_append (IsBelow more_numbers) (standing_in ps) (s ∷ []) (all_weaker (IsBelow numbers) (IsBelow more_numbers) (λ t below. omega arith) (standing_in ps) h.below) (number, tt));
    found = λ fill place e. more_found fill place (same_fill s.claim.fill fill) refl (sym (more fill) ∙ e);
    there = more_there;
  }

-- fewer standing payments
fewer_numbers : (numbers : ℕ) (auth : Auth) (by : TxnId) (ps : List Payment) → AllByRecursion (IsBelow numbers) (standing_in ps) → AllByRecursion (IsBelow numbers) (standing_in (map (after_reversal auth by) ps))
fewer_numbers numbers auth by [] a = tt
fewer_numbers numbers auth by (WasReversed r ∷ ps) a = fewer_numbers numbers auth by ps a
fewer_numbers numbers auth by (Stands s ∷ ps) a = by_test (same_auth auth s.auth) (fewer_numbers numbers auth by ps a.1)
  where
    by_test : (b : Bool) → AllByRecursion (IsBelow numbers) (standing_in (map (after_reversal auth by) ps)) → AllByRecursion (IsBelow numbers) (standing_in (cond b (reversal_of by s) (Stands s) ∷ map (after_reversal auth by) ps))
    by_test true g = g
    by_test false g = (a.0, g)

-- one standing payment is reversed
module _ (payer first numbers : ℕ) (ps : List Payment) (at new : Fill → Option ℕ) (auth : Auth) (by : TxnId) (s : Standing) (k : ℕ) (h : IsIndexed payer first numbers ps at) (there : slice_get ps k ≡ Some (Stands s)) (is_auth : s.auth ≡ auth)
    (less : (fill : Fill) → new fill ≡ cond (same_fill s.claim.fill fill) None (at fill)) where
  pub reversed_list : slice_set ps k (reversal_of by s) ≡ map (after_reversal auth by) ps
  reversed_list =
      let e : auth.serial ≡ first + k = ap (λ (a : Auth). a.serial) (sym is_auth ∙ numbered_at payer first ps k (Stands s) h.numbered there) in
      after_reversal_at payer first auth by ps k s h.numbered e is_auth there

  less_found : (fill : Fill) (place : ℕ) (b : Bool) → same_fill s.claim.fill fill ≡ b → cond b None (at fill) ≡ Some place → StandsAt (slice_set ps k (reversal_of by s)) fill place
  less_found fill place true is e = absurd cc
  less_found fill place false is e =
      let f = h.found fill place e in
      let other : place ≡ k → ⊥ = λ same.
      (let one : Stands f.payment ≡ Stands s = same_some (Stands f.payment) (Stands s) (sym f.there ∙ ap (slice_get ps) same ∙ there) in
      let eq : f.payment ≡ s = cc in
      both_ways (same_fill s.claim.fill fill) is (subst (λ (x : Fill). same_fill s.claim.fill x ≡ true) (ap (λ (x : Standing). x.claim.fill) (sym eq) ∙ f.is_of) (fill_self s.claim.fill))) in
      record { payment = f.payment; there = get_set_other ps k place (reversal_of by s) other ∙ f.there; is_of = f.is_of }

  less_there : (t : Standing) (place : ℕ) → slice_get (slice_set ps k (reversal_of by s)) place ≡ Some (Stands t) → new t.claim.fill ≡ Some place
  less_there t place e =
      let other : place ≡ k → ⊥ = λ same.
      (let one : reversal_of by s ≡ Stands t = same_some (reversal_of by s) (Stands t) (sym (ap (slice_get (slice_set ps k (reversal_of by s))) same ∙ get_set ps k (reversal_of by s) (get_within ps k (Stands s) there)) ∙ e) in absurd cc) in
      let old : slice_get ps place ≡ Some (Stands t) = sym (get_set_other ps k place (reversal_of by s) other) ∙ e in
      let apart : same_fill s.claim.fill t.claim.fill ≡ false = false_from_ne_true (same_fill s.claim.fill t.claim.fill) (λ is.
      other (same_some place k (sym (h.there t place old) ∙ (ap at (sym (fill_same s.claim.fill t.claim.fill is)) ∙ h.there s k there)))) in
      less t.claim.fill ∙ (cond-false (same_fill s.claim.fill t.claim.fill) None (at t.claim.fill) apart ∙ h.there t place old)

  pub indexed_less : IsIndexed payer first numbers (slice_set ps k (reversal_of by s)) new
  indexed_less = record {
    least = h.least;
    numbered = subst (AreNumbered payer first) (sym reversed_list) (numbered_kept payer first auth by ps h.numbered);
    few = h.few;
    below = subst (λ (xs : List Payment). AllByRecursion (IsBelow numbers) (standing_in xs)) (sym reversed_list) (fewer_numbers numbers auth by ps h.below);
    found = λ fill place e. less_found fill place (same_fill s.claim.fill fill) refl (sym (less fill) ∙ e);
    there = less_there;
  }

-- what an insertion and a removal make of the index
pub more_by : (ps : List Payment) (s : Standing) (key : Fill) (place : ℕ) (at new : Fill → Option ℕ) → key ≡ s.claim.fill → place ≡ length ps
    → ((fill : Fill) → new fill ≡ cond (fill_eq.ghosts.eq key fill) (Some place) (at fill)) → (fill : Fill) → new fill ≡ cond (same_fill s.claim.fill fill) (Some (length ps)) (at fill)
more_by ps s key place at new is here updates fill =
    updates fill ∙ (ap (λ t. cond t (Some place) (at fill)) (fill_eq_same key fill)
    ∙ (ap (λ (k : Fill). cond (same_fill k fill) (Some place) (at fill)) is ∙ ap (λ n. cond (same_fill s.claim.fill fill) (Some n) (at fill)) here))

pub less_by : (s : Standing) (key : Fill) (at new : Fill → Option ℕ) → key ≡ s.claim.fill → ((fill : Fill) → new fill ≡ cond (fill_eq.ghosts.eq key fill) None (at fill))
    → (fill : Fill) → new fill ≡ cond (same_fill s.claim.fill fill) None (at fill)
less_by s key at new is updates fill =
    updates fill ∙ (ap (λ t. cond t None (at fill)) (fill_eq_same key fill) ∙ ap (λ (k : Fill). cond (same_fill k fill) None (at fill)) is)

pub still_at : (o : Option Payment) (s : Standing) → option_and_then still o ≡ Some s → o ≡ Some (Stands s)
still_at None s e = absurd cc
still_at (Some (WasReversed r)) s e = absurd cc
still_at (Some (Stands t)) s e = ap (λ (x : Standing). Some (Stands x)) (same_some t s e)

pub auth_at : (auth : Auth) (ps : List Payment) (s : Standing) → payment_with auth ps ≡ Some (Stands s) → s.auth ≡ auth
auth_at auth ps s e = auth_same s.auth auth (find_passes (has_auth auth) ps (Stands s) e)
