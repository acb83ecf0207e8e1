-- Where no new row lets requests stay rejected that may have had a route, what had a route does not stay rejected.
use Rattle.std.proofs.Common.{◌≡◌, ◌⊎◌, ℕ, zero, suc, ◌+◌, ◌-◌, ◌≤◌, Bool, true, false, not, ◌&&◌, ◌==◌, cond, nat_le, List, [], ◌∷◌, ◌++◌, map, length, replicate, Option, Some, None, is_none, inl, inr, refl, sym, ap, ◌∙◌, subst, arith, append_assoc, eqb-true, leb-true}
use Rattle.std.specs.Prelude.{bytes_eq, slice_index}
use Rattle.std.specs.Option.{option_map, option_map_or}
use Rattle.std.specs.List.{list_any, filter_map, position_from}
use Rattle.std.specs.Ordering.{eq_by_cmp}
use Rattle.std.specs.Cmp.Lexicographic.{texts_ties, nat_list_cmp_total}
use Rattle.std.specs.FinMap.{get-from_entries}
use Rattle.std.proofs.lemmas.Bool.{and_parts, both_ways, cases_Bool, not-true}
use Rattle.std.proofs.lemmas.Option.{cond_some, none-some, same_Some}
use Rattle.std.proofs.lemmas.List.{length-append, length-replicate}
use Rattle.bin_routes.specs.declared.fault.RoutesFault.{RoutesFault}
use Rattle.bin_routes.specs.declared.fault.RoutesFault.TheVariants.{BadBin, BadPcn}
use Rattle.bin_routes.specs.Key.{RouteKey}
use Rattle.bin_routes.specs.Providers.{Providers}
use Rattle.bin_routes.specs.Row.{Row, leads, leading, is_bin, is_pcn, has_pcn, ends_in_space, filled, filled_row}
use Rattle.bin_routes.specs.Fault.{text_fault, row_fault, is_taken, fault_behind, first_fault}
use Rattle.bin_routes.specs.Table.{bin_cmp, text_of, key_text, key_by, rejected_key, entry_by, rejected_entry, routes_of, stays_rejected}
use Rattle.claim_model.proofs.Tests.{bytes_same, bytes_self}
use Rattle.log_growth.specs.Compared.{same_row, has_bin, is_for, covers, rejects_routed}
use Rattle.log_growth.proofs.NodesGrown.{neither}
use Rattle.log_growth.proofs.TableRows.{Alone, In, Takes, Untaken, among, any_true, first, first_is, first_row, from_leading, none_at, one_row, rejecting_takes, untaken}
use Rattle.log_growth.proofs.PaidRows.{found_first, hit, hit_by}
use Rattle.log_growth.proofs.RoutesGrown.{OfKey}

-- ---- texts of keys

cancel : (a b s t : List ℕ) → length a ≡ length b → a ++ s ≡ b ++ t → (a ≡ b) × (s ≡ t)
cancel [] [] s t n e = (refl, e)
cancel [] (y ∷ b) s t n e = absurd (omega (arith, n))
cancel (x ∷ a) [] s t n e = absurd (omega (arith, n))
cancel (x ∷ a) (y ∷ b) s t n e =
    let first : x ≡ y = cc in
    let rest : a ++ s ≡ b ++ t = cc in
    let p = cancel a b s t (omega (arith, n)) rest in
    (ap (λ (z : ℕ). z ∷ a) first ∙ ap (λ (z : List ℕ). y ∷ z) p.0, p.1)

in_front : (bin pcn qualifier provider : List ℕ) → text_of bin pcn qualifier provider ≡ bin ++ (pcn ++ (qualifier ++ provider))
unfolding text_of
in_front bin pcn qualifier provider = append_assoc (bin ++ pcn) qualifier provider ∙ append_assoc bin pcn (qualifier ++ provider)

texts_apart : (b c p q s t u v : List ℕ) → length b ≡ length c → length p ≡ length q → text_of b p s u ≡ text_of c q t v → (b ≡ c) × (p ≡ q)
texts_apart b c p q s t u v n m e =
    let x = cancel b c (p ++ (s ++ u)) (q ++ (t ++ v)) n (sym (in_front b p s u) ∙ (e ∙ in_front c q t v)) in
    (x.0, (cancel p q (s ++ u) (t ++ v) m x.1).0)

bins_alone : (b c p q s t u v : List ℕ) → length b ≡ length c → text_of b p s u ≡ text_of c q t v → b ≡ c
bins_alone b c p q s t u v n e = (cancel b c (p ++ (s ++ u)) (q ++ (t ++ v)) n (sym (in_front b p s u) ∙ (e ∙ in_front c q t v))).0

-- a text without a space at its end is known by what it is filled to

tail_of : (x : ℕ) (p : List ℕ) → ends_in_space (x ∷ p) ≡ false → ends_in_space p ≡ false
tail_of x [] e = refl
tail_of x (y ∷ p) e =
    let next : suc (suc (length p)) - 1 ≡ suc (suc (length p) - 1) = omega arith in
    sym (ap (λ (k : ℕ). slice_index (x ∷ y ∷ p) k == 32) next) ∙ e

no_spaces : (q : List ℕ) (k l : ℕ) → ends_in_space q ≡ false → replicate k 32 ≡ q ++ replicate l 32 → [] ≡ q
no_spaces [] k l free e = refl
no_spaces (y ∷ q) zero l free e = absurd cc
no_spaces (y ∷ q) (suc k) l free e =
    let space : 32 ≡ y = cc in
    let rest : replicate k 32 ≡ q ++ replicate l 32 = cc in
    let none : [] ≡ q = no_spaces q k l (tail_of y q free) rest in
    absurd (both_ways (ends_in_space (y ∷ q)) free (ap (λ (z : List ℕ). ends_in_space (y ∷ z)) (sym none) ∙ ap (λ (z : ℕ). z == 32) (sym space)))

padded : (p q : List ℕ) (k l : ℕ) → ends_in_space p ≡ false → ends_in_space q ≡ false → p ++ replicate k 32 ≡ q ++ replicate l 32 → p ≡ q
padded [] q k l f g e = no_spaces q k l g e
padded (x ∷ p) [] k l f g e = sym (no_spaces (x ∷ p) l k f (sym e))
padded (x ∷ p) (y ∷ q) k l f g e =
    let first : x ≡ y = cc in
    let rest : p ++ replicate k 32 ≡ q ++ replicate l 32 = cc in
    ap (λ (z : ℕ). z ∷ p) first ∙ ap (λ (z : List ℕ). y ∷ z) (padded p q k l (tail_of x p f) (tail_of y q g) rest)

filled_apart : (p q : List ℕ) → is_pcn p ≡ true → is_pcn q ≡ true → filled p ≡ filled q → p ≡ q
unfolding is_pcn filled
filled_apart p q a b e =
    padded p q _ _ (not-true (ends_in_space p) (and_parts _ (not (ends_in_space p)) a).1) (not-true (ends_in_space q) (and_parts _ (not (ends_in_space q)) b).1) e

filled_long : (p : List ℕ) → is_pcn p ≡ true → length (filled p) ≡ 10
unfolding is_pcn filled
filled_long p a =
    let short : length p ≤ 10 = leb-true (length p) 10 (and_parts (nat_le (length p) 10) _ (and_parts _ (not (ends_in_space p)) a).0).0 in
    let space : ℕ = 32 in
    let spaces : length (replicate (10 - length p) space) ≡ 10 - length p = length-replicate (10 - length p) space in
    length-append p (replicate (10 - length p) space) ∙ (ap (λ (n : ℕ). length p + n) spaces ∙ omega (arith, short))

bin_long : (b : List ℕ) → is_bin b ≡ true → length b ≡ 6
unfolding is_bin
bin_long b e = eqb-true (length b) 6 (and_parts (length b == 6) _ e).0

-- ---- rows of a table without a fault

test_passed : (t : Bool) (f : RoutesFault) (next : Option RoutesFault) → cond (not t) (Some f) next ≡ None → (t ≡ true) × (next ≡ None)
test_passed true f next e = (refl, e)
test_passed false f next e = absurd cc

record Texts (r : Row) : Type 0 where
  bin : is_bin r.bin ≡ true
  pcn : has_pcn r.pcn ≡ true

texts_by : (payers place : ℕ) (r : Row) → text_fault payers place r ≡ None → Texts r
unfolding text_fault
texts_by payers place r e =
    let a = test_passed (is_bin r.bin) (BadBin place) _ e in
    let b = test_passed (has_pcn r.pcn) (BadPcn place) _ a.1 in
    record { bin = a.0; pcn = b.0 }

texts_in : (payers : ℕ) (earlier rows : List Row) (r : Row) → fault_behind payers earlier rows ≡ None → In r rows → Texts r
texts_in payers earlier [] r none i = absurd i
texts_in payers earlier (x ∷ rows) r none i =
    let here = neither (row_fault payers (length earlier) x (is_taken earlier x)) (fault_behind payers (earlier ++ x ∷ []) rows) none in
    elim i [
      | inl same ↦ subst Texts same (texts_by payers (length earlier) x (neither (text_fault payers (length earlier) x) _ here.0).0)
      | inr j ↦ texts_in payers (earlier ++ x ∷ []) rows r here.1 j
    ]

-- ---- rows that let requests stay rejected

abbrev entries : List Row → List (List ℕ × ℕ)
entries rows = filter_map rejected_entry (map filled_row rows)

-- the last number of a row of this key
abbrev last_of : List ℕ → Row → Option ℕ
last_of key = hit_by bin_cmp rejected_entry key

record Rejecting (key : List ℕ) (row : Row) (last : ℕ) : Type 0 where
  key_is : rejected_key (filled_row row) ≡ Some key
  last_is : row.rejected ≡ Some last

rejecting : (key : List ℕ) (x : Row) (last : ℕ) → last_of key x ≡ Some last → Rejecting key x last
rejecting key x last e = known x.rejected (rejected_key (filled_row x)) refl refl e
  where
    known : (o : Option ℕ) (q : Option (List ℕ)) → x.rejected ≡ o → rejected_key (filled_row x) ≡ q → hit bin_cmp key (entry_by o q) ≡ Some last → Rejecting key x last
    known None q is has e = absurd (none-some last e)
    known (Some n) None is has e = absurd (none-some last e)
    known (Some n) (Some other) is has e =
        let h = cond_some (eq_by_cmp bin_cmp key other) n last e in
        record { key_is = has ∙ ap Some (sym (bytes_same key other (texts_ties key other ∙ h.0))); last_is = is ∙ ap Some h.1 }

not_leading : (r : Row) (last : ℕ) → r.rejected ≡ Some last → leads r ≡ false
not_leading r last is = ap is_none is

-- each key is that of one row
takes : (key : List ℕ) (x y : Row) (a b : ℕ) → Rejecting key x a → Rejecting key y b → Takes x y
takes key x y a b s t = rejecting_takes x y key a (not_leading y b t.last_is) t.key_is ((λ i. entry_by (s.last_is i) (s.key_is i)))

one_last : (rows : List Row) (key : List ℕ) → Untaken [] rows → Alone (last_of key) rows
one_last rows key none x y a b i j e f =
    let s = rejecting key x a e in
    let t = rejecting key y b f in
    let same = one_row [] rows x y none i j (takes key x y a b s t) (takes key y x b a t s) in
    same_Some a b (sym s.last_is ∙ (ap (λ (z : Row). z.rejected) same ∙ t.last_is))

-- ---- what such a row has

record KeyOf (r : Row) (key : List ℕ) : Type 0 where
  pcn : List ℕ
  pcn_is : r.pcn ≡ Some pcn
  providers : Providers
  text : key ≡ text_of r.bin (filled pcn) providers.qualifier providers.first

key_parts : (r : Row) (key : List ℕ) (p : Option (List ℕ)) (q : Option Providers) → r.pcn ≡ p → key_by r.bin (option_map filled p) q ≡ Some key → KeyOf r key
key_parts r key None q is e = absurd cc
key_parts r key (Some p) None is e = absurd cc
key_parts r key (Some p) (Some q) is e = record { pcn = p; pcn_is = is; providers = q; text = cc }

-- a row that leads to a payer of a key covers one that lets requests of this key stay rejected
covering : (r o : Row) (key : RouteKey) → Texts r → Texts o → rejected_key (filled_row r) ≡ Some (key_text key) → leads o ≡ true → o.bin ≡ key.bin → (option_map filled o.pcn ≡ None) ⊎ (option_map filled o.pcn ≡ Some key.pcn) → covers r o ≡ true
covering r o key tr to has lead bin pcn =
    let k = key_parts r (key_text key) r.pcn r.providers refl has in
    let long : length key.bin ≡ length r.bin = ap length (sym bin) ∙ (bin_long o.bin to.bin ∙ sym (bin_long r.bin tr.bin)) in
    let bins : key.bin ≡ r.bin = bins_alone key.bin r.bin key.pcn (filled k.pcn) key.qualifier k.providers.qualifier key.provider k.providers.first long k.text in
    let same : has_bin r o ≡ true = ap (λ (z : List ℕ). bytes_eq r.bin z) (bin ∙ bins) ∙ bytes_self r.bin in
    let pcns : is_for r.pcn o.pcn ≡ true = ap (λ (z : Option (List ℕ)). is_for z o.pcn) k.pcn_is ∙ by_pcn k o.pcn refl pcn long in
    ap (λ (t : Bool). t && (has_bin r o && is_for r.pcn o.pcn)) lead ∙ (ap (λ (t : Bool). t && is_for r.pcn o.pcn) same ∙ pcns)
  where
    by_pcn : (k : KeyOf r (key_text key)) (p : Option (List ℕ)) → o.pcn ≡ p → (option_map filled p ≡ None) ⊎ (option_map filled p ≡ Some key.pcn) → length key.bin ≡ length r.bin → is_for (Some k.pcn) p ≡ true
    by_pcn k None is e long = refl
    by_pcn k (Some p) is (inl e) long = absurd cc
    by_pcn k (Some p) is (inr e) long =
        let padded_is : filled p ≡ key.pcn = cc in
        let own : is_pcn p ≡ true = ap has_pcn (sym is) ∙ to.pcn in
        let its : is_pcn k.pcn ≡ true = ap has_pcn (sym k.pcn_is) ∙ tr.pcn in
        let both = texts_apart key.bin r.bin key.pcn (filled k.pcn) key.qualifier k.providers.qualifier key.provider k.providers.first long (ap length (sym padded_is) ∙ (filled_long p own ∙ sym (filled_long k.pcn its))) k.text in
        let same : k.pcn ≡ p = filled_apart k.pcn p its own (sym (padded_is ∙ both.1)) in
        ap (λ (z : List ℕ). bytes_eq k.pcn z) (sym same) ∙ bytes_self k.pcn

-- ---- what had a route

by_last : ℕ → Option ℕ → Bool
by_last number o = option_map_or (λ last. nat_le number last) o false

rejected_is : (rows : List Row) (number : ℕ) (key : RouteKey) → stays_rejected (routes_of rows) number key ≡ by_last number (first (last_of (key_text key)) rows)
unfolding routes_of by_last
rejected_is rows number key =
    ap (λ (o : Option ℕ). option_map_or (λ last. nat_le number last) o false) (get-from_entries nat_list_cmp_total (entries rows) (key_text key) ∙ found_first bin_cmp rejected_entry (key_text key) rows)

third_false : (a b c : Bool) → a ≡ false → b ≡ false → (not a && (not b && c)) ≡ false → c ≡ false
third_false true b c is_a is_b e = absurd cc
third_false false true c is_a is_b e = absurd cc
third_false false false c is_a is_b e = e

module _ (old_payers payers : ℕ) (old new : List Row) (no_old : first_fault old_payers old ≡ None) (no_new : first_fault payers new ≡ None) (stays : (r : Row) → In r old → In r new) (none : position_from (λ (row : Row). rejects_routed old row) 0 new ≡ None) where
  old_one : (number : ℕ) (key : List ℕ) (last : ℕ) (x : Row) → In x old → last_of key x ≡ Some last → by_last number (first (last_of key) old) ≡ false → by_last number (Some last) ≡ false
  unfolding first_fault
  old_one number key last x i is unrejected =
      let alone = one_last new key (untaken payers [] new no_new) in
      ap (by_last number) (sym (first_is (last_of key) old x last (λ y z a b j k. alone y z a b (stays y j) (stays z k)) i is)) ∙ unrejected

  new_one : (number : ℕ) (key : RouteKey) (last : ℕ) (x : Row) → In x new → Rejecting (key_text key) x last → list_any (same_row x) old ≡ false → OfKey (leading old) key → by_last number (Some last) ≡ false
  unfolding first_fault
  new_one number key last x i s is o =
      let at = from_leading o.row old o.is_in in
      let covered : covers x o.row ≡ true = covering x o.row key (texts_in payers [] new x no_new i) (texts_in old_payers [] old o.row no_old at.0) s.key_is at.1 o.bin_is o.pcn_is in
      absurd (both_ways (list_any (covers x) old)
      (third_false (leads x) (list_any (same_row x) old) (list_any (covers x) old) (not_leading x last s.last_is) is (none_at (λ (row : Row). rejects_routed old row) 0 new x none i))
      (any_true (covers x) old o.row at.0 covered))

  by_found : (number : ℕ) (key : RouteKey) (o : Option ℕ) → first (last_of (key_text key)) new ≡ o → OfKey (leading old) key → by_last number (first (last_of (key_text key)) old) ≡ false → by_last number o ≡ false
  unfolding by_last
  by_found number key None is of_key unrejected = refl
  by_found number key (Some last) is of_key unrejected =
      let x = first_row (last_of (key_text key)) new last is in
      elim (cases_Bool (list_any (same_row x.row) old)) [
        | inl known ↦ old_one number (key_text key) last x.row (among x.row old known) x.is unrejected
        | inr other ↦ new_one number key last x.row x.is_in (rejecting (key_text key) x.row last x.is) other of_key
      ]

  -- what had a route does not stay rejected
  pub still_open : (number : ℕ) (key : RouteKey) → OfKey (leading old) key → stays_rejected (routes_of old) number key ≡ false → stays_rejected (routes_of new) number key ≡ false
  still_open number key of_key unrejected =
      rejected_is new number key ∙ by_found number key (first (last_of (key_text key)) new) refl of_key (sym (rejected_is old number key) ∙ unrejected)
