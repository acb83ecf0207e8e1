-- Where no row is gone and no new one takes claims from an old one, what had a route has it still.
use Rattle.std.proofs.Common.{◌≡◌, ℕ, zero, suc, Bool, true, false, not, ◌&&◌, ◌==◌, cond, List, [], ◌⊎◌, Option, Some, None, is_none, is_some, inl, inr, refl, sym, ap, ◌∙◌}
use Rattle.std.specs.Prelude.{bytes_eq}
use Rattle.std.specs.Option.{option_or, option_map}
use Rattle.std.specs.List.{list_any, position_from}
use Rattle.std.proofs.lemmas.Bool.{and_from, both_ways, cond-false, not-false}
use Rattle.std.proofs.lemmas.List.Folds.{list_any_at}
use Rattle.std.proofs.lemmas.Option.{get_or_from_slice_get, slice_get_within}
use Rattle.bin_routes.specs.Key.{RouteKey}
use Rattle.bin_routes.specs.Providers.{Providers, have}
use Rattle.bin_routes.specs.Row.{Row, leads, leading, filled}
use Rattle.bin_routes.specs.Fault.{first_fault}
use Rattle.bin_routes.specs.Table.{is_ranged, routes_of, payer_of, stays_rejected, payer_under}
use Rattle.claim_model.proofs.Tests.{bytes_self, nat_same}
use Rattle.claim_model.specs.Journal.{PharmacySettings}
use Rattle.claim_model.specs.Numbered.{numbered}
use Rattle.log_growth.specs.Compared.{same_row, takes_by, takes_from, takes_claims, is_new_range, has_bin, is_in_row, is_in_ranges, takes_range, rejects_routed, has_new_range, route_ungrown}
use Rattle.log_growth.specs.declared.ungrown.Ungrown.TheVariants as ungrown
use Rattle.log_growth.proofs.NodesGrown.{neither, none_mapped}
use Rattle.log_growth.proofs.TableRows.{Alone, In, Untaken, among, any_true, either_is, first, first_is, first_none, first_row, from_leading, none_any, none_at, to_leading, untaken}
use Rattle.log_growth.proofs.PaidRows.{IsForKey, Serves, bin_payer, exact_hit, one_exact, one_other, one_ranged, other_hit, paid_by, payer_is, ranged_hit, serves_exact, serves_other, serves_ranged}

-- ---- what has a route has a row of its BIN, and of its processor control number or of none

record Serving (pcn : Option (List ℕ)) (rows : List Row) (key : RouteKey) (payer : ℕ) : Type 0 where
  row : Row
  is_in : In row rows
  bin_is : row.bin ≡ key.bin
  pcn_is : option_map filled row.pcn ≡ pcn
  pays : row.payer ≡ payer

serving : (whom : Option Providers → Type 0) (f : Row → Option ℕ) (pcn : Option (List ℕ)) (rows : List Row) (key : RouteKey) (payer : ℕ) → ((x : Row) (n : ℕ) → f x ≡ Some n → Serves whom pcn key x n) → first f rows ≡ Some payer → Serving pcn rows key payer
serving whom f pcn rows key payer serves e =
    let x = first_row f rows payer e in
    let s = serves x.row payer x.is in
    record { row = x.row; is_in = x.is_in; bin_is = s.bin_is; pcn_is = s.pcn_is; pays = s.pays }

bin_row : (rows : List Row) (key : RouteKey) (payer : ℕ) → bin_payer rows key ≡ Some payer → Serving None rows key payer
bin_row rows key payer e = elim (either_is (first (ranged_hit None key) rows) (first (other_hit key) rows) payer e) [
  | inl is ↦ serving (IsForKey key) (ranged_hit None key) None rows key payer (serves_ranged None key) is
  | inr is ↦ serving (λ o. o ≡ None) (other_hit key) None rows key payer (serves_other key) is
]

pub record OfKey (rows : List Row) (key : RouteKey) : Type 0 where
  pub row : Row
  pub is_in : In row rows
  pub bin_is : row.bin ≡ key.bin
  pub pcn_is : (option_map filled row.pcn ≡ None) ⊎ (option_map filled row.pcn ≡ Some key.pcn)

key_row : (rows : List Row) (key : RouteKey) (payer : ℕ) → paid_by rows key ≡ Some payer → OfKey rows key
key_row rows key payer e = elim (either_is (first (ranged_hit (Some key.pcn) key) rows) (option_or (first (exact_hit key) rows) (bin_payer rows key)) payer e) [
  | inl is ↦ named (serving (IsForKey key) (ranged_hit (Some key.pcn) key) (Some key.pcn) rows key payer (serves_ranged (Some key.pcn) key) is)
  | inr more ↦ elim (either_is (first (exact_hit key) rows) (bin_payer rows key) payer more) [
    | inl is ↦ named (serving (λ o. o ≡ None) (exact_hit key) (Some key.pcn) rows key payer (serves_exact key) is)
    | inr is ↦ let x = bin_row rows key payer is in record { row = x.row; is_in = x.is_in; bin_is = x.bin_is; pcn_is = inl x.pcn_is }
  ]
]
  where
    named : Serving (Some key.pcn) rows key payer → OfKey rows key
    named x = record { row = x.row; is_in = x.is_in; bin_is = x.bin_is; pcn_is = inr x.pcn_is }

-- ---- old rows and new ones

-- no new row takes claims of another payer's
same_pays : (r o : Row) (p s : Option (List ℕ)) (q : List ℕ) → r.providers ≡ None → r.pcn ≡ p → option_map filled p ≡ Some q → o.pcn ≡ s → option_map filled s ≡ None → r.bin ≡ o.bin → takes_from r o ≡ false → r.payer ≡ o.payer
same_pays r o None s q rn rp fq op fs bin e = absurd cc
same_pays r o (Some p) (Some s) q rn rp fq op fs bin e = absurd cc
same_pays r o (Some p) None q rn rp fq op fs bin e =
    let t : (bytes_eq r.bin o.bin && not (r.payer == o.payer)) ≡ false = (λ i. is_none (sym rn i) && takes_by (sym rp i) (sym op i) r o) ∙ e in
    let same = ap (bytes_eq r.bin) (sym bin) ∙ bytes_self r.bin in
    nat_same r.payer o.payer (not-false (r.payer == o.payer) (sym (ap (λ (b : Bool). b && not (r.payer == o.payer)) same) ∙ t))

-- what is asked of the rows of old and new settings, for a key
record Kept (old new : List Row) (key : RouteKey) : Type 0 where
  none : Untaken [] new
  stays : (r : Row) → In r (leading old) → In r (leading new)
  takes : (r e : Row) → In r (leading new) → In e (leading old) → (In r (leading old) → ⊥) → takes_from r e ≡ false
  own : (y : Row) (pcn : Option (List ℕ)) (payer : ℕ) → In y (leading new) → ranged_hit pcn key y ≡ Some payer → In y (leading old)

-- of two tables, one after the other, what is found in the second is found where it was before
or_still : (a b c d : Option ℕ) (payer : ℕ) → ((z : ℕ) → a ≡ Some z → c ≡ Some z) → (a ≡ None → b ≡ Some payer → (z : ℕ) → c ≡ Some z → z ≡ payer) → (b ≡ Some payer → d ≡ Some payer) → option_or a b ≡ Some payer → option_or c d ≡ Some payer
or_still (Some z) b c d payer same fresh later e = ap (λ (o : Option ℕ). option_or o d) (same z refl) ∙ e
or_still None b None d payer same fresh later e = later e
or_still None b (Some z) d payer same fresh later e = ap Some (fresh refl e z refl)

module _ (old new : List Row) (key : RouteKey) (payer : ℕ) (k : Kept old new key) where
  still : (f : Row → Option ℕ) → Alone f (leading new) → (z : ℕ) → first f (leading old) ≡ Some z → first f (leading new) ≡ Some z
  still f alone z e = let x = first_row f (leading old) z e in first_is f (leading new) x.row z alone (k.stays x.row x.is_in) x.is

  -- a row for some providers is no newcomer
  no_range : (pcn : Option (List ℕ)) → first (ranged_hit pcn key) (leading old) ≡ None → (z : ℕ) → first (ranged_hit pcn key) (leading new) ≡ Some z → z ≡ payer
  no_range pcn none z e =
      let y = first_row (ranged_hit pcn key) (leading new) z e in
      absurd (first_none (ranged_hit pcn key) (leading old) y.row z (k.own y.row pcn z y.is_in y.is) y.is none)

  -- a row for all that is has the payer too
  no_other : first (exact_hit key) (leading old) ≡ None → bin_payer (leading old) key ≡ Some payer → (z : ℕ) → first (exact_hit key) (leading new) ≡ Some z → z ≡ payer
  no_other none e z there =
      let x = bin_row (leading old) key payer e in
      let y = first_row (exact_hit key) (leading new) z there in
      let s = serves_exact key y.row z y.is in
      sym s.pays
      ∙ (same_pays y.row x.row y.row.pcn x.row.pcn key.pcn s.has refl s.pcn_is refl x.pcn_is (s.bin_is ∙ sym x.bin_is) (k.takes y.row x.row y.is_in x.is_in (λ i. first_none (exact_hit key) (leading old) y.row z i y.is none)) ∙ x.pays)

  still_paid : paid_by (leading old) key ≡ Some payer → paid_by (leading new) key ≡ Some payer
  still_paid =
      or_still _ _ _ _ payer (still (ranged_hit (Some key.pcn) key) (one_ranged new k.none key (Some key.pcn))) (λ none _. no_range (Some key.pcn) none)
      (or_still _ _ _ _ payer (still (exact_hit key) (one_exact new k.none key)) no_other
      (or_still _ _ _ _ payer (still (ranged_hit None key) (one_ranged new k.none key None)) (λ none _. no_range None none) (still (other_hit key) (one_other new k.none key) payer)))

has_old_bin : (rows : List Row) (y : Row) (key : RouteKey) → y.bin ≡ key.bin → OfKey (leading rows) key → list_any (has_bin y) rows ≡ true
has_old_bin rows y key is o = any_true (has_bin y) rows o.row (from_leading o.row rows o.is_in).0 (ap (λ (z : List ℕ). bytes_eq z o.row.bin) (is ∙ sym o.bin_is) ∙ bytes_self o.row.bin)

-- ---- what nothing is found of

-- none of the rows that a comparison looks for is there
record NoneFound (pharmacies : List PharmacySettings) (old new : List Row) : Type 0 where
  gone : position_from (λ (row : Row). not (list_any (same_row row) new)) 0 old ≡ None
  taking : position_from (λ (row : Row). takes_claims old row) 0 new ≡ None
  range : position_from (λ (row : Row). takes_range pharmacies old row) 0 new ≡ None
  rejecting : position_from (λ (row : Row). rejects_routed old row) 0 new ≡ None

none_found : (pharmacies : List PharmacySettings) (old new : List Row) → route_ungrown pharmacies old new ≡ None → NoneFound pharmacies old new
none_found pharmacies old new grown =
    let g = neither _ _ grown in
    let h = neither _ _ g.1 in
    let r = neither _ _ h.1 in
    record { gone = none_mapped ungrown.RouteGone _ g.0; taking = none_mapped ungrown.RouteTaken _ h.0; range = none_mapped ungrown.RangeTaken _ r.0; rejecting = none_mapped ungrown.RouteRejected _ r.1 }

pub rejects_left : (pharmacies : List PharmacySettings) (old new : List Row) → route_ungrown pharmacies old new ≡ None → position_from (λ (row : Row). rejects_routed old row) 0 new ≡ None
rejects_left pharmacies old new grown = (none_found pharmacies old new grown).rejecting

pub all_stay : (pharmacies : List PharmacySettings) (old new : List Row) → route_ungrown pharmacies old new ≡ None → (r : Row) → In r old → In r new
all_stay pharmacies old new grown r i =
    among r new (not-false (list_any (same_row r) new) (none_at (λ (row : Row). not (list_any (same_row row) new)) 0 old r (none_found pharmacies old new grown).gone i))

-- a row that is none of the old ones takes claims from none of them
taken_by : (old : List Row) (r e : Row) (s : Bool) → list_any (same_row r) old ≡ s → takes_claims old r ≡ false → In e old → (In r old → ⊥) → takes_from r e ≡ false
taken_by old r e true is none j new_one = absurd (new_one (among r old is))
taken_by old r e false is none j new_one = none_any (takes_from r) old e (sym (ap (λ (b : Bool). not b && list_any (takes_from r) old) is) ∙ none) j

-- a row for some providers of an old BIN that is none of the old rows is for newcomers
old_by : (old : List Row) (y : Row) (s : Bool) → list_any (same_row y) old ≡ s → leads y ≡ true → is_ranged y ≡ true → (is_new_range old y ≡ true → ⊥) → In y old
old_by old y true is lead ranged new = among y old is
old_by old y false is lead ranged new = absurd (new (and_from (leads y) _ lead (and_from (is_ranged y) (not (list_any (same_row y) old)) ranged (ap not is))))

is_for_some : (key : RouteKey) (y : Row) (o : Option Providers) → y.providers ≡ o → IsForKey key o → is_ranged y ≡ true
is_for_some key y None is e = absurd cc
is_for_some key y (Some r) is e = ap is_some is

module _ (payers : ℕ) (pharmacies : List PharmacySettings) (old new : List Row) (none : first_fault payers new ≡ None) (grown : route_ungrown pharmacies old new ≡ None) where
  -- what had a payer has it still, where no new row for some providers of the key is of an old BIN
  routes_last : (key : RouteKey) (payer : ℕ) → ((y : Row) → In y new → is_new_range old y ≡ true → list_any (has_bin y) old ≡ true → IsForKey key y.providers → ⊥)
      → payer_of (routes_of old) key ≡ Some payer → payer_of (routes_of new) key ≡ Some payer
  unfolding first_fault
  routes_last key payer newcomer e =
      let found = none_found pharmacies old new grown in
      let before : paid_by (leading old) key ≡ Some payer = sym (payer_is old key) ∙ e in
      payer_is new key
      ∙ still_paid old new key payer
      (record {
        none = untaken payers [] new none;
        stays = λ r i. let o = from_leading r old i in to_leading r new (all_stay pharmacies old new grown r o.0) o.1;
        takes = λ r x i j new_one. let o = from_leading r new i in
            taken_by old r x (list_any (same_row r) old) refl (none_at (λ (row : Row). takes_claims old row) 0 new r found.taking o.0) (from_leading x old j).0 (λ k. new_one (to_leading r old k o.1));
        own = λ y pcn n i f. let o = from_leading y new i in
            let s = serves_ranged pcn key y n f in
            to_leading y old
            (old_by old y (list_any (same_row y) old) refl o.1 (is_for_some key y y.providers refl s.has)
            (λ is. newcomer y o.0 is (has_old_bin old y key s.bin_is (key_row (leading old) key payer before)) s.has)) o.1;
      }) before

  -- all keys, where no row is new for some providers of an old BIN
  pub routes_widen : has_new_range old new ≡ false → (key : RouteKey) (payer : ℕ) → payer_of (routes_of old) key ≡ Some payer → payer_of (routes_of new) key ≡ Some payer
  routes_widen plainly key payer =
      routes_last key payer
      (λ y i is bin whom. both_ways (is_new_range old y && list_any (has_bin y) old) (none_any (λ row. is_new_range old row && list_any (has_bin row) old) new y plainly i) (and_from _ _ is bin))

  -- the keys of the old pharmacies
  pub routes_widen_for : (key : RouteKey) (payer : ℕ) (p : PharmacySettings) (n : ℕ) → numbered pharmacies n ≡ Some p → p.qualifier ≡ key.qualifier → p.provider ≡ key.provider
      → payer_of (routes_of old) key ≡ Some payer → payer_of (routes_of new) key ≡ Some payer
  routes_widen_for key payer p n at qualifier provider =
      routes_last key payer
      (λ y i is bin whom. both_ways (takes_range pharmacies old y) (none_at (λ (row : Row). takes_range pharmacies old row) 0 new y (none_found pharmacies old new grown).range i)
      (and_from _ _ is (and_from _ _ bin (in_pharmacies (is_in_row y) n at (range_has y.providers whom)))))
    where
      range_has : (o : Option Providers) → IsForKey key o → is_in_ranges o p ≡ true
      range_has None e = absurd cc
      range_has (Some r) e = (λ i. have r (qualifier i) (provider i)) ∙ e

      in_pharmacies : (test : PharmacySettings → Bool) (n : ℕ) → numbered pharmacies n ≡ Some p → test p ≡ true → list_any test pharmacies ≡ true
      in_pharmacies test zero at e = absurd cc
      in_pharmacies test (suc k) at e = list_any_at test pharmacies k p (slice_get_within pharmacies k p at) (ap test (get_or_from_slice_get pharmacies k p p at) ∙ e)

-- ---- routes under a number

-- a route under a number is the key's
stays_by : (b : Bool) (o : Option ℕ) (payer : ℕ) → cond b None o ≡ Some payer → (b ≡ false) × (o ≡ Some payer)
stays_by true o payer e = absurd cc
stays_by false o payer e = (refl, e)

-- what has a payer under a number has it by a row of its key, and does not stay rejected
pub record Under (old : List Row) (number : ℕ) (key : RouteKey) (payer : ℕ) : Type 0 where
  pub of_key : OfKey (leading old) key
  pub payer_is : payer_of (routes_of old) key ≡ Some payer
  pub unrejected : stays_rejected (routes_of old) number key ≡ false

pub under : (old : List Row) (number : ℕ) (key : RouteKey) (payer : ℕ) → payer_under (routes_of old) number key ≡ Some payer → Under old number key payer
unfolding payer_under
under old number key payer e =
    let s = stays_by (stays_rejected (routes_of old) number key) (payer_of (routes_of old) key) payer e in
    record { of_key = key_row (leading old) key payer (sym (payer_is old key) ∙ s.1); payer_is = s.1; unrejected = s.0 }

pub routed : (new : List Row) (number : ℕ) (key : RouteKey) (payer : ℕ) → stays_rejected (routes_of new) number key ≡ false → payer_of (routes_of new) key ≡ Some payer → payer_under (routes_of new) number key ≡ Some payer
unfolding payer_under
routed new number key payer unrejected led = cond-false (stays_rejected (routes_of new) number key) None (payer_of (routes_of new) key) unrejected ∙ led
