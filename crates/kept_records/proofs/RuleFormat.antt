-- The rule of retries in a journal's text.
use Rattle.std.proofs.Common.{◌≡◌, ℕ, zero, suc, ◌<◌, ◌≤◌, ◌^◌, Bool, true, false, not, cond, ◌&&◌, ◌==◌, nat_lt, nat_le, ◌⊎◌, inl, inr, List, ◌++◌, length, bytes_eq, Ok, refl, ap, subst, ◌∙◌, arith, leb-true, le-leb}
use Rattle.std.proofs.lemmas.Bool.{and_parts, and_from}
use Rattle.std.proofs.lemmas.Bool.Decides.{nat_tests}
use Rattle.std.specs.List.{AllByRecursion}
use Rattle.claim_model.specs.Journal.{PharmacySettings, RetryRule, JournalAtRest, opening_rule, is_rounds, most_nodes}
use Rattle.claim_model.proofs.Tests.{bytes_same, bytes_self, nat_same, nat_self}
use Rattle.codec.specs.Laws.{AreBytes, IsTaken, IsCodec}
use Rattle.codec.proofs.CodecLaws.{u16_is, u32_is, both_is, of_parts_is, counted_is}
use Rattle.kept_records.specs.declared.fault.RecordFault.TheVariants.{BadRecord}
use Rattle.kept_records.specs.Faults.{◌>>=◌, when_or}
use Rattle.kept_records.specs.Rules.{rule_codec, same_rule, can_stand, IsKeptRule, version_by, rule_at}
use Rattle.kept_records.specs.Journals.{version_of, HasKeptRule, HasRuleOf}
use Rattle.kept_records.proofs.Chains.{some_or_then, when_or_then, when_or_ok}

pub rule_is : IsCodec rule_codec
unfolding rule_codec
rule_is = of_parts_is _ (λ (r : RetryRule). (r.again, (r.tries, r.nodes))) (both_is u32_is (both_is u32_is (counted_is u16_is u16_is))) (λ r. refl) (λ p. refl)

-- ---- which rules

pub rule_same : (r s : RetryRule) → same_rule r s ≡ true → r ≡ s
rule_same r s h =
    let p = and_parts (r.again == s.again) ((r.tries == s.tries) && bytes_eq r.nodes s.nodes) h in
    let q = and_parts (r.tries == s.tries) (bytes_eq r.nodes s.nodes) p.1 in
    let a : r.again ≡ s.again = nat_same r.again s.again p.0 in
    let t : r.tries ≡ s.tries = nat_same r.tries s.tries q.0 in
    let n : r.nodes ≡ s.nodes = bytes_same r.nodes s.nodes q.1 in
    λ i. record { nodes = n i; again = a i; tries = t i }

pub rule_self : (r : RetryRule) → same_rule r r ≡ true
rule_self r = and_from (r.again == r.again) ((r.tries == r.tries) && bytes_eq r.nodes r.nodes) (nat_self r.again) (and_from (r.tries == r.tries) (bytes_eq r.nodes r.nodes) (nat_self r.tries) (bytes_self r.nodes))

rounds_stand : (n : ℕ) → 0 < n → n ≤ 1000 → is_rounds n ≡ true
rounds_stand n some few = and_from (nat_lt 0 n) (nat_le n 1000) (some_test n some) (le-leb n 1000 few)
  where
    some_test : (n : ℕ) → 0 < n → nat_lt 0 n ≡ true
    some_test n h = grind (arith, nat_tests)

are_rounds : (n : ℕ) → is_rounds n ≡ true → (0 < n) × (n ≤ 1000)
are_rounds n h =
    let p = and_parts (nat_lt 0 n) (nat_le n 1000) h in
    (some_one n p.0, leb-true n 1000 p.1)
  where
    some_one : (n : ℕ) → nat_lt 0 n ≡ true → 0 < n
    some_one zero h = cc
    some_one (suc n) h = omega arith

some_nodes : (n : ℕ) → 0 < n → not (n == 0) ≡ true
some_nodes n h = grind (arith, nat_tests)

are_some : (n : ℕ) → not (n == 0) ≡ true → 0 < n
are_some zero h = cc
are_some (suc n) h = omega arith

pub kept_stands : (r : RetryRule) → IsKeptRule r → can_stand r ≡ true
kept_stands r is =
    and_from (is_rounds r.again) (is_rounds r.tries && (not (length r.nodes == 0) && nat_le (length r.nodes) most_nodes)) (rounds_stand r.again is.rounds.some_ticks is.rounds.ticks_in_limit)
    (and_from (is_rounds r.tries) (not (length r.nodes == 0) && nat_le (length r.nodes) most_nodes) (rounds_stand r.tries is.rounds.some_try is.rounds.tries_in_limit)
    (and_from (not (length r.nodes == 0)) (nat_le (length r.nodes) most_nodes) (some_nodes (length r.nodes) is.some_node) (le-leb (length r.nodes) most_nodes is.few)))

pub standing_is : (r : RetryRule) → can_stand r ≡ true → AllByRecursion (λ node. node < 2 ^ 16) r.nodes → IsKeptRule r
standing_is r h fits =
    let a = and_parts (is_rounds r.again) (is_rounds r.tries && (not (length r.nodes == 0) && nat_le (length r.nodes) most_nodes)) h in
    let b = and_parts (is_rounds r.tries) (not (length r.nodes == 0) && nat_le (length r.nodes) most_nodes) a.1 in
    let c = and_parts (not (length r.nodes == 0)) (nat_le (length r.nodes) most_nodes) b.1 in
    let again = are_rounds r.again a.0 in
    let tries = are_rounds r.tries b.0 in
    record {
      rounds = record { some_ticks = again.0; ticks_in_limit = again.1; some_try = tries.0; tries_in_limit = tries.1 };
      some_node = are_some (length r.nodes) c.0;
      few = leb-true (length r.nodes) most_nodes c.1;
      fits = fits;
    }

pub kept_fits : (r : RetryRule) → IsKeptRule r → rule_codec.Fits r
unfolding rule_codec
kept_fits r is = (omega (arith, is.rounds.ticks_in_limit), (omega (arith, is.rounds.tries_in_limit), (omega (arith, is.few), is.fits)))

-- ---- which version

pub version_plain : (s : PharmacySettings) (r : RetryRule) → r ≡ opening_rule s → version_by s r ≡ 2
version_plain s r is = ap (λ (b : Bool). cond b 2 3) (ap (λ x. same_rule x (opening_rule s)) is ∙ rule_self (opening_rule s))

pub version_other : (s : PharmacySettings) (r : RetryRule) → same_rule r (opening_rule s) ≡ false → version_by s r ≡ 3
version_other s r is = ap (λ (b : Bool). cond b 2 3) is

-- a rule is that of the settings, in version 2, or another, in version 3
pub which : (s : PharmacySettings) (r : RetryRule) → ((r ≡ opening_rule s) × (version_by s r ≡ 2)) ⊎ ((same_rule r (opening_rule s) ≡ false) × (version_by s r ≡ 3))
which s r = by_test (same_rule r (opening_rule s)) refl
  where
    by_test : (b : Bool) → same_rule r (opening_rule s) ≡ b → ((r ≡ opening_rule s) × (version_by s r ≡ 2)) ⊎ ((same_rule r (opening_rule s) ≡ false) × (version_by s r ≡ 3))
    by_test true e = let is = rule_same r (opening_rule s) e in inl (is, version_plain s r is)
    by_test false e = inr (e, version_other s r e)

-- ---- as it is read

pub rule_at-put : (s : PharmacySettings) (r : RetryRule) (rest : List ℕ) → IsKeptRule r → same_rule r (opening_rule s) ≡ false → rule_at s (rule_codec.text r ++ rest) ≡ Ok (r, rest)
unfolding rule_at
rule_at-put s r rest is other = rw (rule_is.back r rest (kept_fits r is), kept_stands r is, other) refl

-- the rule that stands at the front
pub record IsRuleThere (s : PharmacySettings) (bytes : List ℕ) (r : RetryRule) (rest : List ℕ) : Type 0 where
  pub taken : IsTaken bytes (rule_codec.text r) rest
  pub kept : IsKeptRule r
  pub other : same_rule r (opening_rule s) ≡ false

not_true : (b : Bool) → not b ≡ true → b ≡ false
not_true true h = cc
not_true false h = refl

pub rule_at_taken : (s : PharmacySettings) (bytes : List ℕ) (r : RetryRule) (rest : List ℕ) → AreBytes bytes → rule_at s bytes ≡ Ok (r, rest) → IsRuleThere s bytes r rest
unfolding rule_at rule_codec
rule_at_taken s bytes r rest are h =
    let a = some_or_then (BadRecord 9) (rule_codec.at bytes) (λ rule. when_or (BadRecord 9) (can_stand rule.0) rule >>= λ standing. when_or (BadRecord 9) (not (same_rule standing.0 (opening_rule s))) standing) (r, rest) h in
    let p : RetryRule × List ℕ = a.0 in
    let b = when_or_then (BadRecord 9) (can_stand p.0) p (λ standing. when_or (BadRecord 9) (not (same_rule standing.0 (opening_rule s))) standing) (r, rest) a.2 in
    let c = when_or_ok (BadRecord 9) (not (same_rule p.0 (opening_rule s))) p (r, rest) b.1 in
    let is = rule_is.only bytes p.0 p.1 are a.1 in
    subst (λ (x : RetryRule × List ℕ). IsRuleThere s bytes x.0 x.1) c.1
    (record { taken = is.0; kept = standing_is p.0 b.0 is.1.1.1.1; other = not_true (same_rule p.0 (opening_rule s)) c.0 })

-- ---- what is written

-- a journal whose rule a text has where it must
pub has_kept : (j : JournalAtRest) → HasRuleOf (version_of j) j → HasKeptRule j
has_kept j has = elim (which j.settings j.rule) [
  | inl own ↦ inl own.0
  | inr other ↦ inr (has other.1)
]
