-- The test of what a pharmacy takes, and the fact that its constructor speaks of.
use Rattle.std.proofs.Common.{◌≡◌, ◌≤◌, length, true, inl, inr, Some, None, refl, arith}
use Rattle.std.proofs.lemmas.Bool.{and_parts, leb-true, le-leb, cases_Bool}
use Rattle.claim_model.specs.Journal.{PharmacySettings}
use Rattle.claim_model.specs.Limits.{most_entries}
use Rattle.pharmacy_journal.specs.Settings.{AreSettings}
use Rattle.world_settings.specs.Pharmacies.{is_taken, taken}

pub passes : (s : PharmacySettings) → AreSettings s → length s.nodes ≤ 4294967295 → is_taken s ≡ true
unfolding is_taken
passes s are few =
    let again : 1 ≤ s.again = omega (arith, are.some_ticks) in
    let tries : 1 ≤ s.tries = omega (arith, are.some_try) in
    let cap : 1 ≤ s.cap = omega (arith, are.some_entry) in
    rw (
      le-leb 1 s.again again,
      le-leb s.again 1000 are.ticks_in_limit,
      le-leb 1 s.tries tries,
      le-leb s.tries 1000 are.tries_in_limit,
      le-leb 1 s.cap cap,
      le-leb s.cap most_entries are.entries_in_limit,
      are.plain_qualifier,
      are.plain_provider,
      le-leb (length s.nodes) 4294967295 few,
    ) refl

pub are : (s : PharmacySettings) → is_taken s ≡ true → AreSettings s
unfolding is_taken
are s passed =
    let (front, few) = and_parts _ _ passed in
    let (limits, plain) = and_parts _ _ front in
    let (rule, caps) = and_parts _ _ limits in
    let (agains, triess) = and_parts _ _ rule in
    let (again, again_most) = and_parts _ _ agains in
    let (tries, tries_most) = and_parts _ _ triess in
    let (cap, cap_most) = and_parts _ _ caps in
    let (qualifier, provider) = and_parts _ _ plain in
    let some_again = leb-true 1 s.again again in
    let some_tries = leb-true 1 s.tries tries in
    let some_cap = leb-true 1 s.cap cap in
    record {
      some_ticks = omega (arith, some_again);
      ticks_in_limit = leb-true s.again 1000 again_most;
      some_try = omega (arith, some_tries);
      tries_in_limit = leb-true s.tries 1000 tries_most;
      some_entry = omega (arith, some_cap);
      entries_in_limit = leb-true s.cap most_entries cap_most;
      plain_qualifier = qualifier;
      plain_provider = provider;
    }

pub few_nodes : (s : PharmacySettings) → is_taken s ≡ true → length s.nodes ≤ 4294967295
unfolding is_taken
few_nodes s passed = leb-true (length s.nodes) 4294967295 (and_parts _ _ passed).1

pub is_some : (s : PharmacySettings) → AreSettings s → length s.nodes ≤ 4294967295 → Some s ≡ taken s
is_some s are few = rw (passes s are few) refl

pub is_none : (s : PharmacySettings) → (is_taken s ≡ true → ⊥) → None ≡ taken s
is_none s refused =
    elim (cases_Bool (is_taken s)) [
      | inl passed ↦ absurd (refused passed)
      | inr failed ↦ rw failed refl
    ]
