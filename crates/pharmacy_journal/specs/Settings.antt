-- Which settings a pharmacy takes.
use Rattle.std.specs.Prelude.{ℕ, ◌<◌, ◌≤◌, List, length, IsTrue}
use Rattle.std.specs.List.{list_all}
use Rattle.d0_header.specs.Field.{is_plain}
use Rattle.claim_model.specs.Journal.{PharmacySettings, RetryRule}
use Rattle.claim_model.specs.Limits.{Limits, stated, most_entries}
use Rattle.pharmacy_journal.specs.Retry.{Rule}

-- settings of these
abbrev pub settings_of : List ℕ → List ℕ → List ℕ → ℕ → ℕ → ℕ → PharmacySettings
settings_of qualifier provider nodes again tries cap =
    record { qualifier = qualifier; provider = provider; nodes = nodes; again = again; tries = tries; cap = cap }

-- waits of 1 to 1,000 ticks, 1 to 1,000 tries, at most this many entries and one at least, and an identity without separators
pub record AreWithin (most : ℕ) (s : PharmacySettings) : Type 0 where
  pub some_ticks : 0 < s.again
  pub ticks_in_limit : s.again ≤ 1000
  pub some_try : 0 < s.tries
  pub tries_in_limit : s.tries ≤ 1000
  pub some_entry : 0 < s.cap
  pub entries_in_limit : s.cap ≤ most
  pub plain_qualifier : IsTrue (list_all is_plain s.qualifier)
  pub plain_provider : IsTrue (list_all is_plain s.provider)

-- the same of 1 to 16,777,216 entries
abbrev pub AreSettings : PharmacySettings → Type 0
AreSettings s = AreWithin most_entries s

-- the same of 1 to 65,536 entries, the stated limit
abbrev pub AreStated : PharmacySettings → Type 0
AreStated s = AreWithin stated.entries s

-- a rule of these
abbrev pub rule_made : List ℕ → ℕ → ℕ → RetryRule
rule_made nodes again tries = record { nodes = nodes; again = again; tries = tries }

-- 1 to 1,000 ticks, and as many tries
pub record AreRounds (again tries : ℕ) : Type 0 where
  pub some_ticks : 0 < again
  pub ticks_in_limit : again ≤ 1000
  pub some_try : 0 < tries
  pub tries_in_limit : tries ≤ 1000

-- what a rule of retries keeps: waits of 1 to 1,000 ticks, 1 to 1,000 tries, and as many switches as the circle of phases has room for
pub record IsGoing (r : RetryRule) : Type 0 where
  pub some_ticks : 0 < r.again
  pub ticks_in_limit : r.again ≤ 1000
  pub some_try : 0 < r.tries
  pub tries_in_limit : r.tries ≤ 1000
  pub nodes : length r.nodes ≤ 4294967295

-- the widths of an identity, and as many nodes as the circle of phases has room for
pub record AreSized (s : PharmacySettings) : Type 0 where
  pub qualifier : length s.qualifier ≤ 2
  pub provider : length s.provider ≤ 15
  pub nodes : length s.nodes ≤ 4294967295

-- what holds of the settings of every pharmacy
abbrev pub AreKept : PharmacySettings → Type 0
AreKept s = AreSettings s × AreSized s

-- the circle's rule of a rule of retries
abbrev pub rule_of : RetryRule → Rule
rule_of r = record { again = r.again; tries = r.tries; nodes = length r.nodes }
