-- How many nodes settings may have, and how much each may keep (own).
use Rattle.std.specs.Prelude.{ℕ, ◌≤◌, Bool, ◌&&◌, nat_le, Option, Some, None, if◌then◌else◌}

-- the most pharmacies, switches and payers; the most entries of a journal, slots of a table and rows of a book
pub record Limits : Type 0 where
  pub pharmacies : ℕ
  pub switches : ℕ
  pub payers : ℕ
  pub entries : ℕ

-- the widest: a pharmacy's number has two bytes in an envelope, and what a node keeps has its place in four
abbrev pub most_pharmacies : ℕ
most_pharmacies = 65535

abbrev pub most_switches : ℕ
most_switches = 4096

abbrev pub most_payers : ℕ
most_payers = 4096

abbrev pub most_entries : ℕ
most_entries = 16777216

-- what settings may have that state no limits
abbrev pub stated_entries : ℕ
stated_entries = 65536

abbrev pub stated : Limits
stated = record { pharmacies = 256; switches = 64; payers = 64; entries = stated_entries }

abbrev pub widest : Limits
widest = record { pharmacies = most_pharmacies; switches = most_switches; payers = most_payers; entries = most_entries }

-- no wider than the widest
pub record AreLimits (l : Limits) : Type 0 where
  pub pharmacies : l.pharmacies ≤ most_pharmacies
  pub switches : l.switches ≤ most_switches
  pub payers : l.payers ≤ most_payers
  pub entries : l.entries ≤ most_entries

-- the same, as a test
abbrev pub are_limits : Limits → Bool
are_limits l = nat_le l.pharmacies most_pharmacies && (nat_le l.switches most_switches && (nat_le l.payers most_payers && nat_le l.entries most_entries))

-- limits, where they are no wider than the widest
abbrev pub limits_of : Limits → Option Limits
limits_of l = if are_limits l then Some l else None
