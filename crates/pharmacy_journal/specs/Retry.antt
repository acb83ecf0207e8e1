-- The rule of retries: one number on a circle for each open entry.
use Rattle.std.specs.Prelude.{ℕ, ◌+◌, ◌*◌, ◌/◌, ◌%◌, ◌<◌, ◌≤◌, Bool, false, ◌==◌, Option, Some, None}

-- after how many ticks an entry is sent again, how often to one switch before the next is tried, and how many switches there are
pub record Rule : Type 0 where
  pub again : ℕ
  pub tries : ℕ
  pub nodes : ℕ

-- the rule of these numbers
abbrev pub rule_with : ℕ → ℕ → ℕ → Rule
rule_with again tries nodes = record { again = again; tries = tries; nodes = nodes }

-- a rule in its limits
pub record IsRule (r : Rule) : Type 0 where
  pub some_ticks : 0 < r.again
  pub ticks_in_limit : r.again ≤ 1000
  pub some_try : 0 < r.tries
  pub tries_in_limit : r.tries ≤ 1000
  pub some_node : 0 < r.nodes
  pub nodes_in_limit : r.nodes ≤ 4294967295

-- how many phases there are
abbrev pub phases_of : Rule → ℕ
phases_of r = r.again * r.tries * r.nodes

-- the phase after a tick
abbrev pub next_phase : Rule → ℕ → ℕ
next_phase r phase = (phase + 1) % phases_of r

-- the switch of a phase, by its place in the list
abbrev pub node_of : Rule → ℕ → ℕ
node_of r phase = phase / (r.again * r.tries)

-- the entry is sent in this phase
abbrev pub is_due : Rule → Option ℕ → Bool
is_due r None = false
is_due r (Some phase) = (phase % r.again) == 0

-- a rule, and the ticks so far, counted round the circle
pub record Dial : Type 0 where
  pub rule : Rule
  pub clock : ℕ

-- the phase of an entry that is ahead of the clock by so much
abbrev pub phase_at : Dial → ℕ → ℕ
phase_at d lead = (d.clock + lead) % phases_of d.rule

abbrev pub turned : Dial → Dial
turned d = record { rule = d.rule; clock = next_phase d.rule d.clock }
