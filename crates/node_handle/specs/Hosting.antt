-- A node in its host's hands: what it has to tell, and what the host has said to be on disk.
use Rattle.std.specs.Prelude.{◌≡◌, ◌⊎◌, ℕ, ◌&&◌, ◌==◌, nat_lt, Bool, true, false, cond, List, [], ◌∷◌, ◌++◌, length, drop, Err, Option, Some, None}
use Rattle.node_service.specs.Serving.{Serving, after_line, cleared}
use Rattle.node_handle.specs.declared.refusal.Refusal.TheVariants.{Unsynced}
use Rattle.node_handle.specs.Saying.{Said}
use Rattle.node_handle.specs.Waiting.{Waiting, all_lowered, told, untold}

-- the node that is served, of which the records are those that the host has not said to be on disk; whether it has said that what the node was
-- opened from is; what is to be written, call by call, each behind so many bytes of these records; and how many calls closed logs have, after which its
-- own goes on
pub record Hosting : Type 0 where
  pub closed : ℕ
  pub serving : Serving
  pub synced : Bool
  pub words : List Waiting

-- the same node, with these records that are not on disk
abbrev pub with_records : Serving → List ℕ → Serving
with_records s records = record { settings = s.settings; node = s.node; version = s.version; state = s.state; calls = s.calls; references = s.references; records = records; out = s.out }

-- the same, and what it has to write stands elsewhere
abbrev pub recording : Serving → List ℕ → Serving
recording s records = with_records (cleared s) records

-- a node that was just opened, after so many calls of closed logs: nothing is known to be on disk, and nothing is to be written
abbrev pub just_opened : ℕ → Serving → Hosting
just_opened closed s = record { closed = closed; serving = recording s s.records; synced = false; words = [] }

-- what a line adds to it: the records come behind those that are not on disk, and the words wait for both
abbrev pub line_added : Hosting → Serving → Hosting
line_added h made = record {
  closed = h.closed;
  serving = recording made (h.serving.records ++ made.records);
  synced = h.synced;
  words = h.words ++ record { mark = length (h.serving.records ++ made.records); text = made.out } ∷ [];
}

-- what a line makes of it
abbrev pub line_served : Hosting → List ℕ → Hosting
line_served h line = line_added h (after_line (cleared h.serving) line)

-- this many bytes of the records, the first, are on disk, and what stands in the file before them; so words wait for fewer
abbrev pub bytes_kept : ℕ → Hosting → Hosting
bytes_kept size h = record { closed = h.closed; serving = with_records h.serving (drop size h.serving.records); synced = true; words = all_lowered size h.words }

-- what may be written was used
abbrev pub words_cleared : Hosting → Hosting
words_cleared h = record { closed = h.closed; serving = h.serving; synced = h.synced; words = untold h.words }

-- all that the node can tell of is on disk, as its host has said
abbrev pub is_settled : Hosting → Bool
is_settled h = h.synced && (length h.serving.records == 0)

-- there is nothing for which words could wait, or some wait for nothing any more
abbrev pub may_write : Hosting → Bool
may_write h = cond h.synced (cond (length h.serving.records == 0) true (nat_lt 0 (length (told h.words)))) false

-- what a node tells by a call, and what stays the same where it tells nothing. Until all is on disk it says so, and tells nothing
abbrev pub Settled : Option Hosting → Type 0 → (Option Serving → Said → Type 0) → Said → Type 0
Settled None same tells said = tells None said
Settled (Some h) same tells said = ((is_settled h ≡ true) × tells (Some h.serving) said) ⊎ ((is_settled h ≡ false) × ((said ≡ Err Unsynced) × same))
