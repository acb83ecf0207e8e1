-- What goes through an inbox, and that nothing is lost or made up on the way.
use Rattle.std.specs.Prelude.{◌≡◌, ℕ, List, [], ◌∷◌, ◌++◌, flat_map, slice_set, IsPermutation}
use mathlib.Core.Option.{some}
use lib.ListN.{get_elem?}
use Rattle.node_threads.specs.declared.inbox.mail.Mail.{Mail}
use Rattle.node_threads.specs.declared.inbox.traffic.Traffic.{Traffic}

-- what a pass has put and what it has taken, each in order
abbrev pub traffic : List Mail → List Mail → Traffic
traffic put taken = record { put = put; taken = taken }

-- what all passes have put, one pass after another
abbrev pub all_put : List Traffic → List Mail
all_put passes = flat_map (λ v. v.put) passes

-- what all passes have taken, one pass after another
abbrev pub all_taken : List Traffic → List Mail
all_taken passes = flat_map (λ v. v.taken) passes

-- what all passes have put is what they have taken and what is in the queue, each as often
abbrev pub Conserved : List Mail → List Traffic → Type 0
Conserved queue passes = IsPermutation (all_put passes) (all_taken passes ++ queue)

-- One moment of an inbox, at which nothing is lost or made up: what is in the queue, oldest first, what each pass that was ever made
-- has put and taken, passes given back included, and which of them is meant
pub record Moment (own : Traffic) : Type 0 where
  pub queue : List Mail
  pub passes : List Traffic
  pub seat : ℕ
  pub here : get_elem? passes seat ≡ some own
  pub conserved : Conserved queue passes

-- mail went in at the back of the queue by a pass, and of the inbox nothing else changed
unfoldable pub Added : Traffic → Mail → Traffic → Type 0
Added before mail after =
    (after ≡ traffic (before.put ++ mail ∷ []) before.taken)
    × ((at : Moment before) × Conserved (at.queue ++ mail ∷ []) (slice_set at.passes at.seat after))

-- mail went out at the front of the queue by a pass, and of the inbox nothing else changed
unfoldable pub Removed : Traffic → Mail → Traffic → Type 0
Removed before mail after =
    (after ≡ traffic before.put (before.taken ++ mail ∷ []))
    × ((at : Moment before) × (rest : List Mail) × (at.queue ≡ mail ∷ rest) × Conserved rest (slice_set at.passes at.seat after))
