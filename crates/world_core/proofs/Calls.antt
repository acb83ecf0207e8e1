-- A call on one node of a list, by the node's place.
use Rattle.std.proofs.Common.{◌≡◌, ℕ, zero, suc, ◌<◌, ◌≤◌, ◌⊎◌, inl, inr, List, [], ◌∷◌, length, Option, Some, None, slice_get, slice_set, get_or, refl, sym, ap, ◌∙◌, subst, arith}
use Rattle.claim_model.specs.declared.refusal.Refusal.{Refusal}
use Rattle.claim_model.specs.declared.refusal.Refusal.TheVariants.{NoSuchNode, Unreadable}
use Rattle.claim_model.specs.Numbered.{numbered}
use Rattle.claim_model.specs.Node.{Sent, Call, Submit, Tick, Take, Stop, Start, Revise, Adjudicate, Outcome, Done, Refused}
use Rattle.claim_model.specs.Refused.{RefusedAs}
use Rattle.node_state.specs.Taking.{IsReadable}
use Rattle.world_core.specs.Calling.{list_after, called_at, called}
use Rattle.world_core.specs.Room.{most_of}

pub numbered_at : {A : Type 0} (xs : List A) (n k : ℕ) (a : A) → n ≡ suc k → slice_get xs k ≡ Some a → numbered xs n ≡ Some a
numbered_at xs n k a e h = subst (λ (m : ℕ). numbered xs m ≡ Some a) (sym e) h

get_past : {A : Type 0} (xs : List A) (k : ℕ) → length xs < suc k → slice_get xs k ≡ None
get_past [] k h = refl
get_past (x ∷ xs) zero h = absurd (omega arith)
get_past (x ∷ xs) (suc k) h = get_past xs k (omega arith)

pub numbered_past : {A : Type 0} (xs : List A) (n : ℕ) → (n ≡ 0) ⊎ (length xs < n) → numbered xs n ≡ None
numbered_past xs zero h = refl
numbered_past xs (suc k) (inl e) = absurd (omega arith)
numbered_past xs (suc k) (inr h) = get_past xs k h

pub called_done : {A : Type 0} (call : A → Outcome A) (nodes : List A) (n k : ℕ) (node next : A) (sent : List Sent) → n ≡ suc k → slice_get nodes k ≡ Some node → call node ≡ Done next sent → called call nodes n ≡ Done (slice_set nodes k next) sent
unfolding called
called_done call nodes zero k node next sent e h d = absurd (omega arith)
called_done call nodes (suc m) k node next sent e h d =
    let f : m ≡ k = omega arith in
    let g : slice_get nodes m ≡ Some node = subst (λ (x : ℕ). slice_get nodes x ≡ Some node) (sym f) h in
    ap (called_at call nodes (suc m)) g ∙ (ap (list_after nodes (suc m)) d ∙ ap (λ (x : ℕ). Done (slice_set nodes x next) sent) f)

pub called_refused : {A : Type 0} (call : A → Outcome A) (nodes : List A) (n k : ℕ) (node : A) (why : Option Refusal) → n ≡ suc k → slice_get nodes k ≡ Some node → RefusedAs why (call node) → RefusedAs why (called call nodes n)
unfolding called
called_refused call nodes n k node None e h d = tt
called_refused call nodes n k node (Some why) e h d = ap (called_at call nodes n) (numbered_at nodes n k node e h) ∙ ap (list_after nodes n) d

pub called_nobody : {A : Type 0} (call : A → Outcome A) (nodes : List A) (n : ℕ) → (n ≡ 0) ⊎ (length nodes < n) → called call nodes n ≡ Refused NoSuchNode
unfolding called
called_nobody call nodes n h = ap (called_at call nodes n) (numbered_past nodes n h)

-- the element that an index reads
pub node_at : {A : Type 0} (xs : List A) (k : ℕ) (a d : A) → k < length xs → a ≡ get_or xs k d → slice_get xs k ≡ Some a
node_at [] k a d h e = absurd (omega arith)
node_at (x ∷ xs) zero a d h e = ap Some (sym e)
node_at (x ∷ xs) (suc k) a d h e = node_at xs k a d (omega arith) e

-- what is at most sent by the node of a number
pub most_at : {A : Type 0} (most : A → ℕ) (nodes : List A) (n k : ℕ) (node : A) (m : ℕ) → n ≡ suc k → slice_get nodes k ≡ Some node → m ≤ most node → m ≤ most_of most (numbered nodes n)
most_at most nodes n k node m e h l = rw (numbered_at nodes n k node e h) l

-- the node of a number takes a packet that is readable to it
pub called_readable : {A : Type 0} (step : A → Outcome A) (nodes : List A) (n k : ℕ) (node : A) (call : Call) → n ≡ suc k → slice_get nodes k ≡ Some node → IsReadable call (called step nodes n) → IsReadable call (step node)
called_readable step nodes n k node (Submit text) e there h = tt
called_readable step nodes n k node Tick e there h = tt
called_readable step nodes n k node (Take from bytes) e there h = λ unreadable. h (called_refused step nodes n k node (Some Unreadable) e there unreadable)
called_readable step nodes n k node Stop e there h = tt
called_readable step nodes n k node Start e there h = tt
called_readable step nodes n k node (Revise change) e there h = tt
called_readable step nodes n k node (Adjudicate from bytes advice) e there h = tt
