-- A call on one node, as an event of the world.
use Rattle.std.proofs.Common.{◌≡◌, ℕ, List, Option, Some, None, ap, ◌∙◌}
use Rattle.claim_model.specs.Context.{Context}
use Rattle.claim_model.specs.declared.refusal.Refusal.{Refusal}
use Rattle.claim_model.specs.declared.refusal.Refusal.TheVariants.{NoSuchNode}
use Rattle.claim_model.specs.Numbered.{numbered, renumbered}
use Rattle.claim_model.specs.Rows.{Book}
use Rattle.claim_model.specs.Journal.{Journal, JournalAtRest}
use Rattle.claim_model.specs.Table.{Table}
use Rattle.claim_model.specs.Node.{Pharmacy, Switch, Payer, Power, Sent, Call, Outcome, Done, Refused, pharmacy_step, switch_step, payer_step}
use Rattle.claim_model.specs.World.{World, posted, pharmacy_stepped, on_pharmacy, switch_stepped, on_switch, payer_stepped, on_payer, on_node}
use Rattle.claim_model.specs.Refused.{RefusedAs}
use Rattle.world_core.specs.Calling.{list_after, called_at, called}

pharmacy_stepped_done : (w : World) (n : ℕ) (o : Outcome (Power Journal JournalAtRest)) (next : List (Power Journal JournalAtRest)) (sent : List Sent) → list_after w.pharmacies n o ≡ Done next sent
    → pharmacy_stepped w n o ≡ Done (record { pharmacies = next; switches = w.switches; payers = w.payers; packets = posted w.packets (Pharmacy n) sent }) sent
pharmacy_stepped_done w n (Refused why) next sent e = absurd cc
pharmacy_stepped_done w n (Done after out) next sent e =
    let f : renumbered w.pharmacies n after ≡ next = cc in
    let g : out ≡ sent = cc in
    ap (λ (xs : List (Power Journal JournalAtRest)). Done (record { pharmacies = xs; switches = w.switches; payers = w.payers; packets = posted w.packets (Pharmacy n) out }) out) f ∙ ap (λ (s : List Sent). Done (record { pharmacies = next; switches = w.switches; payers = w.payers; packets = posted w.packets (Pharmacy n) s }) s) g

pharmacy_asked : (ctx : Context) (w : World) (n : ℕ) (call : Call) (o : Option (Power Journal JournalAtRest)) (next : List (Power Journal JournalAtRest)) (sent : List Sent) → called_at (λ node. pharmacy_step ctx node call) w.pharmacies n o ≡ Done next sent
    → on_pharmacy ctx w n call o ≡ Done (record { pharmacies = next; switches = w.switches; payers = w.payers; packets = posted w.packets (Pharmacy n) sent }) sent
pharmacy_asked ctx w n call None next sent e = absurd cc
pharmacy_asked ctx w n call (Some node) next sent e = pharmacy_stepped_done w n (pharmacy_step ctx node call) next sent e

-- what the pharmacy of a number made of a call is what the world made of it
pub pharmacy_done : (ctx : Context) (w : World) (n : ℕ) (call : Call) (next : List (Power Journal JournalAtRest)) (sent : List Sent) → called (λ node. pharmacy_step ctx node call) w.pharmacies n ≡ Done next sent
    → on_node ctx w (Pharmacy n) call ≡ Done (record { pharmacies = next; switches = w.switches; payers = w.payers; packets = posted w.packets (Pharmacy n) sent }) sent
unfolding called
pharmacy_done ctx w n call next sent e = pharmacy_asked ctx w n call (numbered w.pharmacies n) next sent e

pharmacy_stepped_refused : (w : World) (n : ℕ) (o : Outcome (Power Journal JournalAtRest)) (why : Refusal) → list_after w.pharmacies n o ≡ Refused why → pharmacy_stepped w n o ≡ Refused why
pharmacy_stepped_refused w n (Refused other) why e = let f : other ≡ why = cc in ap Refused f
pharmacy_stepped_refused w n (Done next sent) why e = absurd cc

pharmacy_asked_refused : (ctx : Context) (w : World) (n : ℕ) (call : Call) (o : Option (Power Journal JournalAtRest)) (why : Refusal) → called_at (λ node. pharmacy_step ctx node call) w.pharmacies n o ≡ Refused why → on_pharmacy ctx w n call o ≡ Refused why
pharmacy_asked_refused ctx w n call None why e = let f : NoSuchNode ≡ why = cc in ap Refused f
pharmacy_asked_refused ctx w n call (Some node) why e = pharmacy_stepped_refused w n (pharmacy_step ctx node call) why e

pub pharmacy_refused : (ctx : Context) (w : World) (n : ℕ) (call : Call) (why : Option Refusal) → RefusedAs why (called (λ node. pharmacy_step ctx node call) w.pharmacies n) → RefusedAs why (on_node ctx w (Pharmacy n) call)
unfolding called
pharmacy_refused ctx w n call None h = tt
pharmacy_refused ctx w n call (Some why) h = pharmacy_asked_refused ctx w n call (numbered w.pharmacies n) why h

switch_stepped_done : (w : World) (n : ℕ) (o : Outcome (Power Table ℕ)) (next : List (Power Table ℕ)) (sent : List Sent) → list_after w.switches n o ≡ Done next sent
    → switch_stepped w n o ≡ Done (record { pharmacies = w.pharmacies; switches = next; payers = w.payers; packets = posted w.packets (Switch n) sent }) sent
switch_stepped_done w n (Refused why) next sent e = absurd cc
switch_stepped_done w n (Done after out) next sent e =
    let f : renumbered w.switches n after ≡ next = cc in
    let g : out ≡ sent = cc in
    ap (λ (xs : List (Power Table ℕ)). Done (record { pharmacies = w.pharmacies; switches = xs; payers = w.payers; packets = posted w.packets (Switch n) out }) out) f ∙ ap (λ (s : List Sent). Done (record { pharmacies = w.pharmacies; switches = next; payers = w.payers; packets = posted w.packets (Switch n) s }) s) g

switch_asked : (ctx : Context) (w : World) (n : ℕ) (call : Call) (o : Option (Power Table ℕ)) (next : List (Power Table ℕ)) (sent : List Sent) → called_at (λ node. switch_step ctx node call) w.switches n o ≡ Done next sent
    → on_switch ctx w n call o ≡ Done (record { pharmacies = w.pharmacies; switches = next; payers = w.payers; packets = posted w.packets (Switch n) sent }) sent
switch_asked ctx w n call None next sent e = absurd cc
switch_asked ctx w n call (Some node) next sent e = switch_stepped_done w n (switch_step ctx node call) next sent e

-- what the switch of a number made of a call is what the world made of it
pub switch_done : (ctx : Context) (w : World) (n : ℕ) (call : Call) (next : List (Power Table ℕ)) (sent : List Sent) → called (λ node. switch_step ctx node call) w.switches n ≡ Done next sent
    → on_node ctx w (Switch n) call ≡ Done (record { pharmacies = w.pharmacies; switches = next; payers = w.payers; packets = posted w.packets (Switch n) sent }) sent
unfolding called
switch_done ctx w n call next sent e = switch_asked ctx w n call (numbered w.switches n) next sent e

switch_stepped_refused : (w : World) (n : ℕ) (o : Outcome (Power Table ℕ)) (why : Refusal) → list_after w.switches n o ≡ Refused why → switch_stepped w n o ≡ Refused why
switch_stepped_refused w n (Refused other) why e = let f : other ≡ why = cc in ap Refused f
switch_stepped_refused w n (Done next sent) why e = absurd cc

switch_asked_refused : (ctx : Context) (w : World) (n : ℕ) (call : Call) (o : Option (Power Table ℕ)) (why : Refusal) → called_at (λ node. switch_step ctx node call) w.switches n o ≡ Refused why → on_switch ctx w n call o ≡ Refused why
switch_asked_refused ctx w n call None why e = let f : NoSuchNode ≡ why = cc in ap Refused f
switch_asked_refused ctx w n call (Some node) why e = switch_stepped_refused w n (switch_step ctx node call) why e

pub switch_refused : (ctx : Context) (w : World) (n : ℕ) (call : Call) (why : Option Refusal) → RefusedAs why (called (λ node. switch_step ctx node call) w.switches n) → RefusedAs why (on_node ctx w (Switch n) call)
unfolding called
switch_refused ctx w n call None h = tt
switch_refused ctx w n call (Some why) h = switch_asked_refused ctx w n call (numbered w.switches n) why h

payer_stepped_done : (w : World) (n : ℕ) (o : Outcome (Power Book Book)) (next : List (Power Book Book)) (sent : List Sent) → list_after w.payers n o ≡ Done next sent
    → payer_stepped w n o ≡ Done (record { pharmacies = w.pharmacies; switches = w.switches; payers = next; packets = posted w.packets (Payer n) sent }) sent
payer_stepped_done w n (Refused why) next sent e = absurd cc
payer_stepped_done w n (Done after out) next sent e =
    let f : renumbered w.payers n after ≡ next = cc in
    let g : out ≡ sent = cc in
    ap (λ (xs : List (Power Book Book)). Done (record { pharmacies = w.pharmacies; switches = w.switches; payers = xs; packets = posted w.packets (Payer n) out }) out) f ∙ ap (λ (s : List Sent). Done (record { pharmacies = w.pharmacies; switches = w.switches; payers = next; packets = posted w.packets (Payer n) s }) s) g

payer_asked : (ctx : Context) (w : World) (n : ℕ) (call : Call) (o : Option (Power Book Book)) (next : List (Power Book Book)) (sent : List Sent) → called_at (λ node. payer_step ctx node call) w.payers n o ≡ Done next sent
    → on_payer ctx w n call o ≡ Done (record { pharmacies = w.pharmacies; switches = w.switches; payers = next; packets = posted w.packets (Payer n) sent }) sent
payer_asked ctx w n call None next sent e = absurd cc
payer_asked ctx w n call (Some node) next sent e = payer_stepped_done w n (payer_step ctx node call) next sent e

-- what the payer of a number made of a call is what the world made of it
pub payer_done : (ctx : Context) (w : World) (n : ℕ) (call : Call) (next : List (Power Book Book)) (sent : List Sent) → called (λ node. payer_step ctx node call) w.payers n ≡ Done next sent
    → on_node ctx w (Payer n) call ≡ Done (record { pharmacies = w.pharmacies; switches = w.switches; payers = next; packets = posted w.packets (Payer n) sent }) sent
unfolding called
payer_done ctx w n call next sent e = payer_asked ctx w n call (numbered w.payers n) next sent e

payer_stepped_refused : (w : World) (n : ℕ) (o : Outcome (Power Book Book)) (why : Refusal) → list_after w.payers n o ≡ Refused why → payer_stepped w n o ≡ Refused why
payer_stepped_refused w n (Refused other) why e = let f : other ≡ why = cc in ap Refused f
payer_stepped_refused w n (Done next sent) why e = absurd cc

payer_asked_refused : (ctx : Context) (w : World) (n : ℕ) (call : Call) (o : Option (Power Book Book)) (why : Refusal) → called_at (λ node. payer_step ctx node call) w.payers n o ≡ Refused why → on_payer ctx w n call o ≡ Refused why
payer_asked_refused ctx w n call None why e = let f : NoSuchNode ≡ why = cc in ap Refused f
payer_asked_refused ctx w n call (Some node) why e = payer_stepped_refused w n (payer_step ctx node call) why e

pub payer_refused : (ctx : Context) (w : World) (n : ℕ) (call : Call) (why : Option Refusal) → RefusedAs why (called (λ node. payer_step ctx node call) w.payers n) → RefusedAs why (on_node ctx w (Payer n) call)
unfolding called
payer_refused ctx w n call None h = tt
payer_refused ctx w n call (Some why) h = payer_asked_refused ctx w n call (numbered w.payers n) why h
