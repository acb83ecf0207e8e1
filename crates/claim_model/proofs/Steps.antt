-- One call: the node makes its own step, and no other node is touched.
use Rattle.std.proofs.Common.{◌≡◌, ℕ, List, Option, Some, None, refl, sym, ap, subst}
use Rattle.std.specs.Prelude.{option_map}
use Rattle.claim_model.specs.Context.{Context}
use Rattle.claim_model.specs.Refusal.{Refusal}
use Rattle.claim_model.specs.Numbered.{numbered}
use Rattle.claim_model.specs.Rows.{Book}
use Rattle.claim_model.specs.Journal.{Journal, JournalAtRest}
use Rattle.claim_model.specs.Table.{Table}
use Rattle.claim_model.specs.Node.{Node, Pharmacy, Switch, Payer, Power, Sent, Call, Outcome, Done, Refused, pharmacy_step, switch_step, payer_step}
use Rattle.claim_model.specs.World.{World, Packet, Event, Submission, Ticking, Delivery, Stopping, Starting, Revising, Adjudication, pharmacy_stepped, on_pharmacy, switch_stepped, on_switch, payer_stepped, on_payer, on_node, delivered, adjudicated, step}
use Rattle.claim_model.proofs.Lists.{numbered_put, numbered_put_other}
use Rattle.claim_model.proofs.Sound.{with_pharmacy, with_switch, with_payer}
use Rattle.claim_model.proofs.Runs.{pharmacy_done, switch_done, payer_done}
use Rattle.claim_model.specs.Nodes.{AnyNode, OfPharmacy, OfSwitch, OfPayer, as_node, node_at, called, taking, adjudicating, asked, asked_step}
use Rattle.claim_model.specs.Local.{Follows, IsLocal}

-- what a step of a node comes to, and of the world with it

pharmacy_accepts : (w : World) (n : ℕ) (o : Outcome (Power Journal JournalAtRest)) (after : AnyNode) (sent : List Sent) → as_node OfPharmacy o ≡ Done after sent → (v : World) × (pharmacy_stepped w n o ≡ Done v sent)
pharmacy_accepts w n (Refused why) after sent e = absurd cc
pharmacy_accepts w n (Done next out) after sent e = let f : out ≡ sent = cc in (with_pharmacy w n next out, ap (Done (with_pharmacy w n next out)) f)

pharmacy_refuses : (w : World) (n : ℕ) (o : Outcome (Power Journal JournalAtRest)) (why : Refusal) → as_node OfPharmacy o ≡ Refused why → pharmacy_stepped w n o ≡ Refused why
pharmacy_refuses w n (Refused fault) why e = let f : fault ≡ why = cc in ap Refused f
pharmacy_refuses w n (Done next out) why e = absurd cc

switch_accepts : (w : World) (n : ℕ) (o : Outcome (Power Table ℕ)) (after : AnyNode) (sent : List Sent) → as_node OfSwitch o ≡ Done after sent → (v : World) × (switch_stepped w n o ≡ Done v sent)
switch_accepts w n (Refused why) after sent e = absurd cc
switch_accepts w n (Done next out) after sent e = let f : out ≡ sent = cc in (with_switch w n next out, ap (Done (with_switch w n next out)) f)

switch_refuses : (w : World) (n : ℕ) (o : Outcome (Power Table ℕ)) (why : Refusal) → as_node OfSwitch o ≡ Refused why → switch_stepped w n o ≡ Refused why
switch_refuses w n (Refused fault) why e = let f : fault ≡ why = cc in ap Refused f
switch_refuses w n (Done next out) why e = absurd cc

payer_accepts : (w : World) (n : ℕ) (o : Outcome (Power Book Book)) (after : AnyNode) (sent : List Sent) → as_node OfPayer o ≡ Done after sent → (v : World) × (payer_stepped w n o ≡ Done v sent)
payer_accepts w n (Refused why) after sent e = absurd cc
payer_accepts w n (Done next out) after sent e = let f : out ≡ sent = cc in (with_payer w n next out, ap (Done (with_payer w n next out)) f)

payer_refuses : (w : World) (n : ℕ) (o : Outcome (Power Book Book)) (why : Refusal) → as_node OfPayer o ≡ Refused why → payer_stepped w n o ≡ Refused why
payer_refuses w n (Refused fault) why e = let f : fault ≡ why = cc in ap Refused f
payer_refuses w n (Done next out) why e = absurd cc

-- the other nodes

pharmacy_others : (w : World) (n : ℕ) (next : Power Journal JournalAtRest) (sent : List Sent) (other : Node) → (other ≡ Pharmacy n → ⊥) → node_at (with_pharmacy w n next sent) other ≡ node_at w other
pharmacy_others w n next sent (Pharmacy m) d = ap (option_map OfPharmacy) (numbered_put_other w.pharmacies n m next (λ e. d (ap Pharmacy (sym e))))
pharmacy_others w n next sent (Switch m) d = refl
pharmacy_others w n next sent (Payer m) d = refl

switch_others : (w : World) (n : ℕ) (next : Power Table ℕ) (sent : List Sent) (other : Node) → (other ≡ Switch n → ⊥) → node_at (with_switch w n next sent) other ≡ node_at w other
switch_others w n next sent (Pharmacy m) d = refl
switch_others w n next sent (Switch m) d = ap (option_map OfSwitch) (numbered_put_other w.switches n m next (λ e. d (ap Switch (sym e))))
switch_others w n next sent (Payer m) d = refl

payer_others : (w : World) (n : ℕ) (next : Power Book Book) (sent : List Sent) (other : Node) → (other ≡ Payer n → ⊥) → node_at (with_payer w n next sent) other ≡ node_at w other
payer_others w n next sent (Pharmacy m) d = refl
payer_others w n next sent (Switch m) d = refl
payer_others w n next sent (Payer m) d = ap (option_map OfPayer) (numbered_put_other w.payers n m next (λ e. d (ap Payer (sym e))))

-- a call on each kind

pharmacy_follows : (ctx : Context) (w v : World) (n : ℕ) (call : Call) (sent : List Sent) (o : Option (Power Journal JournalAtRest)) → numbered w.pharmacies n ≡ o → on_pharmacy ctx w n call o ≡ Done v sent → Follows ctx w v (Pharmacy n) call sent
pharmacy_follows ctx w v n call sent None is e = absurd cc
pharmacy_follows ctx w v n call sent (Some s) is e =
    let d = pharmacy_done w n (pharmacy_step ctx s call) v sent e in
    subst (λ (u : World). Follows ctx w u (Pharmacy n) call sent) (sym d.2)
    (record {
      before = OfPharmacy s;
      after = OfPharmacy d.0;
      was = ap (option_map OfPharmacy) is;
      steps = ap (as_node OfPharmacy) d.1;
      is = ap (option_map OfPharmacy) (numbered_put w.pharmacies n s d.0 is);
      others = pharmacy_others w n d.0 sent;
      posts = refl;
    })

switch_follows : (ctx : Context) (w v : World) (n : ℕ) (call : Call) (sent : List Sent) (o : Option (Power Table ℕ)) → numbered w.switches n ≡ o → on_switch ctx w n call o ≡ Done v sent → Follows ctx w v (Switch n) call sent
switch_follows ctx w v n call sent None is e = absurd cc
switch_follows ctx w v n call sent (Some s) is e =
    let d = switch_done w n (switch_step ctx s call) v sent e in
    subst (λ (u : World). Follows ctx w u (Switch n) call sent) (sym d.2)
    (record {
      before = OfSwitch s;
      after = OfSwitch d.0;
      was = ap (option_map OfSwitch) is;
      steps = ap (as_node OfSwitch) d.1;
      is = ap (option_map OfSwitch) (numbered_put w.switches n s d.0 is);
      others = switch_others w n d.0 sent;
      posts = refl;
    })

payer_follows : (ctx : Context) (w v : World) (n : ℕ) (call : Call) (sent : List Sent) (o : Option (Power Book Book)) → numbered w.payers n ≡ o → on_payer ctx w n call o ≡ Done v sent → Follows ctx w v (Payer n) call sent
payer_follows ctx w v n call sent None is e = absurd cc
payer_follows ctx w v n call sent (Some s) is e =
    let d = payer_done w n (payer_step ctx s call) v sent e in
    subst (λ (u : World). Follows ctx w u (Payer n) call sent) (sym d.2)
    (record {
      before = OfPayer s;
      after = OfPayer d.0;
      was = ap (option_map OfPayer) is;
      steps = ap (as_node OfPayer) d.1;
      is = ap (option_map OfPayer) (numbered_put w.payers n s d.0 is);
      others = payer_others w n d.0 sent;
      posts = refl;
    })

pub follows : (ctx : Context) (w v : World) (node : Node) (call : Call) (sent : List Sent) → on_node ctx w node call ≡ Done v sent → Follows ctx w v node call sent
follows ctx w v (Pharmacy n) call sent e = pharmacy_follows ctx w v n call sent (numbered w.pharmacies n) refl e
follows ctx w v (Switch n) call sent e = switch_follows ctx w v n call sent (numbered w.switches n) refl e
follows ctx w v (Payer n) call sent e = payer_follows ctx w v n call sent (numbered w.payers n) refl e

pharmacy_takes_it : (ctx : Context) (w : World) (n : ℕ) (call : Call) (after : AnyNode) (sent : List Sent) (o : Option (Power Journal JournalAtRest)) → called ctx (option_map OfPharmacy o) call ≡ Done after sent → (v : World) × (on_pharmacy ctx w n call o ≡ Done v sent)
pharmacy_takes_it ctx w n call after sent None e = absurd cc
pharmacy_takes_it ctx w n call after sent (Some s) e = pharmacy_accepts w n (pharmacy_step ctx s call) after sent e

switch_takes_it : (ctx : Context) (w : World) (n : ℕ) (call : Call) (after : AnyNode) (sent : List Sent) (o : Option (Power Table ℕ)) → called ctx (option_map OfSwitch o) call ≡ Done after sent → (v : World) × (on_switch ctx w n call o ≡ Done v sent)
switch_takes_it ctx w n call after sent None e = absurd cc
switch_takes_it ctx w n call after sent (Some s) e = switch_accepts w n (switch_step ctx s call) after sent e

payer_takes_it : (ctx : Context) (w : World) (n : ℕ) (call : Call) (after : AnyNode) (sent : List Sent) (o : Option (Power Book Book)) → called ctx (option_map OfPayer o) call ≡ Done after sent → (v : World) × (on_payer ctx w n call o ≡ Done v sent)
payer_takes_it ctx w n call after sent None e = absurd cc
payer_takes_it ctx w n call after sent (Some s) e = payer_accepts w n (payer_step ctx s call) after sent e

pub accepted : (ctx : Context) (w : World) (node : Node) (call : Call) (after : AnyNode) (sent : List Sent) → called ctx (node_at w node) call ≡ Done after sent → (v : World) × (on_node ctx w node call ≡ Done v sent)
accepted ctx w (Pharmacy n) call after sent e = pharmacy_takes_it ctx w n call after sent (numbered w.pharmacies n) e
accepted ctx w (Switch n) call after sent e = switch_takes_it ctx w n call after sent (numbered w.switches n) e
accepted ctx w (Payer n) call after sent e = payer_takes_it ctx w n call after sent (numbered w.payers n) e

pharmacy_refuses_it : (ctx : Context) (w : World) (n : ℕ) (call : Call) (why : Refusal) (o : Option (Power Journal JournalAtRest)) → called ctx (option_map OfPharmacy o) call ≡ Refused why → on_pharmacy ctx w n call o ≡ Refused why
pharmacy_refuses_it ctx w n call why None e = let f : Rattle.claim_model.specs.Refusal.NoSuchNode ≡ why = cc in ap Refused f
pharmacy_refuses_it ctx w n call why (Some s) e = pharmacy_refuses w n (pharmacy_step ctx s call) why e

switch_refuses_it : (ctx : Context) (w : World) (n : ℕ) (call : Call) (why : Refusal) (o : Option (Power Table ℕ)) → called ctx (option_map OfSwitch o) call ≡ Refused why → on_switch ctx w n call o ≡ Refused why
switch_refuses_it ctx w n call why None e = let f : Rattle.claim_model.specs.Refusal.NoSuchNode ≡ why = cc in ap Refused f
switch_refuses_it ctx w n call why (Some s) e = switch_refuses w n (switch_step ctx s call) why e

payer_refuses_it : (ctx : Context) (w : World) (n : ℕ) (call : Call) (why : Refusal) (o : Option (Power Book Book)) → called ctx (option_map OfPayer o) call ≡ Refused why → on_payer ctx w n call o ≡ Refused why
payer_refuses_it ctx w n call why None e = let f : Rattle.claim_model.specs.Refusal.NoSuchNode ≡ why = cc in ap Refused f
payer_refuses_it ctx w n call why (Some s) e = payer_refuses w n (payer_step ctx s call) why e

pub refused : (ctx : Context) (w : World) (node : Node) (call : Call) (why : Refusal) → called ctx (node_at w node) call ≡ Refused why → on_node ctx w node call ≡ Refused why
refused ctx w (Pharmacy n) call why e = pharmacy_refuses_it ctx w n call why (numbered w.pharmacies n) e
refused ctx w (Switch n) call why e = switch_refuses_it ctx w n call why (numbered w.switches n) e
refused ctx w (Payer n) call why e = payer_refuses_it ctx w n call why (numbered w.payers n) e

pub local : (ctx : Context) (w : World) (node : Node) (call : Call) → IsLocal ctx w node call
local ctx w node call = record {
  follows = λ v sent. follows ctx w v node call sent;
  accepted = accepted ctx w node call;
  refused = refused ctx w node call;
}

-- an event is the one call that it asks for

delivery_asks : (ctx : Context) (w : World) (o : Option Packet) → delivered ctx w o ≡ asked_step ctx w (option_map taking o)
delivery_asks ctx w None = refl
delivery_asks ctx w (Some p) = refl

adjudication_asks : (ctx : Context) (w : World) (advice : List ℕ) (o : Option Packet) → adjudicated ctx w advice o ≡ asked_step ctx w (option_map (adjudicating advice) o)
adjudication_asks ctx w advice None = refl
adjudication_asks ctx w advice (Some p) = refl

pub step_asked : (ctx : Context) (w : World) (event : Event) → step ctx w event ≡ asked_step ctx w (asked w.packets event)
unfolding step
step_asked ctx w (Submission n text) = refl
step_asked ctx w (Ticking n) = refl
step_asked ctx w (Delivery k) = delivery_asks ctx w (numbered w.packets k)
step_asked ctx w (Stopping node) = refl
step_asked ctx w (Starting node) = refl
step_asked ctx w (Revising n change) = refl
step_asked ctx w (Adjudication k advice) = adjudication_asks ctx w advice (numbered w.packets k)
