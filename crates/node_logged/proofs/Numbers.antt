-- The numbers of a pharmacy's entries.
use Rattle.std.proofs.Common.{◌≡◌, ℕ, ◌+◌, List, [], ◌∷◌, ◌++◌, Option, Some, None, sym, arith, length-append}
use Rattle.std.proofs.lemmas.List.{length-map}
use Rattle.claim_model.specs.Context.{Context}
use Rattle.claim_model.specs.declared.refusal.Refusal.{Refusal}
use Rattle.claim_model.specs.Journal.{Journal, submit_fault, submitted, submitted_unless, stopped, kept_entry}
use Rattle.claim_model.specs.Node.{Submit, Sent, Up, AtRest, Done, after_submit}
use Rattle.claim_model.specs.Nodes.{AnyNode, OfPharmacy, OfSwitch, OfPayer, as_node, node_step}
use Rattle.node_state.specs.Nodes.{entries_of}

grown_unless : (ctx : Context) (j : Journal) (text : List ℕ) (fault : Option Refusal) (next : AnyNode) (sent : List Sent) → as_node OfPharmacy (after_submit (submitted_unless ctx j text fault)) ≡ Done next sent
    → entries_of next ≡ entries_of (OfPharmacy (Up j)) + 1
unfolding stopped
grown_unless ctx j text (Some fault) next sent done = absurd (cc)
grown_unless ctx j text None next sent done =
    let entries = j.entries ++ record { request = text; state = Rattle.claim_model.specs.Journal.Waits 0 } ∷ [] in
    let is : OfPharmacy (Up (record { number = j.number; settings = j.settings; rule = j.rule; entries = entries })) ≡ next = cc in
    rw (sym is) (omega (arith, length-map entries kept_entry, length-map j.entries kept_entry, length-append j.entries (record { request = text; state = Rattle.claim_model.specs.Journal.Waits 0 } ∷ [])))

-- a submission that is accepted adds one entry
pub grown : (ctx : Context) (state next : AnyNode) (text : List ℕ) (sent : List Sent) → node_step ctx state (Submit text) ≡ Done next sent → entries_of next ≡ entries_of state + 1
unfolding submitted
grown ctx (OfPharmacy (Up j)) next text sent done = grown_unless ctx j text (submit_fault j text (ctx.header text)) next sent done
grown ctx (OfPharmacy (AtRest j)) next text sent done = absurd (cc)
grown ctx (OfSwitch (Up t)) next text sent done = absurd (cc)
grown ctx (OfSwitch (AtRest cap)) next text sent done = absurd (cc)
grown ctx (OfPayer (Up b)) next text sent done = absurd (cc)
grown ctx (OfPayer (AtRest b)) next text sent done = absurd (cc)
