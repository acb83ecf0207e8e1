use Rattle.std.proofs.Common.{refl, sym, ◌∙◌, ap, arith, subst, Some}
use Rattle.std.proofs.lemmas.Bool.{false≢true}
use Rattle.claim_model.specs.Journal.{PharmacySettings}
use Rattle.claim_model.specs.Limits.{Limits}
use Rattle.pharmacy_journal.specs.Settings.{AreWithin}
use Rattle.world_settings.proofs.Taken.{are, few_nodes, is_some, is_none}
use Rattle.world_settings.proofs.pharmacies.taken.Goals as goal

pub returns-then-len-gt-MOST_NODES : goal.returns-then-len-gt-MOST_NODES
returns-then-len-gt-MOST_NODES c =
    let s : PharmacySettings = record { qualifier = c.args.qualifier; provider = c.args.provider; nodes = c.args.nodes.items; again = c.args.again; tries = c.args.tries; cap = c.args.cap } in
    is_none s (λ passed. omega (arith, few_nodes s passed, c.len.ensures, c.args.nodes.ok.0, c.if-len-gt-MOST_NODES.true))

pub returns-in-Ok : goal.returns-in-Ok
returns-in-Ok c =
    let s : PharmacySettings = record { qualifier = c.args.qualifier; provider = c.args.provider; nodes = c.args.nodes.items; again = c.args.again; tries = c.args.tries; cap = c.args.cap } in
    ap (λ (t : PharmacySettings). Some t) c.in-Ok.ensures.given ∙ is_some s (subst (λ (l : Limits). AreWithin l.entries s) c.widest-widest.ensures (c.in-Ok.ensures.taken.0 refl)) (omega (arith, c.len.ensures, c.args.nodes.ok.0))

pub returns-in-Err : goal.returns-in-Err
returns-in-Err c =
    let s : PharmacySettings = record { qualifier = c.args.qualifier; provider = c.args.provider; nodes = c.args.nodes.items; again = c.args.again; tries = c.args.tries; cap = c.args.cap } in
    is_none s (λ passed. false≢true (c.in-Err.ensures.taken.1 (subst (λ (l : Limits). AreWithin l.entries s) (sym c.widest-widest.ensures) (are s passed))))
