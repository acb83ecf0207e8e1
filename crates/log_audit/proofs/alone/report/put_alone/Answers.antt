use Rattle.std.proofs.Common.{◌≡◌, ◌++◌, Bool, List, ap, ◌∙◌}
use Rattle.std.specs.List.{list_all}
use Rattle.log_audit.specs.AloneSeen.{lone_seen}
use Rattle.log_audit.specs.Lones.{Lone, makes}
use Rattle.log_audit.specs.LoneTelling.{lones_of, lones_text, all_make}
use Rattle.log_audit.specs.Telling.{context_for}
use Rattle.log_audit.proofs.AnyAndAll.{all_seen}
use Rattle.log_audit.proofs.alone.report.put_alone.Goals as goal
use Rattle.world_setup.specs.Taken.{routes_in}

pub returns-in-Ok-clause-made : goal.returns-in-Ok-clause-made
returns-in-Ok-clause-made g c =
    (rw c.as_slice.ensures.value at c.all_made-made.ensures)
    ∙ (all_seen lone_seen makes c.in_ok-lones.lones.items ∙ ap (λ (lones : List Lone). list_all makes lones) c.in_ok-lones.ensures)

pub returns-in-Ok-clause-text : goal.returns-in-Ok-clause-text
returns-in-Ok-clause-text g c =
    let a = c.args.audited.now in
    let out = c.args.out.now in
    let made : c.all_made-made.result ≡ all_make (lones_of a) =
    (rw c.as_slice.ensures.value at c.all_made-made.ensures)
    ∙ (all_seen lone_seen makes c.in_ok-lones.lones.items ∙ ap (λ (lones : List Lone). list_all makes lones) c.in_ok-lones.ensures) in
    (rw c.as_slice-2.ensures.value at (c.in-Ok.ensures (routes_in a.settings)))
    ∙ (ap (λ (lones : List Lone). out ++ lones_text (context_for a.settings) a c.all_made-made.result lones c.args.last.now c.args.form) c.in_ok-lones.ensures
    ∙ ap (λ (b : Bool). out ++ lones_text (context_for a.settings) a b (lones_of a) c.args.last.now c.args.form) made)
