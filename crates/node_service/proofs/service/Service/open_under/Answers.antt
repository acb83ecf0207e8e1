-- Of each text that the settings may have been opened from.
use Rattle.std.proofs.Common.{◌∙◌, ◌≡◌, ℕ, List, sym, ap, option_map}
use Rattle.std.specs.Arc.{arc_value}
use Rattle.std.specs.Option.{option_copied, is_some}
use Rattle.std.proofs.lemmas.Result.{IfOk-weaker, IfErr-weaker}
use Rattle.world_setup.specs.Seen.{node_seen}
use Rattle.kept_logs.specs.declared.rests.Beginning.{Beginning}
use Rattle.settings_digest.proofs.Keeping.{turned_at}
use Rattle.node_service.specs.Opened.{IsBegunAs, IsOpened, IsSharing}
use Rattle.node_service.specs.Refused.{IsRefused, IsUnserved}
use Rattle.node_service.proofs.MadeLogs.{is_begun, is_opened_from}
use Rattle.node_service.proofs.Refusals.{log_refused}
use Rattle.node_service.proofs.service.Service.open_under.Goals as goal

pub returns-then-not-is_there-clause-refused : goal.returns-then-not-is_there-clause-refused
returns-then-not-is_there-clause-refused c text of = record {
  settings = (arc_value c.args.shared.now).settings;
  spells = of.spells;
  absent = rw (c.settings.ensures.kept, c.checked-checked.ensures, c.deref.ensures) at (sym c.is_there.ensures.value ∙ c.if-not-is_there.true);
}

pub returns-in_default-clause-refused : goal.returns-in_default-clause-refused
returns-in_default-clause-refused c text of = record {
  settings = (arc_value c.args.shared.now).settings;
  spells = of.spells;
  there = rw (c.settings.ensures.kept, c.checked-checked.ensures, c.deref.ensures) at (sym c.is_there.ensures.value ∙ c.if-not-is_there.false);
  none = sym (rw (c.checked-checked.ensures, c.deref.ensures) at c.in_ok-before.ensures.node) ∙ ap (option_map (λ (b : Beginning). b.node)) c.in_default.is;
}

pub returns-in-None-clause-opened : goal.returns-in-None-clause-opened
returns-in-None-clause-opened c =
    let node = node_seen c.args.node in
    let rest = option_copied c.args.rest in
    let bytes = c.args.bytes.now in
    let shared = arc_value c.args.shared.now in
    IfOk-weaker c.unmade.result
    (λ s. IsBegunAs shared.settings c.digest-digest.result node rest bytes s.1 s.0)
    (λ opened. (text : List ℕ) → IsSharing text shared → IsOpened text node rest bytes opened.1 opened.0)
    (λ s new text of. let turned : c.digest-digest.result ≡ _ = (rw c.deref-2.ensures at c.digest-digest.ensures) ∙ turned_at text rest shared.digests bytes of.digests in
    is_begun text shared.settings node rest bytes s.1 s.0 of.spells (rw (← turned) new)) c.unmade.ensures.new

pub returns-in-None-clause-refused : goal.returns-in-None-clause-refused
returns-in-None-clause-refused c =
    let node = node_seen c.args.node in
    let rest = option_copied c.args.rest in
    let bytes = c.args.bytes.now in
    let shared = arc_value c.args.shared.now in
    IfErr-weaker c.unmade.result
    (λ why. IsUnserved c.digest-digest.result shared.settings node rest bytes why)
    (λ why. (text : List ℕ) → IsSharing text shared → IsRefused text node rest bytes why)
    (λ why unserved text of. let turned : c.digest-digest.result ≡ _ = (rw c.deref-2.ensures at c.digest-digest.ensures) ∙ turned_at text rest shared.digests bytes of.digests in
    log_refused text node rest bytes shared.settings why of.spells
    (rw (c.settings.ensures.kept, c.checked-checked.ensures, c.deref.ensures) at (sym c.is_there.ensures.value ∙ c.if-not-is_there.false))
    (ap is_some (sym (rw (c.checked-checked.ensures, c.deref.ensures) at c.in_ok-before.ensures.node) ∙ ap (option_map (λ (b : Beginning). b.node)) c.in-Some.is)) (rw (← turned) unserved)) c.unmade.ensures.refused

pub returns-in_ok-served-in-Some-2-clause-opened : goal.returns-in_ok-served-in-Some-2-clause-opened
returns-in_ok-served-in-Some-2-clause-opened c text of =
    let opened = c.in_ok-served-in-Some-2.field-0 in
    let rest = option_copied c.args.rest in
    let shared = arc_value c.args.shared.now in
    is_opened_from text shared.settings (node_seen c.args.node) rest c.args.bytes.now c.digest-digest.result c.in_ok-before.field-0 c.in-Some.before c.in_ok-made.field-0 c.in-Some-2.made _ opened.1 opened.0
    of.spells ((rw c.deref-2.ensures at c.digest-digest.ensures) ∙ turned_at text rest shared.digests c.args.bytes.now of.digests) (rw (c.checked-checked.ensures, c.deref.ensures) at c.in_ok-before.ensures.node) c.in_ok-before.ensures.references c.in-Some.is
    (rw (c.checked-checked.ensures, c.deref.ensures) at c.in_ok-made.ensures) c.in-Some-2.is c.version.ensures c.in_ok-served-in-Some-2.ensures
