-- A log that its node makes would have been made.
use Rattle.std.proofs.Common.{Ok, Err, option_map, sym, ap, ◌∙◌}
use Rattle.std.specs.Option.{option_copied}
use Rattle.world_setup.specs.Seen.{node_seen}
use Rattle.node_log.specs.Misfits.{IsMadeFrom}
use Rattle.node_logged.specs.Setting.{context_of}
use Rattle.kept_logs.specs.LogSeen.{reading_seen}
use Rattle.kept_logs.specs.declared.rests.Beginning.{Beginning}
use Rattle.node_service.proofs.Refusals.{breaks_off, never_made}
use Rattle.node_service.proofs.opening.why_unmade.Goals as goal

pub unreachable-requires-in-Ok : goal.unreachable-requires-in-Ok
unreachable-requires-in-Ok c =
    let settings = c.args.shared.now in
    let read = reading_seen c.args.read in
    let made : IsMadeFrom (context_of settings) c.in-Some.before.node read.log.calls (Ok c.in-Ok.field-0) = rw (c.routes.ensures, c.in-Ok.is) at c.in_ok-make_log_from.ensures in
    never_made settings (node_seen c.args.node) (option_copied c.args.rest) read c.in-Some.before.node (sym c.is_of.ensures ∙ c.if-not-is_of.false)
    (sym c.in_ok-before.ensures.node ∙ ap (option_map (λ (b : Beginning). b.node)) c.in-Some.is) c.requires.unmade made.0

pub returns : goal.returns
returns c =
    let settings = c.args.shared.now in
    let read = reading_seen c.args.read in
    let broken : IsMadeFrom (context_of settings) c.in-Some.before.node read.log.calls (Err c.in-Err.first) = rw (c.routes.ensures, c.in-Err.is) at c.in_ok-make_log_from.ensures in
    breaks_off c.args.digest.now settings (node_seen c.args.node) (option_copied c.args.rest) c.args.bytes.now read c.in-Some.before.node c.in-Err.first.place c.place_of.result c.requires.reads
    (sym c.is_of.ensures ∙ c.if-not-is_of.false) (sym c.in_ok-before.ensures.node ∙ ap (option_map (λ (b : Beginning). b.node)) c.in-Some.is) broken c.place_of.ensures
