use Rattle.std.proofs.Common.{ℕ, subst}
use Rattle.kept_logs.specs.Digests.{version_seen}
use Rattle.log_folder.specs.Undamaged.{AreRuns}
use Rattle.log_folder.proofs.Standing.{all_found}
use Rattle.log_folder.proofs.undamaged.runs_from.Goals as goal

pub returns : goal.returns
returns c =
    subst (λ (v : ℕ). AreRuns v c.args.bytes.now c.args.number c.args.place c.loop-run.runs.items) c.of-version.ensures (all_found (version_seen c.of-version.result) c.args.bytes.now c.args.number c.args.place c.loop-run.wanted c.loop-run.behind c.loop-run.runs.items c.loop-run.invariant c.in_default.ensures)
