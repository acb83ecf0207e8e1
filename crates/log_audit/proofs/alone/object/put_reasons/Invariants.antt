use Rattle.std.proofs.Common.{◌≡◌, ◌++◌, drop}
use Rattle.std.specs.List.{flat_map}
use Rattle.log_audit.specs.AloneSeen.{lones_seen}
use Rattle.log_audit.specs.LoneTelling.{lone_reasons}
use Rattle.log_audit.specs.Sentences.{told_lines}
use Rattle.log_audit.specs.declared.sentences.Manner.TheVariants.{Member}
use Rattle.log_audit.proofs.alone.object.put_reasons.Given as goal

-- the lines so far, and then those on the logs that are left
abbrev pub invariant-loop-lone : goal.invariant-loop-lone
invariant-loop-lone l =
    l.why.items ++ told_lines Member (flat_map lone_reasons (lones_seen (drop l.lone-index l.lones)))
    ≡ l.initial.why.items ++ told_lines Member (flat_map lone_reasons (lones_seen l.lones))
