use Rattle.std.proofs.Common.{◌≡◌, drop}
use Rattle.log_audit.specs.Names.{uses_before}
use Rattle.log_audit.specs.NamesSeen.{all_noted, first_sorted}
use Rattle.log_audit.proofs.reading.referring.misnamed_before.Given as goal

-- the first of what is left is that of all, and with those that are left all are noted
abbrev pub invariant-loop-one : goal.invariant-loop-one
invariant-loop-one l = record {
  first : first_sorted l.known.keys (uses_before (drop l.one-index l.references)) ≡ first_sorted l.initial.known.keys (uses_before l.references);
  known : all_noted l.known.keys (uses_before (drop l.one-index l.references)) ≡ all_noted l.initial.known.keys (uses_before l.references);
}
