use Rattle.std.proofs.Common.{◌≡◌, drop, map}
use Rattle.std.specs.Option.{option_map}
use Rattle.log_audit.specs.Changes.{change_seen, rule_seen}
use Rattle.log_audit.specs.Following.{had_after}
use Rattle.log_audit.specs.Rules.{rule_of}
use Rattle.log_audit.proofs.revisions.retries.rule_after.Given as goal

-- the rule so far, after the changes that are left
abbrev pub invariant-loop-change : goal.invariant-loop-change
invariant-loop-change l =
    had_after rule_of l.pharmacy (option_map rule_seen l.then) (map change_seen (drop l.change-index l.changes))
    ≡ had_after rule_of l.pharmacy (option_map rule_seen l.initial.then) (map change_seen l.changes)
