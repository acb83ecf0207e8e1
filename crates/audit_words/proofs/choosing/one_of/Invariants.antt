use Rattle.std.proofs.Common.{◌≡◌, ◌++◌, drop}
use Rattle.audit_words.specs.Choosing.{asked_one, asked_ones, one_at_most}
use Rattle.audit_words.proofs.choosing.one_of.Given as goal

-- the one so far, and those that are left
abbrev pub invariant-loop-it : goal.invariant-loop-it
invariant-loop-it g l = one_at_most (asked_one l.one ++ asked_ones (drop l.it-index l.them)) ≡ one_at_most (asked_ones l.them)
