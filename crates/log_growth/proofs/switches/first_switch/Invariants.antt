use Rattle.std.proofs.Common.{◌≡◌, ◌==◌, ℕ, ◌+◌, drop}
use Rattle.log_growth.specs.Compared.{first_other}
use Rattle.log_growth.proofs.switches.first_switch.Given as goal

-- what is left is compared as all is
abbrev pub invariant-loop-place : goal.invariant-loop-place
invariant-loop-place l = first_other (λ (a b : ℕ). a == b) (l.place + 1) (drop l.place l.old) (drop l.place l.new) ≡ first_other (λ (a b : ℕ). a == b) 1 l.old l.new
