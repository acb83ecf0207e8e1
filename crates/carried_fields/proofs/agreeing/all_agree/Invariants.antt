use Rattle.std.proofs.Common.{◌≡◌, Bool, drop}
use Rattle.std.specs.List.{list_all}
use Rattle.carried_fields.specs.Agreeing.{agreed}
use Rattle.carried_fields.proofs.agreeing.all_agree.Given as goal

-- the places so far agree, so that those that are left decide
abbrev pub invariant-loop-place : goal.invariant-loop-place
invariant-loop-place l = list_all (λ (b : Bool). b) (agreed (drop l.place l.own) (drop l.place l.said)) ≡ list_all (λ (b : Bool). b) (agreed l.own l.said)
