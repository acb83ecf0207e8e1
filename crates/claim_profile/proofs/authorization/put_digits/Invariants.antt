use Rattle.std.proofs.Common.{◌≡◌, ◌≤◌, ◌++◌, length, take, drop, replicate}
use Rattle.claim_profile.specs.Authorization.{padded_number}
use Rattle.claim_profile.proofs.authorization.put_digits.Given as goal

abbrev pub invariant-loop-place : goal.invariant-loop-place
invariant-loop-place l = record {
  within : l.place ≤ length l.digits;
  zeros : take l.place l.digits ≡ replicate l.place 48;
  written : padded_number l.place l.rest ++ drop l.place l.digits ≡ padded_number (length l.fn.digits) l.fn.number;
}

abbrev pub decreases-loop-place : goal.decreases-loop-place
decreases-loop-place l = l.place
