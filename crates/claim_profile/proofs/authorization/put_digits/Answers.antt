use Rattle.std.proofs.Common.{◌≡◌, ◌-◌, ◌++◌, drop, ap, sym, ◌∙◌, ◌+◌, ◌%◌, arith}
use Rattle.std.proofs.lemmas.List.{length-set}
use Rattle.claim_profile.specs.Authorization.{padded_number}
use Rattle.claim_profile.proofs.AuthorizationLemmas.{digit_written, zeros_before, zeros_stay}
use Rattle.claim_profile.proofs.authorization.put_digits.Goals as goal

pub loop-place-preserved : goal.loop-place-preserved
loop-place-preserved c =
    let digits = c.loop-place.digits in
    let place = c.loop-place.place in
    let within = c.loop-place.invariant.within in
    record {
      within = omega (arith, length-set digits (place - 1) (48 + c.loop-place.rest % 10));
      zeros = zeros_before place (48 + c.loop-place.rest % 10) digits c.loop-place.invariant.zeros;
      written = digit_written place c.loop-place.rest digits _ (omega arith) (omega arith) c.loop-place.invariant.written;
    }

pub returns-then-rest-eq0 : goal.returns-then-rest-eq0
returns-then-rest-eq0 c =
    let l = c.loop-place in
    let nothing : l.rest ≡ 0 = omega arith in
    zeros_stay l.place l.digits _ l.invariant.zeros (ap (λ r. padded_number l.place r ++ drop l.place l.digits) (sym nothing) ∙ l.invariant.written)
