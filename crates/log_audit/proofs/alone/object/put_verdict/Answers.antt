use Rattle.std.proofs.Common.{append_assoc}
use Rattle.log_audit.specs.LoneTelling.{lone_object}
use Rattle.log_audit.proofs.alone.object.put_verdict.Goals as goal

pub returns : goal.returns
unfolding lone_object
returns g c = λ routes.
    simp (c.in_ok-put_found.ensures routes, c.in_ok-put-2.ensures, c.in_ok-put_behind.ensures, c.in_ok-put.ensures, append_assoc) at c.put-3.ensures
