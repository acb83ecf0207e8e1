use Rattle.std.proofs.Common.{append_assoc}
use Rattle.log_audit.specs.LoneTelling.{made_members}
use Rattle.log_audit.proofs.alone.object.put_made.Goals as goal

pub returns : goal.returns
unfolding made_members
returns g c = λ routes. simp (c.in_ok-put.ensures, append_assoc) at (c.put_json.ensures routes)
