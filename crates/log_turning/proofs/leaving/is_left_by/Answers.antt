-- The rest is what was left, or there is nothing that was left.
use Rattle.std.proofs.Common.{Option, IfSome, subst}
use Rattle.world_setup.specs.Seen.{node_seen}
use Rattle.log_turning.specs.declared.turning.Closed.{Closed}
use Rattle.log_turning.specs.Joined.{part_seen}
use Rattle.log_turning.specs.Turned.{IsClosed}
use Rattle.log_turning.proofs.Compared.{by_other, by_same, is_left}
use Rattle.log_turning.proofs.leaving.is_left_by.Goals as goal

pub returns-in-Some-clause-yes : goal.returns-in-Some-clause-yes
returns-in-Some-clause-yes c =
    let text = c.args.text.now in
    let node = node_seen c.args.node in
    let closed = part_seen c.args.closed.now in
    let is = subst (λ (found : Option Closed). IfSome found (λ left. IsClosed text node closed.rest closed.log left)) c.in-Some.is c.in_ok-left_by.ensures.left in
    by_same _ _ _ _ c.is_same.result c.is_same.ensures.same c.is_same.ensures.fits (λ same fits. is_left text node closed c.args.rest.now c.in-Some.left is same fits)

pub returns-in-Some-clause-no : goal.returns-in-Some-clause-no
returns-in-Some-clause-no c =
    let text = c.args.text.now in
    let node = node_seen c.args.node in
    let closed = part_seen c.args.closed.now in
    let is = subst (λ (found : Option Closed). IfSome found (λ left. IsClosed text node closed.rest closed.log left)) c.in-Some.is c.in_ok-left_by.ensures.left in
    by_other _ _ c.is_same.result c.is_same.ensures.other (λ other. record { left = c.in-Some.left; is = is; other = other })
