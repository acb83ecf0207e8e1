use Rattle.std.proofs.Common.{refl, inl, rules}
use Rattle.node_handle.proofs.Hostings.{lowered_twice}
use Rattle.node_handle.proofs.hosted.Hosted.keep.Goals as goal

pub returns : goal.returns
returns c =
    rw (← c.self.view_is) (inl (search rules, (refl, rw (c.shed.ensures, lowered_twice c.self.inside.kept c.args.size c.self.inside.words) refl)))
