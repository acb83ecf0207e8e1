use Rattle.std.proofs.Common.{◌≡◌, ◌++◌, drop}
use Rattle.std.specs.List.{flat_map}
use Rattle.world_setup.specs.Seen.{sent_seen}
use Rattle.node_service.specs.Answering.{sent_line}
use Rattle.node_service.proofs.answering.put_sent.Given as goal

-- the lines so far, and then those of the packets that are left
abbrev pub invariant-loop-one : goal.invariant-loop-one
invariant-loop-one l = l.out.items ++ flat_map (λ s. sent_line (sent_seen s)) (drop l.one-index l.sent) ≡ l.initial.out.items ++ flat_map (λ s. sent_line (sent_seen s)) l.sent
