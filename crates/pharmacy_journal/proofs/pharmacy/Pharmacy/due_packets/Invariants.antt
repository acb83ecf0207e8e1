use Rattle.std.proofs.Common.{◌≡◌, ◌<◌, ◌++◌, length, drop, map}
use Rattle.std.specs.List.{All, flat_map}
use Rattle.claim_model.specs.Journal.{ticked}
use Rattle.claim_model.specs.Node.{to_switch}
use Rattle.pharmacy_journal.specs.Sendings.{sent_at, due_packets}
use Rattle.pharmacy_journal.proofs.pharmacy.Pharmacy.due_packets.Given as goal

abbrev pub invariant-loop-place : goal.invariant-loop-place
invariant-loop-place g l = record {
  sent : map g.S.ForSwitch.seen l.sent.items ++ flat_map (sent_at (ticked l.self)) (drop l.place-index l.places) ≡ map to_switch (due_packets (ticked l.self));
  places : All (λ k. k < length l.self.entries) l.places;
}
