use Rattle.std.proofs.Common.{◌≡◌, ◌++◌, ◌||◌, drop, map, Some}
use Rattle.std.specs.List.{list_any, filter_map}
use Rattle.d0_segments.specs.FramedParts.{framed_parts}
use Rattle.claim_model.specs.Words.{Auth}
use Rattle.claim_model.specs.Bytes.{orders_in}
use Rattle.pharmacy_journal.specs.Counting.{fill_billed, outcomes_between, named_in, outcome_reverses, has_auth}
use Rattle.pharmacy_journal.proofs.counting.take_groups.Given as goal

-- what is told so far, and then what is left
abbrev pub invariant-loop-place : goal.invariant-loop-place
invariant-loop-place l = record {
  named : l.told.named.items ++ filter_map named_in (outcomes_between (drop l.place (map fill_billed (orders_in (Some (framed_parts l.framed))))) (drop l.place l.rulings)) ≡ l.initial.told.named.items ++ filter_map named_in (outcomes_between (map fill_billed (orders_in (Some (framed_parts l.framed)))) l.rulings);
  reversed : (a : Auth) → (has_auth l.told.reversed.keys a || list_any (outcome_reverses a) (outcomes_between (drop l.place (map fill_billed (orders_in (Some (framed_parts l.framed))))) (drop l.place l.rulings))) ≡ (has_auth l.initial.told.reversed.keys a || list_any (outcome_reverses a) (outcomes_between (map fill_billed (orders_in (Some (framed_parts l.framed)))) l.rulings));
}
