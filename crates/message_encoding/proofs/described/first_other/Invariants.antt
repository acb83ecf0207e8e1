use Rattle.std.proofs.Common.{◌≡◌, drop}
use Rattle.serde_json.specs.View.{items_view}
use Rattle.message_encoding.specs.Parts.{AreAlike, first_unlike}
use Rattle.message_encoding.proofs.described.first_other.Given as goal

-- the first that differs of what is left is that of all; where what is left is told alike, all is
abbrev pub invariant-loop-place : goal.invariant-loop-place
invariant-loop-place l = record {
  first : first_unlike l.place (items_view (drop l.place l.parts)) (items_view (drop l.place l.others)) ≡ first_unlike 0 (items_view l.fn.parts) (items_view l.fn.others);
  alike : AreAlike (items_view (drop l.place l.parts)) (items_view (drop l.place l.others)) → AreAlike (items_view l.fn.parts) (items_view l.fn.others);
}
