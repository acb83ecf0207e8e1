use Rattle.std.proofs.Common.{◌≡◌, drop, Some}
use Rattle.serde_json.specs.View.{items_view}
use Rattle.message_encoding.specs.Parts.{all_bytes, first_wrong, joined}
use Rattle.message_encoding.proofs.described.all_bytes.Given as goal

-- the bytes so far, and then those of the parts that are left; none so far is wrong
abbrev pub invariant-loop-place : goal.invariant-loop-place
invariant-loop-place l = record {
  same : joined (Some l.bytes.items) (all_bytes (items_view (drop l.place l.parts))) ≡ all_bytes (items_view l.fn.parts);
  wrong : first_wrong l.place (items_view (drop l.place l.parts)) ≡ first_wrong 0 (items_view l.fn.parts);
}
