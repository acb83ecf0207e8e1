use Rattle.std.proofs.Common.{◌≡◌, drop, map}
use Rattle.message_parts.specs.Parts.{part_seen}
use Rattle.message_words.proofs.Rows.{AddsUpTo}
use Rattle.message_words.proofs.page.Page.parts.Given as goal

-- the rows of the parts so far
abbrev pub invariant-loop-part : goal.invariant-loop-part
invariant-loop-part l = record {
  rows : AddsUpTo (map part_seen l.parts) (map part_seen (drop l.part-index l.parts)) l.fn.self l.self;
  style : l.self.style ≡ l.fn.self.style;
  dropped : l.self.dropped ≡ l.fn.self.dropped;
  findings : l.self.findings ≡ l.fn.self.findings;
}
