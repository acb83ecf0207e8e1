use Rattle.std.proofs.Common.{◌+◌, List, map, drop, get_or, ap, ◌∙◌, arith}
use Rattle.std.proofs.lemmas.List.{drop_more, drop_all}
use Rattle.message_parts.specs.declared.part.Part.{Part}
use Rattle.message_parts.specs.Parts.{part_seen}
use Rattle.message_words.proofs.Rows.{row_more, rows_done}
use Rattle.message_words.proofs.page.Page.parts.Goals as goal

pub loop-part-preserved : goal.loop-part-preserved
loop-part-preserved c =
    let i = c.loop-part.part-index in
    let all : List Part = c.args.parts.now in
    record {
      rows = row_more (map part_seen all) (map part_seen (drop i all)) (map part_seen (drop (i + 1) all)) (part_seen (get_or all i _)) c.args.self.now c.loop-part.self c.part.new.self
          (ap (map part_seen) (drop_more all i _ (omega arith))) c.loop-part.invariant.rows c.part.ensures.row (ap (λ p. p.style) c.part.ensures.same) (ap (λ p. p.started) c.part.ensures.same)
          (ap (λ p. p.transactions) c.part.ensures.same);
      style = ap (λ p. p.style) c.part.ensures.same ∙ c.loop-part.invariant.style;
      dropped = ap (λ p. p.dropped) c.part.ensures.same ∙ c.loop-part.invariant.dropped;
      findings = ap (λ p. p.findings) c.part.ensures.same ∙ c.loop-part.invariant.findings;
    }

pub returns-clause-rows : goal.returns-clause-rows
returns-clause-rows c =
    rows_done (map part_seen c.args.parts.now) (map part_seen (drop c.loop-part.part-index c.args.parts.now)) c.args.self.now c.loop-part.self
    (ap (map part_seen) (drop_all c.loop-part.part-index c.args.parts.now (omega arith))) c.loop-part.invariant.rows
