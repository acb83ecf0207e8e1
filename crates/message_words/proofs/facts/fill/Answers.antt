use Rattle.std.proofs.Common.{ℕ, map, drop, Option, ap, ◌∙◌, subst}
use Rattle.memchr.specs.Find.{IsFirstByte, is_byte}
use Rattle.message_words.specs.Facts.{fact_seen}
use Rattle.message_words.proofs.Filling.{fill_end, fill_more}
use Rattle.message_words.proofs.facts.fill.Goals as goal

pub loop-place-preserved : goal.loop-place-preserved
loop-place-preserved c = λ n rest.
    let first = subst (λ (o : Option ℕ). IsFirstByte (is_byte 36) c.loop-place.rest.now o) c.in-Some.is c.mark_in.ensures in
    c.loop-place.invariant n (fill_more c.args.style (map fact_seen c.args.facts.now) c.loop-place.rest.now c.front_of.result.now c.behind-rest.result.now c.behind-rest-in-Some.result.now c.in-Some.place
    c.loop-place.out c.bytes.new.self c.put_numbered_fact.new.out n first c.front_of.ensures (c.behind-rest.ensures ∙ ap (drop 1) c.behind.ensures) c.behind-rest-in-Some.ensures
    c.bytes.ensures c.put_numbered_fact.ensures rest)

pub returns : goal.returns
returns c =
    c.loop-place.invariant c.bytes-2.new.self (fill_end c.args.style (map fact_seen c.args.facts.now) c.loop-place.rest.now c.mark_in.result c.loop-place.out c.bytes-2.new.self c.mark_in.ensures c.in_default.not-Some c.bytes-2.ensures)
