use Rattle.std.proofs.Common.{◌≡◌, ◌+◌, ◌-◌, arith, rules}
use Rattle.std.proofs.lemmas.Fmt.{length-decimal-le}
use Rattle.std.proofs.lemmas.List.{drop-set}
use Rattle.world_report.proofs.rulings.write_number.Goals as goal

pub write_digits-first-requires : goal.write_digits-first-requires
write_digits-first-requires c = (omega (arith, length-decimal-le 10 c.from.result (omega arith) (omega arith) (omega arith)), search rules)

pub overflow_sub-text : goal.overflow_sub-text
overflow_sub-text c = omega (arith, length-decimal-le 10 c.from.result (omega arith) (omega arith) (omega arith))

pub overflow_sub-result : goal.overflow_sub-result
overflow_sub-result c = omega (arith, length-decimal-le 10 c.from.result (omega arith) (omega arith) (omega arith))

pub returns-clause-start : goal.returns-clause-start
returns-clause-start c = omega (arith, length-decimal-le 10 c.from.result (omega arith) (omega arith) (omega arith))

pub returns-clause-written : goal.returns-clause-written
returns-clause-written c =
    let w = c.write_digits-first in
    let long = length-decimal-le 10 c.from.result (omega arith) (omega arith) (omega arith) in
    let e : w.result - 1 + 1 ≡ w.result = omega arith in
    rw (drop-set w.new.buf (w.result - 1) 32 (omega arith), e, w.ensures.written) (cc)
