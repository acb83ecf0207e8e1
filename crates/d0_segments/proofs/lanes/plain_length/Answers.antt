use Rattle.std.proofs.Common.{◌≡◌, ap, sym, ◌∙◌, arith, drop, length-drop}
use lib.Count.{count_trailing_zeros}
use Rattle.d0_segments.specs.Separators.{plain_length}
use Rattle.d0_segments.proofs.Marks.{near, within}
use Rattle.d0_segments.proofs.lanes.plain_length.Goals as goal

pub returns-then-found-ne0-clause-within : goal.returns-then-found-ne0-clause-within
returns-then-found-ne0-clause-within c =
    let found = c.separators-found in
    omega (arith, near c.args.bytes.now (omega arith) (omega (arith, found.ensures)) ∙ ap (count_trailing_zeros 64) (sym found.ensures), within c.args.bytes.now)

pub returns-clause-within : goal.returns-clause-within
returns-clause-within c =
    let many : c.plain_length_of_many.result ≡ plain_length (drop 16 c.args.bytes.now) = c.plain_length_of_many.ensures ∙ ap plain_length c.behind.ensures.bytes in
    omega (arith, many, within (drop 16 c.args.bytes.now), length-drop 16 c.args.bytes.now)
