use Rattle.std.proofs.Common.{◌≡◌, ◌-◌, length, take, drop, sym, ◌∙◌, arith}
use Rattle.std.proofs.lemmas.Slice.{between_to_end}
use Rattle.d0_segments.proofs.Taken.{nameless}
use Rattle.d0_segments.proofs.reading.read_field.Goals as goal

pub returns-in_default-clause-fault : goal.returns-in_default-clause-fault
returns-in_default-clause-fault c =
    let bytes = c.args.from.bytes.now in
    let all : take (length bytes - 1) (drop 1 bytes) ≡ drop 1 bytes = between_to_end bytes 1 (length bytes) (omega arith) in
    nameless c.args.from c.place.result c.split.result.0.now c.split.result.1.now c.place.ensures c.requires (sym all ∙ c.split.ensures.parts) c.in_default.len_below c.split.ensures.ends
