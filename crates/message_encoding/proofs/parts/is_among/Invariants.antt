use Rattle.std.proofs.Common.{◌≡◌, drop, map}
use Rattle.message_encoding.specs.Parts.{is_among}
use Rattle.message_encoding.proofs.parts.is_among.Given as goal

-- the numbers that are left are the ones that decide
abbrev pub invariant-loop-one : goal.invariant-loop-one
invariant-loop-one l = is_among (map (λ one. one.now) (drop l.one-index l.known)) l.fn.number ≡ is_among (map (λ one. one.now) l.fn.known) l.fn.number
