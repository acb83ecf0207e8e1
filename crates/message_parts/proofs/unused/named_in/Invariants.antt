use Rattle.std.proofs.Common.{◌≡◌, drop, map}
use Rattle.message_parts.specs.FieldTitles.{titles, named_in}
use Rattle.message_parts.proofs.unused.named_in.Given as goal

-- no field so far ends with the letters
abbrev pub invariant-loop-called : goal.invariant-loop-called
invariant-loop-called l = named_in (map (λ c. titles c.0.now c.1.now c.2.now) (drop l.called-index l.table)) l.letters ≡ named_in (map (λ c. titles c.0.now c.1.now c.2.now) l.table) l.letters
