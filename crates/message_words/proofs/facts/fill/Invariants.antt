use Rattle.std.proofs.Common.{false, length, map}
use Rattle.message_words.specs.declared.text.Text.{Text}
use Rattle.message_words.specs.Facts.{fact_seen, filled}
use Rattle.message_words.specs.Written.{Takes}
use Rattle.message_words.proofs.facts.fill.Given as goal

-- whatever adds what is left to the text adds all of it to the first one
abbrev pub invariant-loop-place : goal.invariant-loop-place
invariant-loop-place l = (n : Text) → Takes (filled l.style (map fact_seen l.facts) false l.rest) l.out n → Takes (filled l.style (map fact_seen l.facts) false l.text) l.fn.out n

abbrev pub decreases-loop-place : goal.decreases-loop-place
decreases-loop-place l = length l.rest
