use Rattle.std.proofs.Common.{drop, codes}
use Rattle.message_words.specs.declared.text.Text.{Text}
use Rattle.message_words.specs.Facts.{named_codes}
use Rattle.message_words.specs.Written.{Takes}
use Rattle.message_words.proofs.code_lines.put_named_codes.Given as goal

-- whatever adds the codes that are left to the text adds all of them to the first one
abbrev pub invariant-loop-code : goal.invariant-loop-code
invariant-loop-code l = (n : Text) → Takes (named_codes l.front (drop l.code-index l.rejects)) l.out n → Takes (named_codes (codes ": ") l.rejects) l.fn.out n
