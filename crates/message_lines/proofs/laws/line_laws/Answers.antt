use Rattle.message_words.specs.Spelled.{hex_spelled}
use Rattle.message_lines.proofs.ReadBack.{hex_text_back, printed_line_back, printed_line_kept}
use Rattle.message_lines.proofs.laws.line_laws.Goals as goal

pub returns-clause-printed : goal.returns-clause-printed
returns-clause-printed c = printed_line_back

pub returns-clause-hex : goal.returns-clause-hex
unfolding hex_spelled
returns-clause-hex c = hex_text_back 0

pub returns-clause-kept : goal.returns-clause-kept
returns-clause-kept c = printed_line_kept
