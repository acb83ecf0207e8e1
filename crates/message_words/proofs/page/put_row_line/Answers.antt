use Rattle.std.proofs.Common.{List, ℕ, ◌++◌, length, ap, subst, ◌∙◌}
use Rattle.input_text.specs.Printing.{printed}
use Rattle.message_words.specs.Rows.{columns_text, meaning_behind}
use Rattle.message_words.specs.Written.{Takes}
use Rattle.message_words.proofs.Rows.{line_taken}
use Rattle.message_words.proofs.page.put_row_line.Goals as goal

pub returns : goal.returns
returns c =
    let value : List ℕ = printed c.args.row.value.now in
    subst (λ (front : List ℕ). Takes (front ++ value ++ meaning_behind (length value) c.args.meaning.now) c.args.out.now c.put_meaning_behind.new.out)
    (c.columns.ensures ∙ ap (columns_text c.args.place c.args.row.number.now) c.words_of.ensures)
    (line_taken c.columns.result value c.args.meaning.now c.args.out.now c.bytes.new.self c.printed.new.self c.put_meaning_behind.new.out c.len-from.result
    c.bytes.ensures c.len-from.ensures c.printed.ensures c.put_meaning_behind.ensures)
