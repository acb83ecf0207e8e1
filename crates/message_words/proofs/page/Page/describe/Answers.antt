use Rattle.std.proofs.Common.{List, sym, ap, subst, ◌∙◌}
use Rattle.std.proofs.lemmas.Bool.{false≢true}
use Rattle.message_parts.specs.declared.dissecting.Carried.{Carried}
use Rattle.message_words.specs.AllFound.{FindsAll}
use Rattle.message_words.proofs.Rows.{described, note_taken}
use Rattle.message_words.proofs.page.Page.describe.Goals as goal

pub returns-in-Ok-clause-text : goal.returns-in-Ok-clause-text
returns-in-Ok-clause-text c = λ e.
    described c.args.self.now c.begin.new.self c.parts.new.self c.put_findings.new.self c.end.new.self c.args.line c.args.kind c.args.bytes.now _ _ c.clear.new.self c.gather.new.self
    c.in-Ok.ensures.are c.begin.ensures.text c.begin.ensures.same c.clear.ensures.text (ap (λ p. p.style) c.clear.ensures.same)
    (subst (λ (cs : List Carried). FindsAll c.args.kind c.args.bytes.now cs c.clear.new.self c.gather.new.self) c.as_slice.ensures.value c.gather.ensures)
    (rw c.as_slice-in-Ok.ensures.value at c.parts.ensures.rows) c.parts.ensures.style c.parts.ensures.findings
    c.put_findings.ensures.text c.put_findings.ensures.same c.end.ensures.text c.end.ensures.same e

pub returns-in-Err-clause-text : goal.returns-in-Err-clause-text
returns-in-Err-clause-text c = λ e. absurd (false≢true (sym (note_taken c.refuse.new.self e) ∙ c.refuse.ensures.refused))
