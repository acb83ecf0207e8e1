use Rattle.std.proofs.Common.{◌+◌, List, ℕ, ◌++◌, drop, sym, ap, ◌∙◌, arith}
use Rattle.d0_segments.specs.Texts.{fields_text}
use Rattle.d0_segments.specs.Views.{field_parts}
use Rattle.d0_segments.specs.Pieces.{shared_of}
use Rattle.d0_segments.specs.Inside.{fields_left}
use Rattle.carried_fields.specs.Occurrences.{behind_codes_in, first_occurrence, beside}
use Rattle.carried_fields.proofs.Appended.{next_code}
use Rattle.carried_fields.proofs.occurrences.put_own_fields.Goals as goal

pub loop-field-preserved-in_ok-put_occurrence : goal.loop-field-preserved-in_ok-put_occurrence
loop-field-preserved-in_ok-put_occurrence c =
    let l = c.loop-field in
    let f = field_parts c.in-Some.field in
    let later = fields_left c.in-Some.behind.bytes.now in
    let told = behind_codes_in c.args.id (shared_of c.args.said.bytes.now) in
    record {
      written =
          ap (λ (t : List ℕ). t ++ fields_text (beside (drop (l.codes + 1) told) later))
          (c.in_ok-put_occurrence.ensures ∙ ap (λ (t : List ℕ). t ++ fields_text (first_occurrence (drop l.codes told))) c.in_ok-put_field.ensures)
          ∙ next_code l.text.items told l.codes (fields_left l.rest.bytes.now) later f (c.args.text.now.items ++ fields_text (beside told (fields_left c.args.from.bytes.now))) c.in-Some.ensures.fields
          (sym c.is_code.ensures ∙ c.if-is_code.true) l.invariant.written;
      short = omega (arith, l.invariant.short, c.in-Some.ensures.shorter);
    }
