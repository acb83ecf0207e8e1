use Rattle.std.proofs.Common.{drop, sym, ap, ◌∙◌}
use Rattle.d0_segments.specs.Cursors.{segment_at}
use Rattle.d0_segments.specs.Pieces.{shared_of}
use Rattle.carried_fields.specs.Occurrences.{behind_codes_in, first_occurrence}
use Rattle.carried_fields.proofs.CodesFound.{next_segment_codes}
use Rattle.carried_fields.proofs.occurrences.find_code.Goals as goal

pub returns-in-Ok : goal.returns-in-Ok
returns-in-Ok c =
    let l = c.loop-segment in
    let s = c.in-Some.segment in
    let later = shared_of s.fields.bytes.now in
    ap first_occurrence (sym l.invariant)
    ∙ ap (λ told. first_occurrence (drop l.left told)) (next_segment_codes c.args.id (shared_of l.rest.bytes.now) later (segment_at s) c.in-Some.ensures.segments)
    ∙ c.in-Ok.ensures.found (behind_codes_in c.args.id later)
