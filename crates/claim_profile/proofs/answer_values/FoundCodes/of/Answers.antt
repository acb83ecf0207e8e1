use Rattle.std.proofs.Common.{◌∷◌, [], codes, ap, sym, ◌∙◌}
use Rattle.d0_segments.specs.Parts.{SegmentParts}
use Rattle.d0_segments.specs.Pieces.{shared_of}
use Rattle.d0_segments.specs.Inside.{fields_left}
use Rattle.claim_profile.specs.Fields.{untrimmed, values, fields_of}
use Rattle.claim_profile.specs.RulingSeen.{codes_seen, codes_counted}
use Rattle.claim_profile.proofs.CodeCounting.{codes_in_none, codes_in_next}
use Rattle.claim_profile.proofs.answer_values.FoundCodes.of.Goals as goal

pub loop-segment-init : goal.loop-segment-init
loop-segment-init c = ap (λ s. codes_counted s (values untrimmed (codes "FB") (fields_of (codes "21") (shared_of c.args.group.bytes.now)))) c.new-found.ensures

pub loop-segment-preserved : goal.loop-segment-preserved
loop-segment-preserved c =
    let l = c.loop-segment in
    let s = c.in-Some.segment in
    let next : SegmentParts = record { id = s.first ∷ s.second ∷ []; fields = fields_left s.fields.bytes.now } in
    let here = rw (c.id.ensures, c.fields.ensures) at c.count_inside-rest.ensures.values in
    let later = rw c.fields.ensures at c.count_inside-rest.ensures.segments in
    ap (λ ss. codes_counted (codes_seen c.count_inside-rest.new.self) (values untrimmed (codes "FB") (fields_of (codes "21") ss))) (sym later)
    ∙ codes_in_next (codes_seen l.found) (codes_seen c.count_inside-rest.new.self) next (shared_of s.fields.bytes.now) here
    ∙ ap (λ ss. codes_counted (codes_seen l.found) (values untrimmed (codes "FB") (fields_of (codes "21") ss))) (sym c.in-Some.ensures.segments) ∙ l.invariant

pub returns : goal.returns
returns c =
    let l = c.loop-segment in
    sym (codes_in_none (codes_seen l.found)) ∙ ap (λ ss. codes_counted (codes_seen l.found) (values untrimmed (codes "FB") (fields_of (codes "21") ss))) (sym c.in_default.ensures.segments) ∙ l.invariant
