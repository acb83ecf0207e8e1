use Rattle.std.proofs.Common.{Ok, Err, Result}
use Rattle.std.specs.Prelude.{IfOk, IfErr}
use Rattle.std.specs.Global.{Vec}
use Rattle.d0_segments.specs.declared.fault.FramingFault.{FramingFault}
use Rattle.d0_segments.specs.declared.segment.Segment.{Segment}
use Rattle.d0_segments.specs.declared.tail.Tail.{Tail}
use Rattle.d0_segments.specs.Faults.{Fails}
use Rattle.d0_segments.specs.Taking.{fault_in, Takes}
use Rattle.d0_segments.specs.Texts.{segments_text}
use Rattle.d0_segments.specs.Views.{segments_parts}
use Rattle.d0_segments.specs.Separators.{begins_with, ends_group}
use Rattle.d0_segments.specs.Parts.{is_group}
use Rattle.std.proofs.Common.{◌≡◌, true}
use Rattle.d0_segments.proofs.Taken.{entered_group, group_of_segments, fails_along}
use Rattle.d0_segments.proofs.reading.read_group.Goals as goal

is_one : (a : Tail) (r : Result (Vec Segment × Tail) FramingFault) → begins_with 30 a.bytes.now ≡ true → IfOk r (λ x. Takes a (segments_text (segments_parts x.0.items)) x.1) → IfOk r (λ x. ends_group x.1.bytes.now ≡ true)
    → IfOk r (λ x. is_group (segments_parts x.0.items) ≡ true)
is_one a (Ok x) begins t end = group_of_segments a x.1 x.0.items begins t end
is_one a (Err e) begins t end = tt

fails : (a b : Tail) (r : Result (Vec Segment × Tail) FramingFault) → fault_in a ≡ fault_in b → IfErr r (λ e. Fails e (fault_in b)) → IfErr r (λ e. Fails e (fault_in a))
fails a b (Ok x) same f = tt
fails a b (Err e) same f = fails_along e (fault_in a) (fault_in b) same f

pub returns-clause-group : goal.returns-clause-group
returns-clause-group c = is_one c.in_ok-inside.inside c.read_segments.result c.in_ok-inside.ensures.segment c.read_segments.ensures.taken c.read_segments.ensures.ends

pub returns-clause-fault : goal.returns-clause-fault
returns-clause-fault c = fails c.args.from c.in_ok-inside.inside c.read_segments.result (entered_group c.args.from c.in_ok-inside.inside c.in_ok-inside.ensures.taken c.in_ok-inside.ensures.segment) c.read_segments.ensures.fault
