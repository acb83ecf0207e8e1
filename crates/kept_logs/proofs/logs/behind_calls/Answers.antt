use Rattle.std.proofs.Common.{◌≡◌, List, ℕ, Bor, ◌∙◌, refl, sym, arith}
use Rattle.kept_logs.specs.Digests.{version_seen}
use Rattle.kept_logs.specs.Frames as frame
use Rattle.kept_logs.specs.MetSeen.{frame_seen}
use Rattle.kept_logs.specs.declared.frames.Frame.{Frame}
use Rattle.kept_logs.specs.declared.frames.Frame.TheVariants as framed
use Rattle.kept_logs.proofs.Passing.{one_passed, some_stands, all_passed}
use Rattle.kept_logs.proofs.logs.behind_calls.Goals as goal

-- what is not whole in the code is no record
not_whole : (f : Frame) (found : frame.Frame) → frame_seen f ≡ found → ((body after : Bor (List ℕ)) → f ≡ framed.Whole body after → ⊥) → (body after : List ℕ) → found ≡ frame.Framed body after → ⊥
not_whole (framed.Whole b a) found e none body after is = none b a refl
not_whole framed.CutOff found e none body after is = absurd cc
not_whole framed.Damaged found e none body after is = absurd cc

pub returns-in_default : goal.returns-in_default
returns-in_default c = λ calls torn is room fits within.
    absurd (some_stands (version_seen c.args.version) c.args.records.now c.args.count c.loop-place.place c.loop-place.rest.now c.loop-place.invariant c.loop-place-test.true
    (not_whole c.take_frame.result _ c.take_frame.ensures c.in_default.not-Whole) calls torn is room fits)

pub loop-place-preserved : goal.loop-place-preserved
loop-place-preserved c =
    one_passed (version_seen c.args.version) c.args.records.now c.args.count c.loop-place.place c.loop-place.rest.now c.in-Whole.field-0.now c.in-Whole.after.now c.loop-place.invariant c.loop-place-test.true (sym c.in-Whole.ensures)

pub returns : goal.returns
returns c = λ calls torn is room fits within.
    c.saturating_sub-2.ensures
    ∙ all_passed (version_seen c.args.version) c.args.total c.args.records.now c.args.count c.loop-place.place c.loop-place.rest.now c.loop-place.invariant (omega arith) calls torn is room fits within
