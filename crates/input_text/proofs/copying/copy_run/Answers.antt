use Rattle.std.proofs.Common.{◌≡◌, ◌+◌, ◌≤◌, ◌++◌, List, ℕ, length, take, ap, ◌∙◌, arith}
use Rattle.std.proofs.lemmas.List.{length-take-le, take-take}
use Rattle.std.proofs.lemmas.Simd.{take_more_put_chunk}
use Rattle.input_text.specs.Printing.{stands_for_itself}
use Rattle.input_text.proofs.Lanes.{run_few, run_plain, copied_run}
use Rattle.input_text.proofs.copying.copy_run.Goals as goal

pub returns-clause-plain : goal.returns-clause-plain
returns-clause-plain c = run_plain stands_for_itself c.args.text.now 16 c.plain_lanes.result c.plain_lanes.ensures (omega arith)

pub returns-clause-within : goal.returns-clause-within
returns-clause-within c = run_few stands_for_itself c.args.text.now 16 c.plain_lanes.result c.plain_lanes.ensures (omega arith)

pub returns-clause-copied : goal.returns-clause-copied
returns-clause-copied c =
    let out = c.args.out.now in
    let text = c.args.text.now in
    let at = c.args.at in
    let run = c.plain_lanes.result in
    let long : length (take 16 text) ≡ 16 = length-take-le 16 text (omega arith) in
    let few : run ≤ 16 = run_few stands_for_itself text 16 run c.plain_lanes.ensures (omega arith) in
    copied_run _ out (take 16 text) at 16 run few (omega arith) (take_more_put_chunk at out (take 16 text) (at + 16) (omega (arith, long)) (omega arith))
    ∙ ap (λ (bs : List ℕ). take at out ++ bs) (take-take run 16 text few)
