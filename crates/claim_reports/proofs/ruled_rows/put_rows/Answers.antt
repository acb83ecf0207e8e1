use Rattle.csv.specs.Records.{Row, fields_of}
use Rattle.claim_reports.proofs.Lines.{lines_more, lines_end}
use Rattle.claim_reports.proofs.ruled_rows.put_rows.Goals as goal

pub loop-place-preserved : goal.loop-place-preserved
loop-place-preserved c =
    lines_more {A = Row} fields_of c.args.rows.now c.args.times.now c.loop-place.place _ c.args.out.now.items c.loop-place.out.items c.put_ruled.new.out.items c.loop-place-test.true
    (rw (c.index-rows-place.is, c.time_at.ensures) at c.in_ok-put_ruled.ensures.adds) c.loop-place.invariant

pub returns-clause-adds : goal.returns-clause-adds
returns-clause-adds c =
    lines_end {A = Row} fields_of c.args.rows.now c.args.times.now c.loop-place.place c.args.out.now.items c.loop-place.out.items c.loop-place-test.false c.loop-place.invariant
