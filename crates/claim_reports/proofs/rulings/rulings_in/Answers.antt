use Rattle.std.proofs.Common.{◌∙◌, [], ap, map, sym}
use Rattle.std.proofs.Math.ListN.{drop_of_length-le}
use Rattle.csv.specs.Records.{fields_of}
use Rattle.claim_reports.specs.Rulings.{read_rows}
use Rattle.claim_reports.specs.RulingsSeen.{read_seen}
use Rattle.claim_reports.proofs.Remittances.{are_rulings}
use Rattle.claim_reports.proofs.rulings.rulings_in.Goals as goal

pub returns-clause-read : goal.returns-clause-read
returns-clause-read c =
    are_rulings c.args.columns.now c.args.asked.now (map fields_of c.args.table.now.records.items) (read_seen c.loop-place.rulings)
    (ap (read_rows c.args.columns.now c.args.asked.now (record { rulings = []; up_to = 0 })) (sym c.rows-record-items.ensures.are)
    ∙ c.loop-place.invariant.read
    ∙ ap (λ rows. read_rows c.args.columns.now c.args.asked.now (read_seen c.loop-place.rulings) (map fields_of rows)) (drop_of_length-le c.rows-record-items.result.now c.loop-place-test.false))
