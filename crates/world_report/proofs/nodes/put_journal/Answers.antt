use Rattle.std.proofs.Common.{◌++◌, map}
use Rattle.std.specs.List.{flat_map}
use Rattle.std.proofs.lemmas.Result.{on_ok_weaker}
use Rattle.claim_model.specs.Bytes.{bytes_with}
use Rattle.claim_model.specs.Counted.{counted}
use Rattle.pharmacy_journal.specs.Listing.{listed}
use Rattle.world_report.specs.Rulings.{paid_line}
use Rattle.world_report.specs.Places.{entry_lines}
use Rattle.world_report.proofs.JoinedWords.{lines_join}
use Rattle.world_report.proofs.nodes.put_journal.Goals as goal

pub returns : goal.returns
returns c = λ routes.
    on_ok_weaker c.put_told.result
    (λ last. lines_join c.args.out.now.items c.put_head.new.out.items c.put_told.new.out.items _ (flat_map entry_lines (listed c.args.journal.now) ++ map paid_line (counted (bytes_with routes) c.args.journal.now))
    (rw c.entries-count.ensures at c.in_ok-put_head.ensures) last)
    (c.put_told.ensures routes)
