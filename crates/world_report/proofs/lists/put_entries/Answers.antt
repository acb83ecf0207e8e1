use Rattle.std.proofs.Common.{◌++◌, Bool, true, List, sym, ap, ◌∙◌, subst}
use Rattle.std.specs.List.{flat_map}
use Rattle.pharmacy_journal.specs.Listing.{Listed, listed_from}
use Rattle.pharmacy_journal.specs.Telling.{TellsNext}
use Rattle.world_report.specs.Words.{lines_text}
use Rattle.world_report.specs.Places.{entry_lines}
use Rattle.world_report.proofs.Joining.{block_goes_on}
use Rattle.world_report.proofs.lists.put_entries.Goals as goal

pub entries-preserved : goal.entries-preserved
entries-preserved c =
    let l = c.entries in
    let t = c.next.new.self in
    let told : TellsNext l.teller t true = subst (λ (more : Bool). TellsNext l.teller t more) c.if-branch.true c.in_ok-next.ensures.next in
    record {
      lines = block_goes_on l.out.items c.put_entry.new.out.items _ (entry_lines t.entry) (flat_map entry_lines (listed_from t.number t.left))
          (c.in_ok-put_entry.ensures ∙ ap (λ (e : Listed). l.out.items ++ lines_text (entry_lines e)) c.entry.ensures)
          (sym (ap (λ (es : List Listed). l.out.items ++ lines_text (flat_map entry_lines es)) told.0) ∙ l.invariant.lines);
      same = c.next.ensures.same ∙ l.invariant.same;
    }
