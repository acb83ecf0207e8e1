use Rattle.std.proofs.Common.{◌≡◌, ◌-◌}
use Rattle.message_parts.specs.AtRest.{each_told, row_told, stray_told}
use Rattle.message_parts.specs.Added.{told_with, left_of}
use Rattle.message_parts.proofs.books.cut_rows.Given as goal

-- what was told, and then the rows that are left, are all
abbrev pub invariant-loop : goal.invariant-loop
invariant-loop l = record {
  whole : l.cutter.whole ≡ l.fn.cutter.whole;
  told : told_with l.cutter l.carried.items (each_told row_told (l.count - l.counter) stray_told l.cutter.place (left_of l.cutter))
      ≡ told_with l.fn.cutter l.fn.carried.items (each_told row_told l.count stray_told l.fn.cutter.place (left_of l.fn.cutter));
}
