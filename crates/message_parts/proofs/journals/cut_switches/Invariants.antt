use Rattle.std.proofs.Common.{◌≡◌, ◌-◌, List}
use Rattle.message_parts.specs.declared.dissecting.Carried.{Carried}
use Rattle.message_parts.specs.AtRest.{Telling, each_told, switch_told}
use Rattle.message_parts.specs.Added.{told_with, left_of}
use Rattle.message_parts.proofs.journals.cut_switches.Given as goal

-- what was told, and then the switches that are left and what stands after them, are all
abbrev pub invariant-loop : goal.invariant-loop
invariant-loop l = record {
  whole : l.cutter.whole ≡ l.fn.cutter.whole;
  told : (carried : List Carried) (behind : Telling) → told_with l.cutter carried (each_told switch_told (l.count - l.counter) behind l.cutter.place (left_of l.cutter))
      ≡ told_with l.fn.cutter carried (each_told switch_told l.count behind l.fn.cutter.place (left_of l.fn.cutter));
}
