use Rattle.std.proofs.Common.{◌≡◌, ◌+◌, drop}
use Rattle.message_words.specs.declared.finding_page.FindingPage.{FindingPage}
use Rattle.message_words.specs.AnswerWords.{rulings_said}
use Rattle.message_words.specs.Sayings.{Finds}
use Rattle.message_words.proofs.finding_page.FindingPage.rulings.Given as goal

-- whatever writes the rulings that are left after those before writes all of them
abbrev pub invariant-loop-ruling : goal.invariant-loop-ruling
invariant-loop-ruling l = record {
  left : (n : FindingPage) → Finds (rulings_said l.transaction (drop l.ruling-index l.rulings)) l.self n → Finds (rulings_said 1 l.rulings) l.fn.self n;
  next : l.transaction ≡ l.ruling-index + 1;
}
