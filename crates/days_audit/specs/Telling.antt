-- What is said of logs of days.
use Rattle.std.specs.Prelude.{ℕ, List, ◌++◌, codes, decimal}
use Rattle.days_audit.specs.declared.days.Days.{Days}
use Rattle.days_audit.specs.declared.days.Days.TheVariants.{Legal, Not}

-- the line on legal days
unfoldable pub legal_text : ℕ → List ℕ
legal_text calls = codes "legal days of " ++ (decimal calls ++ codes " calls\n")

-- the line on logs of no days, and the lines that say why
unfoldable pub not_text : List ℕ → List ℕ
not_text lines = codes "no legal days\n" ++ lines

abbrev pub days_text : Days → List ℕ
days_text (Legal calls) = legal_text calls
days_text (Not lines) = not_text lines.items
