-- What is told of a log.
use Rattle.std.specs.Prelude.{◌≡◌, ℕ, List, Result, Ok, Err, codes}
use Rattle.log_growth.specs.declared.over.Gone.{Gone}
use Rattle.log_growth.specs.declared.over.Gone.TheVariants.{Already, Over}
use Rattle.log_growth.specs.declared.over.OverFault.{OverFault}
use Rattle.log_growth.specs.declared.over.OverFault.TheVariants.{OutOfMemory, Log, Refused}
use Rattle.growing_logs.specs.declared.becoming.Stays.{Stays}
use Rattle.growing_logs.specs.declared.becoming.Stays.TheVariants.{Fault, Rerouted}
use Rattle.growing_logs.specs.declared.hints.Hint.{Hint}
use Rattle.growing_logs.specs.Hints.{hint_words}
use Rattle.growing_logs.specs.Texts.{said_text, refused_text, rerouted_text, unread_text}

abbrev pub gone_text : Gone → List ℕ
gone_text (Already node) = said_text node (codes " is under the new settings already")
gone_text (Over node written) = said_text node (codes " goes over")

-- a log whose node is not served from it is told with the node, for a cause in words, and a hint; one that is not read for a cause in words
abbrev pub IsToldFault : OverFault → Hint → List ℕ → Type 0
IsToldFault OutOfMemory hint text = (words : List ℕ) × (text ≡ unread_text words)
IsToldFault (Log fault) hint text = (words : List ℕ) × (text ≡ unread_text words)
IsToldFault (Refused node why) hint text = (words : List ℕ) × (text ≡ refused_text node words (hint_words hint))

abbrev pub IsToldWhy : Stays → Hint → List ℕ → Type 0
IsToldWhy (Fault why) hint text = IsToldFault why hint text
IsToldWhy (Rerouted node entry) hint text = text ≡ rerouted_text node entry

abbrev pub IsTold : Result Gone Stays → Hint → List ℕ → Type 0
IsTold (Ok gone) hint text = text ≡ gone_text gone
IsTold (Err why) hint text = IsToldWhy why hint text
