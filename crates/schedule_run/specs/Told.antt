-- What the commands of a run are told, as lines of words. Which of the stated lines they are hangs on the threads.
use Rattle.std.specs.Prelude.{◌≡◌, ◌⊎◌, ℕ, Bool, true, false, List, [], ◌∷◌, ◌++◌, length, map, replicate, set, slice_get, take, Some, None, IfSome, MatchResult, Result, Ok, Err, codes, decimal}
use Rattle.std.specs.Global.{Vec}
use Rattle.std.specs.List.{AllByRecursion}
use Rattle.claim_model.specs.declared.refusal.Refusal.{Refusal}
use Rattle.claim_model.specs.declared.refusal.Fault.{Fault}
use Rattle.claim_model.specs.Refusal.{refusal_name}
use Rattle.claim_model.specs.Words.{Ruling}
use Rattle.schedule.specs.declared.commands.Command.{Command}
use Rattle.schedule.specs.declared.commands.Command.TheVariants.{Submit, Tick, Plan, Restart, Await}
use Rattle.schedule.specs.Runs.{RunParts}
use Rattle.world_report.specs.Words.{Line, lines_text}
use Rattle.world_report.specs.Adding.{AddsLines}
use Rattle.world_report.specs.Rulings.{ruling_words}
use Rattle.world_report.specs.Places.{place_line, place_lines}
use Rattle.claim_profile.specs.Ruling.{AnswerParts, answer_of}
use Rattle.claim_profile.specs.declared.answer_reading.AnswerFault.{AnswerFault}
use Rattle.claim_profile.specs.declared.answer_reading.AnswerFault.TheVariants.{OutOfMemory, Framing, NoStatus, BadStatus, BadAmount, BadAuthorization, BadRejects, BadClaim}
use Rattle.node_logged.specs.Tills.{Till, answer_heard, has_receipt, with_receipt, with_answer}
use Rattle.schedule_run.specs.Places.{places_asked}

-- a call that was made
abbrev pub done_line : Line
done_line = codes "ok" ∷ []

-- a submission that was taken: the number of its entry
abbrev pub number_line : ℕ → Line
number_line number = codes "number" ∷ decimal number ∷ []

-- what was refused, by the refusal's name
abbrev pub refusal_line : List ℕ → Line
refusal_line name = codes "refused" ∷ name ∷ []

-- the pharmacy of a request, as the first word of a line
abbrev pub pharmacy_word : ℕ → List ℕ
pharmacy_word pharmacy = codes "ph" ++ decimal pharmacy

-- the line of one place of a request, without a ruling and with it
abbrev pub open_line : ℕ → ℕ → ℕ → ℕ → Line
open_line pharmacy number count place = pharmacy_word pharmacy ∷ place_line (decimal number) count place (codes "open") []

abbrev pub settled_line : ℕ → ℕ → ℕ → ℕ → Ruling → Line
settled_line pharmacy number count place ruling =
    pharmacy_word pharmacy ∷ place_line (decimal number) count place (codes "settled") (ruling_words ruling)

-- a line for each place of a request: its number and the place, and the ruling there
abbrev pub settled_lines : ℕ → ℕ → List Ruling → List Line
settled_lines pharmacy number rulings =
    map (λ line. pharmacy_word pharmacy ∷ line) (place_lines (decimal number) (length rulings) (codes "settled") 1 (map ruling_words rulings))

-- a line for each of this many places without a ruling
abbrev pub open_lines : ℕ → ℕ → ℕ → List Line
open_lines pharmacy number places =
    map (λ line. pharmacy_word pharmacy ∷ line) (place_lines (decimal number) places (codes "open") 1 (replicate places []))

-- the refusal of a node
abbrev pub IsRefusal : Line → Type 0
IsRefusal line = (why : Refusal) × (line ≡ refusal_line (refusal_name why))

-- made, or refused
abbrev pub IsOutcome : Line → Type 0
IsOutcome line = (line ≡ done_line) ⊎ IsRefusal line

-- the line of a call: of what it made, or of its refusal
abbrev pub IsLineOf : {A : Type 0} → (A → Line) → Result A Fault → Line → Type 0
IsLineOf told outcome line = MatchResult outcome (λ made. line ≡ told made) (λ _. IsRefusal line)

-- lines come after a text, of which this holds
abbrev pub AddsTold : Vec ℕ → Vec ℕ → (List Line → Type 0) → Type 0
AddsTold old new P = (lines : List Line) × AddsLines old new lines × P lines

-- one line, which refuses
abbrev pub RefusedBy : List Line → Type 0
RefusedBy lines = (line : Line) × (lines ≡ line ∷ []) × IsRefusal line

-- one till of this pharmacy becomes another as stated, and the others stay
abbrev pub TillChanges : ℕ → (Till → Till → Type 0) → List Till → List Till → Type 0
TillChanges pharmacy Change before after =
    (place : ℕ) × (old : Till) × (new : Till) × (slice_get before place ≡ Some old) × (old.pharmacy ≡ pharmacy) × (after ≡ set before place new) × Change old new

-- a submission: refused, or its number is told, and a till of the pharmacy has a receipt of that number and of the request
abbrev pub IsSubmitted : ℕ → List ℕ → List Till → List Line → List Till → Type 0
IsSubmitted pharmacy request before lines after =
    (RefusedBy lines × (after ≡ before))
    ⊎ ((number : ℕ) × (lines ≡ number_line number ∷ []) × TillChanges pharmacy (λ old new. new ≡ with_receipt number request old) before after)

-- the lines of an answer: its rulings; no answer that a journal has is unreadable
abbrev pub answer_lines : ℕ → ℕ → Result AnswerParts AnswerFault → List Line
answer_lines pharmacy number (Ok answer) = settled_lines pharmacy number answer.rulings
answer_lines pharmacy number (Err why) = refusal_line (codes "Unreadable") ∷ []

-- an answer cannot be read for this cause; want of memory is none
abbrev pub is_unreadable : AnswerFault → Bool
is_unreadable OutOfMemory = false
is_unreadable Framing = true
is_unreadable NoStatus = true
is_unreadable BadStatus = true
is_unreadable BadAmount = true
is_unreadable BadAuthorization = true
is_unreadable BadRejects = true
is_unreadable BadClaim = true

-- an answer is told for a number: the one that was heard before, where there is one; the till has heard it then
abbrev pub TellsAnswer : ℕ → List ℕ → Till → Till → Type 0
TellsAnswer number answer old new =
    (has_receipt number old ≡ true) × IfSome (answer_heard number old) (λ before. answer ≡ before) × (new ≡ with_answer number answer old)

-- no answer is told for a number: none was heard before
abbrev pub TellsOpen : ℕ → Till → Till → Type 0
TellsOpen number old new = (has_receipt number old ≡ true) × (answer_heard number old ≡ None) × (new ≡ old)

-- no receipt has this number
abbrev pub TellsNone : ℕ → Till → Till → Type 0
TellsNone number old new = (has_receipt number old ≡ false) × (new ≡ old)

-- what a till tells of a number: the rulings of an answer; or each place of the request as open; or that it has no receipt of that number
abbrev pub Tells : ℕ → ℕ → List Line → Till → Till → Type 0
Tells pharmacy number lines old new =
    ((answer : List ℕ) × (lines ≡ answer_lines pharmacy number (answer_of answer)) × TellsAnswer number answer old new)
    ⊎ (((lines ≡ open_lines pharmacy number (places_asked number old)) × TellsOpen number old new)
    ⊎ ((lines ≡ refusal_line (codes "NotThisTill") ∷ []) × TellsNone number old new))

-- an await: a till of the pharmacy tells, or a refusal, as where the pharmacy is not there
abbrev pub IsAwaited : ℕ → ℕ → List Till → List Line → List Till → Type 0
IsAwaited pharmacy number before lines after = (RefusedBy lines × (after ≡ before)) ⊎ TillChanges pharmacy (Tells pharmacy number lines) before after

-- a call that gives nothing: it was made, or refused; no till changes
abbrev pub IsCalled : List Till → List Line → List Till → Type 0
IsCalled before lines after = ((line : Line) × (lines ≡ line ∷ []) × IsOutcome line) × (after ≡ before)

-- what a command is told, and the tills before it and after it
abbrev pub IsTold : Command → List Till → List Line → List Till → Type 0
IsTold (Submit pharmacy text) before lines after = IsSubmitted pharmacy text before lines after
IsTold (Tick pharmacy) before lines after = IsCalled before lines after
IsTold (Plan payer product price) before lines after = IsCalled before lines after
IsTold (Restart node) before lines after = IsCalled before lines after
IsTold (Await pharmacy number) before lines after = IsAwaited pharmacy number before lines after

-- each command in its turn
abbrev pub AreTold : List Command → List Till → List Line → List Till → Type 0
AreTold [] before lines after = (lines ≡ []) × (after ≡ before)
AreTold (command ∷ more) before lines after =
    (first : List Line) × (rest : List Line) × (mid : List Till) × (lines ≡ first ++ rest) × IsTold command before first mid × AreTold more mid rest after

-- a till without receipts that has heard nothing
abbrev pub IsEmpty : Till → Type 0
IsEmpty till = (till.receipts ≡ []) × (till.heard ≡ [])

-- a line for each fault of a link, and then what the commands are told, by tills that are empty before the first
abbrev pub RunTold : RunParts → List Line → List Till → Type 0
RunTold run lines after =
    (empty : List Till) × (rest : List Line) × AllByRecursion IsEmpty empty × (lines ≡ replicate (length run.faults) done_line ++ rest) × AreTold run.commands empty rest after

-- what was written of commands when the telling stopped: a beginning of the lines that the first of them were told, each in its turn
pub record IsCutOff (commands : List Command) (before : List Till) (written : List ℕ) : Type 0 where
  pub made : ℕ
  pub lines : List Line
  pub after : List Till
  pub told : AreTold (take made commands) before lines after
  pub count : ℕ
  pub is : written ≡ take count (lines_text lines)

-- what was written of a run when the telling stopped: a beginning of the lines of its links' faults and, after them, of its first commands
pub record RunCutOff (run : RunParts) (written : List ℕ) : Type 0 where
  pub made : ℕ
  pub lines : List Line
  pub after : List Till
  pub told : RunTold (record { faults = run.faults; commands = take made run.commands }) lines after
  pub count : ℕ
  pub is : written ≡ take count (lines_text lines)
