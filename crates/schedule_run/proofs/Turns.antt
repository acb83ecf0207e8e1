-- What commands are told, one after another.
use Rattle.std.proofs.Common.{◌≡◌, ℕ, suc, ◌+◌, ◌-◌, ◌<◌, ◌≤◌, List, replicate, length, get_or, take, Some, None, arith, [], ◌∷◌, ◌++◌, refl, sym, ap, subst, ◌∙◌, append_assoc, append-nil, Result, Ok, Err, MatchResult, inl, inr}
use Rattle.std.proofs.lemmas.List.{take_more}
use Rattle.std.specs.Io.KnownBytes.{Appends}
use Rattle.std.specs.Prelude.{Option}
use Rattle.claim_model.specs.declared.refusal.Fault.{Fault}
use Rattle.schedule.specs.declared.commands.Command.{Command}
use Rattle.world_report.specs.Words.{Line, line_text, lines_text}
use Rattle.world_report.proofs.JoinedWords.{lines_join, lines_text-append, lines_text-nil, lines_text-one}
use Rattle.program_io.proofs.KnownOutput.{Appends-append}
use Rattle.node_logged.specs.Tills.{Till}
use Rattle.schedule_run.specs.Told.{AreTold, IsCalled, IsRefusal, IsTold, done_line}

-- a call that gives nothing
pub call_told : {U : Type 0} (a b : List ℕ) (ts : List Till) (outcome : Result U Fault) → (line : Line) × (b ≡ a ++ line_text line) × MatchResult outcome (λ _. line ≡ done_line) (λ _. IsRefusal line)
    → (lines : List Line) × (b ≡ a ++ lines_text lines) × IsCalled ts lines ts
call_told a b ts (Ok done) told = (told.0 ∷ [], told.1 ∙ ap (λ (t : List ℕ). a ++ t) (sym (lines_text-one told.0)), ((told.0, refl, inl told.2), refl))
call_told a b ts (Err fault) told = (told.0 ∷ [], told.1 ∙ ap (λ (t : List ℕ). a ++ t) (sym (lines_text-one told.0)), ((told.0, refl, inr told.2), refl))

-- one fault more, of this many
pub faults_go_on : (a b whole : List ℕ) (count i : ℕ) → i < count → b ≡ a ++ line_text done_line → a ++ lines_text (replicate (count - i) done_line) ≡ whole
    → b ++ lines_text (replicate (count - (i + 1)) done_line) ≡ whole
faults_go_on a b whole count i lt one so_far =
    let left : count - i ≡ suc (count - (i + 1)) = omega arith in
    let more = replicate (count - (i + 1)) done_line in
    lines_join a b (b ++ lines_text more) done_line more one refl ∙ (sym (ap (λ (n : ℕ). a ++ lines_text (replicate n done_line)) left) ∙ so_far)

pub faults_are_done : (a whole : List ℕ) (count i : ℕ) → count ≤ i → a ++ lines_text (replicate (count - i) done_line) ≡ whole → a ≡ whole
faults_are_done a whole count i le so_far =
    let none : count - i ≡ 0 = omega arith in
    sym (append-nil a) ∙ (ap (λ (t : List ℕ). a ++ t) (sym lines_text-nil) ∙ (sym (ap (λ (n : ℕ). a ++ lines_text (replicate n done_line)) none) ∙ so_far))

-- one command more
pub told_more : (commands : List Command) (command : Command) (before mid after : List Till) (lines first : List Line) → AreTold commands before lines mid → IsTold command mid first after
    → AreTold (commands ++ (command ∷ [])) before (lines ++ first) after
told_more [] command before mid after lines first none told = (
  first,
  [],
  after,
  ap (λ (ls : List Line). ls ++ first) none.0 ∙ sym (append-nil first),
  subst (λ (ts : List Till). IsTold command ts first after) none.1 told,
  (refl, refl),
)
told_more (c ∷ cs) command before mid after lines first so_far told = (
  so_far.0,
  so_far.1 ++ first,
  so_far.2,
  ap (λ (ls : List Line). ls ++ first) so_far.3 ∙ append_assoc so_far.0 so_far.1 first,
  so_far.4,
  told_more cs command so_far.2 mid after so_far.1 first so_far.5 told,
)

-- no line
pub nothing_written : (known : Option (List ℕ)) → Appends known known (lines_text [])
nothing_written None = tt
nothing_written (Some bytes) = sym (append-nil bytes) ∙ ap (λ (t : List ℕ). bytes ++ t) (sym lines_text-nil)

-- the commands up to a place, and the one there
pub turn_told : (commands : List Command) (i : ℕ) (command : Command) (before mid after : List Till) (lines first : List Line) → i < length commands → command ≡ get_or commands i command
    → AreTold (take i commands) before lines mid → IsTold command mid first after → AreTold (take (i + 1) commands) before (lines ++ first) after
turn_told commands i command before mid after lines first lt is so_far told =
    subst (λ (cs : List Command). AreTold cs before (lines ++ first) after) (sym (take_more commands i command lt ∙ ap (λ (c : Command). take i commands ++ c ∷ []) (sym is)))
    (told_more (take i commands) command before mid after lines first so_far told)

-- lines that were written, and what is written after them
pub written_more : (before mid after : Option (List ℕ)) (lines more : List Line) → Appends before mid (lines_text lines) → Appends mid after (lines_text more)
    → Appends before after (lines_text (lines ++ more))
written_more before mid after lines more one two =
    subst (λ (t : List ℕ). Appends before after t) (sym (lines_text-append lines more)) (Appends-append before mid after (lines_text lines) (lines_text more) one two)
