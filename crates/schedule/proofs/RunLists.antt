-- How the faults and commands of lines are those of the first line and of the rest.
use Rattle.std.proofs.Common.{◌≡◌, ℕ, false, List, [], ◌∷◌, ◌++◌, Option, Some, None, Result, Ok, Err, refl, sym, ap, ◌∙◌, append-nil}
use Rattle.input_text.specs.Lines.{is_skipped}
use Rattle.world_setup.specs.declared.link.LinkFault.{LinkFault}
use Rattle.schedule.specs.declared.commands.Command.{Command}
use Rattle.schedule.specs.Commands.{command_of}
use Rattle.schedule.specs.Faults.{fault_of}
use Rattle.schedule.specs.Reading.{NumberedLine, told_lines, spelled_in}
use Rattle.schedule.specs.Runs.{RunParts, with_faults, begun_by, run_in, front_fault}
use Rattle.schedule.proofs.EventLists.{joined, joined-nil, joined-step, line_taken, line_bad}

-- more faults before those of a run
abbrev pub more_faults : List LinkFault → Result RunParts ℕ → Result RunParts ℕ
more_faults faults (Ok run) = Ok (record { faults = faults ++ run.faults; commands = run.commands })
more_faults faults (Err number) = Err number

-- what was read so far, and then what the rest spells: faults may come as long as there is no command
abbrev pub going : List LinkFault → List Command → List NumberedLine → Result RunParts ℕ
going faults [] rest = more_faults faults (run_in rest)
going faults (c ∷ cs) rest = with_faults faults (joined (c ∷ cs) (spelled_in command_of rest))

more-with : (faults front : List LinkFault) (r : Result (List Command) ℕ) → more_faults faults (with_faults front r) ≡ with_faults (faults ++ front) r
more-with faults front (Ok commands) = refl
more-with faults front (Err number) = refl

-- from the first line that spells no fault on, there are commands alone
no_fault_first : (l : NumberedLine) (rest : List NumberedLine) → fault_of l.1 ≡ None → run_in (l ∷ rest) ≡ with_faults [] (spelled_in command_of (l ∷ rest))
no_fault_first l rest none = ap (λ (o : Option LinkFault). begun_by o (run_in rest) (spelled_in command_of (l ∷ rest))) none

going_commands : (faults : List LinkFault) (commands : List Command) (l : NumberedLine) (rest : List NumberedLine) → front_fault commands l.1 ≡ None
    → going faults commands (l ∷ rest) ≡ with_faults faults (joined commands (spelled_in command_of (l ∷ rest)))
going_commands faults [] l rest none =
    ap (more_faults faults) (no_fault_first l rest none) ∙ (more-with faults [] (spelled_in command_of (l ∷ rest))
    ∙ (ap (λ (fs : List LinkFault). with_faults fs (spelled_in command_of (l ∷ rest))) (append-nil faults) ∙ ap (with_faults faults) (sym (joined-nil (spelled_in command_of (l ∷ rest))))))
going_commands faults (c ∷ cs) l rest none = refl

-- commands that were read, one at least
going_some : (faults : List LinkFault) (commands : List Command) (c : Command) (rest : List NumberedLine)
    → with_faults faults (joined (commands ++ c ∷ []) (spelled_in command_of rest)) ≡ going faults (commands ++ c ∷ []) rest
going_some faults [] c rest = refl
going_some faults (d ∷ ds) c rest = refl

told_first : (l : NumberedLine) (rest : List NumberedLine) → is_skipped l.1 ≡ false → told_lines (l ∷ rest) ≡ l ∷ told_lines rest
told_first l rest told = rw told refl

pub command_taken : (faults : List LinkFault) (commands : List Command) (l : NumberedLine) (rest : List NumberedLine) (c : Command) → is_skipped l.1 ≡ false
    → front_fault commands l.1 ≡ None → command_of l.1 ≡ Some c → going faults commands (told_lines (l ∷ rest)) ≡ going faults (commands ++ c ∷ []) (told_lines rest)
command_taken faults commands l rest c told none is =
    ap (going faults commands) (told_first l rest told)
    ∙ (going_commands faults commands l (told_lines rest) none
    ∙ (ap (λ (lines : List NumberedLine). with_faults faults (joined commands (spelled_in command_of lines))) (sym (told_first l rest told))
    ∙ (ap (λ (r : Result (List Command) ℕ). with_faults faults (joined commands r)) (line_taken command_of l rest c told is)
    ∙ (ap (with_faults faults) (joined-step commands c (spelled_in command_of (told_lines rest))) ∙ going_some faults commands c (told_lines rest)))))

pub neither_taken : (faults : List LinkFault) (commands : List Command) (l : NumberedLine) (rest : List NumberedLine) → is_skipped l.1 ≡ false
    → front_fault commands l.1 ≡ None → command_of l.1 ≡ None → going faults commands (told_lines (l ∷ rest)) ≡ Err l.0
neither_taken faults commands l rest told none is =
    ap (going faults commands) (told_first l rest told)
    ∙ (going_commands faults commands l (told_lines rest) none
    ∙ (ap (λ (lines : List NumberedLine). with_faults faults (joined commands (spelled_in command_of lines))) (sym (told_first l rest told))
    ∙ ap (λ (r : Result (List Command) ℕ). with_faults faults (joined commands r)) (line_bad command_of l rest told is)))

pub none_left : (faults : List LinkFault) (commands : List Command) → going faults commands (told_lines []) ≡ Ok (record { faults = faults; commands = commands })
unfolding spelled_in
none_left faults [] = ap (λ (fs : List LinkFault). Ok (record { faults = fs; commands = [] })) (append-nil faults)
none_left faults (c ∷ cs) = ap (λ (ds : List Command). Ok (record { faults = faults; commands = ds })) (append-nil (c ∷ cs))
