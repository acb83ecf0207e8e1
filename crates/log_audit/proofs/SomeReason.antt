-- Why some reason is told, and what is told of nothing.
use Rattle.std.proofs.Common.{◌≡◌, ◌≢◌, ℕ, Bool, true, false, ◌||◌, cond, List, [], ◌∷◌, ◌++◌, flat_map, refl, sym, ◌∙◌, append-nil}
use Rattle.std.specs.Prelude.{Option, Some, None, is_some}
use Rattle.std.specs.List.{list_any, list_all}
use Rattle.std.proofs.lemmas.Bool.{and_parts}
use Rattle.claim_model.specs.Context.{Context}
use Rattle.claim_model.specs.Logs.{Logged, NodeLog}
use Rattle.claim_model.specs.Settings.{WorldSettings}
use Rattle.log_audit.specs.Sentences.{told_line, told_lines}
use Rattle.log_audit.specs.Lacks.{missing_lines}
use Rattle.log_audit.specs.Wrongs.{wrong_lines}
use Rattle.log_audit.specs.Waits.{Progress, next_of, has_next, next_lines, held_lines, is_held, is_stuck, unordered, waiting_lines}
use Rattle.log_audit.specs.Reasons.{or_else, reasons}
use Rattle.log_audit.specs.declared.sentences.Manner.{Manner}
use Rattle.log_audit.specs.declared.sentences.Manner.TheVariants.{Line, Member}

-- a log with calls left has a line
next_is_told : (ctx : Context) (all : List Progress) (p : Progress) (next : Option Logged) (more : List (List ℕ)) → is_some next ≡ true → next_lines ctx all p next ++ more ≡ [] → ⊥
next_is_told ctx all p None more some none = cc
next_is_told ctx all p (Some r) more some none = cc

none_but : (ctx : Context) (all : List Progress) (p : Progress) (next : Option Logged) (more : List (List ℕ)) → is_some next ≡ false → next_lines ctx all p next ++ more ≡ [] → more ≡ []
none_but ctx all p None more some none = none
none_but ctx all p (Some r) more some none = cc

-- logs of which one has calls left have a line
some_held : (ctx : Context) (all ps : List Progress) → list_any has_next ps ≡ true → flat_map (held_lines ctx all) ps ≡ [] → ⊥
some_held ctx all [] some none = cc
some_held ctx all (p ∷ ps) some none =
    elim (has_next p) as (λ b. has_next p ≡ b → (b || list_any has_next ps) ≡ true → ⊥) [
      | true ↦ λ is _. next_is_told ctx all p (next_of p) (flat_map (held_lines ctx all) ps) is none
      | false ↦ λ is others. some_held ctx all ps others (none_but ctx all p (next_of p) (flat_map (held_lines ctx all) ps) is none)
    ] refl some

stuck_is_told : (ctx : Context) (ps : List Progress) (b : Bool) → is_stuck ps ≡ b → cond b (flat_map (held_lines ctx ps) ps) unordered ≡ [] → ⊥
stuck_is_told ctx ps true is none = some_held ctx ps ps ((and_parts (list_all (is_held ps) ps) (list_any has_next ps) is).1) none
stuck_is_told ctx ps false is none = cc

waiting_is_told : (ctx : Context) (ps : List Progress) → waiting_lines ctx ps ≢ []
unfolding waiting_lines
waiting_is_told ctx ps none = stuck_is_told ctx ps (is_stuck ps) refl none

others_are_told : (first others : List (List ℕ)) → or_else first others ≡ [] → others ≡ []
others_are_told [] others none = none
others_are_told (line ∷ more) others none = cc

pub some_reason : (ctx : Context) (s : WorldSettings) (logs : List NodeLog) (made : List Progress) → reasons ctx s logs made ≢ []
unfolding reasons
some_reason ctx s logs made none =
    waiting_is_told ctx made (others_are_told (wrong_lines ctx s logs) (waiting_lines ctx made)
    (others_are_told (missing_lines s logs) (or_else (wrong_lines ctx s logs) (waiting_lines ctx made)) none))

-- a line is some text
line_is_some : (manner : Manner) (line : List ℕ) → told_line manner line ≢ []
unfolding told_line
line_is_some Line [] none = cc
line_is_some Line (b ∷ line) none = cc
line_is_some Member line none = cc

append_some : (x y : List ℕ) → x ≢ [] → x ++ y ≡ [] → ⊥
append_some [] y some none = some refl
append_some (b ∷ x) y some none = cc

-- no text is told of no lines alone
pub or_else_is : (manner : Manner) (text : List ℕ) (lines others : List (List ℕ)) → text ≡ told_lines manner lines → text ≡ [] → or_else lines others ≡ others
or_else_is manner text [] others is none = refl
or_else_is manner text (line ∷ more) others is none = absurd (append_some (told_line manner line) (told_lines manner more) (line_is_some manner line) (sym is ∙ none))

-- and some text of some lines
pub or_else_first : (manner : Manner) (text : List ℕ) (lines others : List (List ℕ)) → text ≡ told_lines manner lines → text ≢ [] → text ≡ told_lines manner (or_else lines others)
or_else_first manner text [] others is some = absurd (some is)
or_else_first manner text (line ∷ more) others is some = is

-- one line, where there is none but it
pub told_unless : (manner : Manner) (b : Bool) (line : List ℕ) → b ≡ false → told_lines manner (cond b [] (line ∷ [])) ≡ told_line manner line
told_unless manner true line is = cc
told_unless manner false line is = append-nil (told_line manner line)
