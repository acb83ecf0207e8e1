-- The lines of the first kind of reason of which there is one.
use Rattle.std.proofs.Common.{◌≡◌, ◌≢◌, ℕ, true, false, List, [], ◌∷◌, map, refl, sym, ap, ◌∙◌}
use Rattle.claim_model.specs.Bytes.{bytes_with}
use Rattle.claim_model.specs.Logs.{NodeLog}
use Rattle.claim_model.specs.Settings.{is_empty}
use Rattle.world_setup.specs.Seen.{settings_seen}
use Rattle.world_setup.specs.declared.settings.WorldSettings.{WorldSettings}
use Rattle.log_audit.specs.Sentences.{told_lines}
use Rattle.log_audit.specs.Lacks.{missing_lines}
use Rattle.log_audit.specs.Wrongs.{wrong_lines}
use Rattle.log_audit.specs.Waits.{Progress, waiting_lines, IsWaitingText}
use Rattle.log_audit.specs.Reasons.{or_else, reasons, IsReasons}
use Rattle.log_audit.specs.declared.sentences.Manner.{Manner}
use Rattle.log_audit.proofs.SomeReason.{or_else_is, or_else_first}
use Rattle.world_setup.specs.Taken.{routes_in}

-- logs of which no call was made
abbrev none_made : List NodeLog → List Progress
none_made [] = []
none_made (log ∷ more) = record { log = log; made = 0 } ∷ none_made more

of_these : (logs : List NodeLog) → map (λ (p : Progress). p.log) (none_made logs) ≡ logs
of_these [] = refl
of_these (log ∷ more) = ap (λ (rest : List NodeLog). log ∷ rest) (of_these more)

-- a text is there or not
pub nothing_is_there : (text : List ℕ) → true ≡ is_empty text → text ≡ []
nothing_is_there [] is = refl
nothing_is_there (byte ∷ more) is = cc

pub something_is_there : (text : List ℕ) → false ≡ is_empty text → text ≢ []
something_is_there [] is none = cc
something_is_there (byte ∷ more) is none = cc

pub missing_is_why : (s : WorldSettings) (logs : List NodeLog) (manner : Manner) (text : List ℕ) → text ≡ told_lines manner (missing_lines (settings_seen s) logs) → text ≢ []
    → IsReasons s logs manner text
unfolding reasons
missing_is_why s logs manner text is some = record {
  made = none_made logs;
  of_logs = of_these logs;
  is = or_else_first manner text (missing_lines (settings_seen s) logs) (or_else (wrong_lines (bytes_with (routes_in s)) (settings_seen s) logs) (waiting_lines (bytes_with (routes_in s)) (none_made logs))) is some;
}

pub wrong_is_why : (s : WorldSettings) (logs : List NodeLog) (manner : Manner) (missing text : List ℕ) → missing ≡ told_lines manner (missing_lines (settings_seen s) logs) → missing ≡ []
    → text ≡ told_lines manner (wrong_lines (bytes_with (routes_in s)) (settings_seen s) logs) → text ≢ [] → IsReasons s logs manner text
unfolding reasons
wrong_is_why s logs manner missing text none empty is some =
    let ctx = bytes_with (routes_in s) in
    let waits = waiting_lines ctx (none_made logs) in
    record {
      made = none_made logs;
      of_logs = of_these logs;
      is = or_else_first manner text (wrong_lines ctx (settings_seen s) logs) waits is some
          ∙ ap (told_lines manner) (sym (or_else_is manner missing (missing_lines (settings_seen s) logs) (or_else (wrong_lines ctx (settings_seen s) logs) waits) none empty));
    }

pub waiting_is_why : (s : WorldSettings) (logs : List NodeLog) (manner : Manner) (missing wrong text : List ℕ) → missing ≡ told_lines manner (missing_lines (settings_seen s) logs) → missing ≡ []
    → wrong ≡ told_lines manner (wrong_lines (bytes_with (routes_in s)) (settings_seen s) logs) → wrong ≡ [] → IsWaitingText (bytes_with (routes_in s)) logs manner text
    → IsReasons s logs manner text
unfolding reasons
waiting_is_why s logs manner missing wrong text none empty fits nothing waiting =
    let ctx = bytes_with (routes_in s) in
    let waits = waiting_lines ctx waiting.made in
    record {
      made = waiting.made;
      of_logs = waiting.of_logs;
      is = waiting.is
          ∙ (ap (told_lines manner) (sym (or_else_is manner wrong (wrong_lines ctx (settings_seen s) logs) waits fits nothing))
          ∙ ap (told_lines manner) (sym (or_else_is manner missing (missing_lines (settings_seen s) logs) (or_else (wrong_lines ctx (settings_seen s) logs) waits) none empty)));
    }
