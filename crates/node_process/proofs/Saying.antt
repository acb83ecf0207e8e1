-- What is said is told by calls on the disk.
use Rattle.std.proofs.Common.{◌≡◌, ◌⊎◌, inl, inr, ℕ, List, [], ◌++◌, length, take, refl, sym, ap, ◌∙◌, subst, arith}
use Rattle.claim_model.specs.Logs.{Logged}
use Rattle.world_setup.specs.declared.settings.WorldSettings.{WorldSettings as Settings}
use Rattle.kept_logs.specs.Stamps.{Stamped, bare_calls}
use Rattle.kept_logs.specs.Logs.{kept_text}
use Rattle.kept_logs.specs.Fits.{FitsKept}
use Rattle.kept_logs.specs.Cuts.{calls_within}
use Rattle.kept_logs.proofs.LogsBack.{log_length}
use Rattle.node_service.specs.Serving.{Serving}
use Rattle.node_service.specs.Lines.{lines_calls, lines_kept}
use Rattle.node_service.specs.Opened.{Spells, IsOpened}
use Rattle.settings_digest.specs.Digests.{turned_under}
use Rattle.node_service.proofs.Lines.{bare_append, lines_bare}
use Rattle.node_process.specs.Acts.{Act, found, kept, said}
use Rattle.node_process.specs.Heard.{whole_lines}
use Rattle.node_process.specs.Safe.{IsStartOf, closed_calls, log_of, IsCovered, Whose}
use Rattle.node_process.specs.Histories.{IsToldBy}
use Rattle.node_process.proofs.Bare.{HasKept, bare_take}
use Rattle.node_process.proofs.Fronts.{first_of, start_length}
use Rattle.node_process.proofs.Left.{begins_with}
use Rattle.node_process.proofs.Spoken.{told_by, told_nothing}
use Rattle.node_process.proofs.Texts.{IsMadeText, input_text}

-- what was said is told by calls whose records are on the disk
pub covered_told : (whose : Whose) (digest : List ℕ) (settings : Settings) (acts : List Act) (disk : List ℕ) (start : Serving) (whole : ℕ) (synced : List Stamped) → Spells whose.settings settings → turned_under whose.settings whose.rest (found acts) ≡ digest → (o : IsOpened whose.settings whose.node whose.rest (found acts) whole start)
    → FitsKept (record { node = whose.node; calls = synced }) → HasKept digest whose.node disk synced → length digest ≡ 33 → (kept acts ≡ []) ⊎ (kept acts ≡ disk) → (said acts ≡ []) ⊎ IsCovered (closed_calls whose) start (take whole (found acts)) acts → IsToldBy whose.node (bare_calls synced) (said acts)
covered_told whose digest settings acts disk start whole synced spells second o fits has d keeps (inl silent) = told_nothing whose.node (bare_calls synced) (said acts) silent
covered_told whose digest settings acts disk start whole synced spells second o fits has d keeps (inr c) = by_disk has keeps
  where
    calls : List Stamped
    calls = o.log.calls ++ lines_kept start (whole_lines c.input)

    text : IsMadeText whose digest settings (log_of start (take whole (found acts)) c.input) calls
    text = input_text whose digest settings (found acts) whole start c.input spells second o c.fits

    no_less : (bytes : List ℕ) → kept acts ≡ bytes → bytes ≡ [] → ⊥
    no_less bytes e none =
        let long = log_length digest (record { node = whose.node; calls = calls }) d in
        let a = ap length text.text in
        let b = start_length _ (kept acts) c.logged in
        let n = ap length (e ∙ none) in
        omega (arith, long, a, b, n)

    by_disk : HasKept digest whose.node disk synced → (kept acts ≡ []) ⊎ (kept acts ≡ disk) → IsToldBy whose.node (bare_calls synced) (said acts)
    by_disk has (inl none) = absurd (no_less [] none refl)
    by_disk (inr none) (inr same) = absurd (no_less disk same none.0)
    by_disk (inl is) (inr same) =
        let own = kept_text digest (record { node = whose.node; calls = calls }) in
        let start_of : IsStartOf own (kept_text digest (record { node = whose.node; calls = synced })) = subst (IsStartOf own) (same ∙ is) (subst (λ (x : List ℕ). IsStartOf x (kept acts)) text.text c.logged) in
        let k = calls_within digest (length own) (record { node = whose.node; calls = synced }) in
        let first : calls ≡ take k synced = begins_with digest whose.node calls synced (length own) d text.fits fits refl (first_of own _ start_of) in
        let bare_are : bare_calls calls ≡ bare_calls o.log.calls ++ lines_calls start (whole_lines c.input) =
        bare_append o.log.calls (lines_kept start (whole_lines c.input)) ∙ ap (λ (x : List Logged). bare_calls o.log.calls ++ x) (lines_bare start (whole_lines c.input)) in
        told_by whose.node (closed_calls whose) start c.input (said acts) (bare_calls o.log.calls) (bare_calls synced) k o.silent (sym bare_are ∙ (ap bare_calls first ∙ bare_take k synced)) c.sent
