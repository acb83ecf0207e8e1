-- A part of nothing owns nothing. Assumes `Logic`.
use Rattle.node_handle.proofs.Walking.{◌≡◌, [], ◌∷◌, refl, Fn, Val, SProp, emp, ftrue, fact, fact_i, tables, ‵, raw, ◌⊛◌, ◌$◌, ◌∵◌, !, qed, by, move, drop, use0, split, fjoin, agg, lit, no_more, and_then, returns, enter, alloc_all, pass_all, free_all, look_at, sets, owns, null_ptr, types_at, nothing, alive, Stays, walk_of, Option, None, proved_at, leaves}
use Rattle.node_handle.proofs.PartValues.{part_val, part_own, part_made, part_typed}
use Rattle.node_handle.specs.contracts.hosted_settings.HostedSettings.{the_row as settings_row}
use Rattle.node_handle.specs.contracts.settings_part.SettingsPart.of_nothing.{ended, clauses}
use Rattle.node_handle.specs.contracts.settings_part.SettingsPart.of_nothing.Key.{name as #self}
use Rattle.node_handle.proofs.settings_part.SettingsPart.of_nothing.Statement.{statement}
use Rattle.node_handle.proofs.settings_part.SettingsPart.of_nothing.Code as code

pub of_nothing_spec : {M : Type 1} → statement M
of_nothing_spec 𝓤 𝓛 𝓜 𝓡 wired =
    let H = 𝓛.H in let c = clauses 𝓛 𝓜.mem 𝓡.returns in let fn : Fn = code.function in let stays : Stays ended.signature.params ended.kept = tt in
    let C = (tables 𝓤 H 𝓜 𝓡 𝓡.env).C in let Λ = (tables 𝓤 H 𝓜 𝓡 𝓡.env).Λ in
    proved_at 𝓛 ended stays c 𝓜 𝓡 tt #self fn (code.unfolded 𝓤 H 𝓜 𝓡 wired) (λ z are.
    let Post : Val → SProp 𝓤 = (walk_of 𝓛 ended stays c).post z in let none : Option (settings_row).Denot = None in
    qed 𝓛 ((raw (alive 𝓛 ended.signature z.0.0 z.0.1) ⊛ ‵ (owns (types_at ended.signature.params z.0.0) z.0.3 z.0.4)) ∷ ‵ ftrue ∷ []) ∵ move ! (1 ∷ []) $ drop ! $ split ! $ move ! (1 ∷ []) $ drop ! $
    enter ! C Λ fn [] Post $ alloc_all ! (λ l. pass_all ! refl tt $
    sets ! (agg ! (and_then ! (lit ! tt) (no_more !))) refl (part_typed null_ptr) $
    returns ! (look_at ! 0 refl) $ free_all ! refl $
    use0 𝓛 (raw (fact 𝓤 (none ≡ none))) (fact_i 𝓤 (none ≡ none) (emp 𝓤) refl) $ nothing ! $
    use0 𝓛 (‵ (part_own null_ptr (part_val null_ptr ∷ []))) (part_made 𝓛 null_ptr) $ fjoin ! $ nothing ! $ move ! (3 ∷ 0 ∷ 1 ∷ 2 ∷ []) $
    by ! (leaves 𝓛 ended stays c z (part_val null_ptr) (record { at = null_ptr; settings = none }) tt tt)))
