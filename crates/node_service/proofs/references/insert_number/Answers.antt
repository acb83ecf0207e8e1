-- A new name stands last.
use Rattle.std.proofs.Common.{ℕ, List, ◌++◌, ◌∷◌, [], sym, ap, ◌∙◌, subst}
use Rattle.std.specs.Map.{lookup}
use Rattle.std.specs.Global.{Vec}
use Rattle.indexmap.proofs.CallerLemmas.{insert_entry-new}
use Rattle.node_service.specs.Numbers.{HasNumbers, is_name}
use Rattle.node_service.proofs.Numbers.{added_new}
use Rattle.node_service.proofs.references.insert_number.Goals as goal

pub returns-clause-noted : goal.returns-clause-noted
returns-clause-noted c = λ list has.
    let entries = c.args.numbers.now.entries in
    let same = c.in_ok-name.ensures.items ∙ c.name.ensures in
    let absent = ap (λ (name : List ℕ). lookup (is_name name) entries) same ∙ c.requires in
    subst (λ (es : List (Vec ℕ × ℕ)). HasNumbers (list ++ c.args.one.now ∷ []) es)
    (sym (c.in_ok-insert.ensures.entries ∙ (insert_entry-new _ c.args.numbers.now c.in_ok-name.name c.number.result absent ∙ ap (λ n. entries ++ (c.in_ok-name.name, n) ∷ []) c.number.ensures)))
    (added_new list entries c.in_ok-name.name c.args.one.now same has)
