-- What is counted of a field is what the lists of its values say.
use Rattle.std.proofs.Common.{◌≡◌, ℕ, ◌+◌, ◌<◌, Bool, List, [], ◌∷◌, ◌++◌, length, take, get_or, map, filter, Option, is_none, is_some, ap, sym, ◌∙◌}
use Rattle.std.proofs.lemmas.List.{map-append}
use Rattle.std.proofs.lemmas.List.Elements.{filter-append}
use Rattle.claim_profile.specs.Fields.{required, optional}
use Rattle.claim_profile.specs.Order.{the_text}
use Rattle.claim_profile.specs.OrderSeen.{required_seen, optional_seen}
use Rattle.claim_profile.specs.Tally.{Tally, Absent, tallied}
use Rattle.claim_profile.proofs.Counting.{map-take_at}
use Rattle.claim_profile.proofs.OrderLemmas.{required_counted, optional_counted}
use Rattle.message_parts.specs.declared.causes.Cause.{Cause}
use Rattle.message_parts.specs.declared.names.FieldName.{FieldName}
use Rattle.message_parts.specs.Causes.{CauseSeen, Condition, code_for, condition_seen, counted, holding, unless_required, unless_optional}

pub required_condition : {A : Type 0} (field : FieldName) (test : List ℕ → Option A) (values : List (List ℕ)) (found : Tally) (holds : Bool)
    → found ≡ tallied Absent values → holds ≡ is_none (required_seen test found) → counted holds field found ≡ unless_required (code_for field) field test values
required_condition field test values found holds e h =
    ap (λ b. counted b field found) (h ∙ ap (λ t. is_none (required_seen test t)) e ∙ ap is_none (required_counted test values)) ∙ ap (λ t. counted (is_none (required test values)) field t) e

pub optional_condition : {A : Type 0} (field : FieldName) (absent : A) (test : List ℕ → Option A) (values : List (List ℕ)) (found : Tally) (holds : Bool)
    → found ≡ tallied Absent values → holds ≡ is_none (optional_seen absent test found) → counted holds field found ≡ unless_optional (code_for field) field absent test values
optional_condition field absent test values found holds e h =
    ap (λ b. counted b field found) (h ∙ ap (λ t. is_none (optional_seen absent test t)) e ∙ ap is_none (optional_counted absent test values)) ∙ ap (λ t. counted (is_none (optional absent test values)) field t) e

-- whether the qualifier is the one
pub is_qualifier : (expected : List ℕ) (qualifiers : List (List ℕ)) (found : Tally) → found ≡ tallied Absent qualifiers
    → is_some (required_seen (the_text expected) found) ≡ is_some (required (the_text expected) qualifiers)
is_qualifier expected qualifiers found e = ap (λ t. is_some (required_seen (the_text expected) t)) e ∙ ap is_some (required_counted (the_text expected) qualifiers)

-- one condition more
pub holding_more : (conditions : List (Bool × Cause)) (i : ℕ) (d : Bool × Cause) (found new : List CauseSeen)
    → i < length conditions → found ≡ holding (map condition_seen (take i conditions)) → new ≡ found ++ holding (condition_seen (get_or conditions i d) ∷ [])
    → new ≡ holding (map condition_seen (take (i + 1) conditions))
holding_more conditions i d found new lt before e =
    let front = map condition_seen (take i conditions) in
    let c = condition_seen (get_or conditions i d) in
    e ∙ ap (λ (fs : List CauseSeen). fs ++ holding (c ∷ [])) before
    ∙ sym (ap (map (λ (x : Condition). x.1)) (filter-append (λ (x : Condition). x.0) front (c ∷ []))
    ∙ map-append (λ (x : Condition). x.1) (filter (λ (x : Condition). x.0) front) (filter (λ (x : Condition). x.0) (c ∷ [])))
    ∙ ap holding (sym (map-take_at condition_seen conditions i d lt))
