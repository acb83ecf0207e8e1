-- Changes of rules of retries, each as a row: by which rule a pharmacy went before, and by which it goes then.
use Rattle.std.specs.Prelude.{ℕ, ◌-◌, List, [], ◌∷◌, ◌++◌, slice_get, codes, Option, Some, None}
use Rattle.std.specs.List.{flat_map}
use Rattle.std.specs.Option.{option_map}
use Rattle.claim_model.specs.Journal.{RetryRule, opening_rule}
use Rattle.claim_model.specs.Node.{Switch, Revision, OfPlan, OfRule, OfCap}
use Rattle.schedule.specs.Nodes.{node_text}
use Rattle.table_text.specs.Members.{Row}
use Rattle.world_setup.specs.declared.settings.WorldSettings.{WorldSettings}
use Rattle.log_audit.specs.Changes.{Placed}
use Rattle.log_audit.specs.Following.{rows_of}
use Rattle.log_audit.specs.Kinds.{number_member, text_member, optional_member}

-- the rule of the settings of a pharmacy, where there is such a pharmacy
abbrev pub opening_rule_of : WorldSettings → ℕ → Option RetryRule
opening_rule_of s pharmacy = option_map opening_rule (slice_get s.pharmacies.items (pharmacy - 1))

-- the rule of a change, if it is one of a rule
abbrev pub rule_of : Revision → Option RetryRule
rule_of (OfPlan change) = None
rule_of (OfRule rule) = Some rule
rule_of (OfCap most) = None

-- the names of switches, with a space between them
abbrev pub switch_name : ℕ → List ℕ
switch_name number = node_text (Switch number)

abbrev pub switches_text : List ℕ → List ℕ
switches_text [] = []
switches_text (first ∷ more) = switch_name first ++ flat_map (λ node. 32 ∷ switch_name node) more

-- those of a rule, where it is known
abbrev pub switches_in : Option RetryRule → List ℕ
switches_in None = []
switches_in (Some rule) = switches_text rule.nodes

-- the row of a change of a pharmacy's rule from this, where it is known, to that; its place has this name
unfoldable pub rule_row : List ℕ → ℕ → ℕ → Option RetryRule → RetryRule → Row
rule_row name pharmacy place before after =
    number_member (codes "pharmacy") pharmacy ∷
    number_member name place ∷
    text_member (codes "switches_before") (switches_in before) ∷
    optional_member (codes "again_before") (option_map (λ (r : RetryRule). r.again) before) ∷
    optional_member (codes "tries_before") (option_map (λ (r : RetryRule). r.tries) before) ∷
    text_member (codes "switches_after") (switches_text after.nodes) ∷
    number_member (codes "again_after") after.again ∷
    number_member (codes "tries_after") after.tries ∷ []

-- the row of a change after these, if it is one of a rule
abbrev pub rule_rows : WorldSettings → List ℕ → List Placed → Placed → List Row
rule_rows s name = rows_of rule_of (opening_rule_of s) (rule_row name)

-- the names of the columns
abbrev pub rule_names : List ℕ → List (List ℕ)
rule_names name =
    codes "pharmacy" ∷ name ∷ codes "switches_before" ∷ codes "again_before" ∷ codes "tries_before" ∷ codes "switches_after" ∷ codes "again_after" ∷ codes "tries_after" ∷ []
