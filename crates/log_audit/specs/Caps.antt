-- Changes of caps, each as a row: how many requests a switch had in its table at most before, and how many it has then.
use Rattle.std.specs.Prelude.{ℕ, ◌-◌, List, [], ◌∷◌, slice_get, codes, Option, Some, None}
use Rattle.claim_model.specs.Node.{Revision, OfPlan, OfRule, OfCap}
use Rattle.table_text.specs.Members.{Row}
use Rattle.world_setup.specs.declared.settings.WorldSettings.{WorldSettings}
use Rattle.log_audit.specs.Changes.{Placed}
use Rattle.log_audit.specs.Following.{rows_of}
use Rattle.log_audit.specs.Kinds.{number_member, optional_member}

-- the cap under the settings of a switch, where there is such a switch
abbrev pub opening_cap : WorldSettings → ℕ → Option ℕ
opening_cap s switch = slice_get s.switches.items (switch - 1)

-- the cap of a change, if it is one of a cap
abbrev pub cap_of : Revision → Option ℕ
cap_of (OfPlan change) = None
cap_of (OfRule rule) = None
cap_of (OfCap most) = Some most

-- the row of a change of a switch's cap from this, where it is known, to that; its place has this name
unfoldable pub cap_row : List ℕ → ℕ → ℕ → Option ℕ → ℕ → Row
cap_row name switch place before after =
    number_member (codes "switch") switch ∷
    number_member name place ∷
    optional_member (codes "entries_before") before ∷
    number_member (codes "entries_after") after ∷ []

-- the row of a change after these, if it is one of a cap
abbrev pub cap_rows : WorldSettings → List ℕ → List Placed → Placed → List Row
cap_rows s name = rows_of cap_of (opening_cap s) (cap_row name)

-- the names of the columns
abbrev pub cap_names : List ℕ → List (List ℕ)
cap_names name = codes "switch" ∷ name ∷ codes "entries_before" ∷ codes "entries_after" ∷ []
