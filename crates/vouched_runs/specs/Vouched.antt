-- Calls of pharmacies and payers, each of which takes only what journals and books then say, whoever carried it.
use Rattle.std.specs.Prelude.{◌≡◌, List, [], ◌∷◌}
use Rattle.claim_model.specs.Context.{Context}
use Rattle.claim_model.specs.Laws.{Laws}
use Rattle.claim_model.specs.Node.{Done}
use Rattle.claim_model.specs.World.{World, on_node}
use Rattle.claim_model.specs.Settings.{WorldSettings, Accepts, opening}
use Rattle.claim_model.specs.Carried.{IsVouched}
use Rattle.crash_safety.specs.Explained.{Turn}
use Rattle.vouched_runs.specs.Parties.{Parties, world_of, parties_in}

-- one call after another leads from these parties to those: each is vouched for by what they have then, is accepted, and sends what it says
abbrev pub Leads : Context → Parties → List Turn → Parties → Type 0
Leads ctx p [] q = p ≡ q
Leads ctx p (t ∷ turns) q =
    IsVouched ctx (world_of p) t.logged.call × ((next : World) × (on_node ctx (world_of p) t.node t.logged.call ≡ Done next t.logged.sent) × Leads ctx (parties_in next) turns q)

-- the premises: a reading of bytes that keeps its laws, settings that a world takes, and any such calls from the opening
pub record Vouched (ctx : Context) (settings : WorldSettings) (p : Parties) : Type 0 where
  pub laws : Laws ctx
  pub accepts : Accepts ctx settings
  pub turns : List Turn
  pub leads : Leads ctx (parties_in (opening settings)) turns p

-- this is true of all parties that such calls lead to
abbrev pub AlwaysVouched : (Context → World → Type 0) → Type 0
AlwaysVouched promise = (ctx : Context) (settings : WorldSettings) (p : Parties) → Vouched ctx settings p → promise ctx (world_of p)

-- and between them and all that further ones lead to
abbrev pub VouchedLater : (Context → World → World → Type 0) → Type 0
VouchedLater promise =
    (ctx : Context) (settings : WorldSettings) (p q : Parties) (turns : List Turn) → Vouched ctx settings p → Leads ctx p turns q → promise ctx (world_of p) (world_of q)
