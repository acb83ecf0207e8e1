-- What the promises hang on: a world that is sound and whose books keep their ledgers. Runs keep it, and so does any one call that is vouched for.
use Rattle.std.proofs.Common.{◌≡◌, List}
use Rattle.claim_model.specs.Context.{Context}
use Rattle.claim_model.specs.Laws.{Laws}
use Rattle.claim_model.specs.Node.{Node, Sent, Call, Done}
use Rattle.claim_model.specs.World.{World, on_node}
use Rattle.claim_model.specs.Settings.{WorldSettings, Accepts, opening}
use Rattle.claim_model.specs.Carried.{IsVouched}
use Rattle.claim_model.specs.Promises.{Reached}
use Rattle.claim_model.proofs.Sound.{Sound, Later}
use Rattle.claim_model.proofs.Runs.{at_node, step_sound, opening_sound, reached_sound}
use Rattle.claim_model.proofs.Books.{Ledgers, step_ledgers, opening_ledgers, reached_ledgers}

pub record Firm (ctx : Context) (given : WorldSettings) (w : World) : Type 0 where
  pub laws : Laws ctx
  pub accepts : Accepts ctx given
  pub sound : Sound ctx given w
  pub ledgers : Ledgers ctx w

pub reached_firm : (ctx : Context) (given : WorldSettings) (w : World) → Reached ctx given w → Firm ctx given w
reached_firm ctx given w r = record { laws = r.laws; accepts = r.accepts; sound = reached_sound ctx given w r; ledgers = reached_ledgers ctx given w r }

pub opening_firm : (ctx : Context) (given : WorldSettings) → Laws ctx → Accepts ctx given → Firm ctx given (opening given)
opening_firm ctx given laws accepts = record { laws = laws; accepts = accepts; sound = opening_sound ctx given; ledgers = opening_ledgers ctx given }

-- a call that is vouched for
pub record Kept_firm (ctx : Context) (given : WorldSettings) (w v : World) : Type 0 where
  pub firm : Firm ctx given v
  pub later : Later ctx w v

pub call_firm : (ctx : Context) (given : WorldSettings) (w v : World) (node : Node) (call : Call) (sent : List Sent) → Firm ctx given w → IsVouched ctx w call → on_node ctx w node call ≡ Done v sent → Kept_firm ctx given w v
call_firm ctx given w v node call sent f vouched e =
    let s = at_node ctx w v node call sent e in
    let k = step_sound ctx given w v call f.laws f.accepts f.sound vouched s in
    record { firm = record { laws = f.laws; accepts = f.accepts; sound = k.sound; ledgers = step_ledgers ctx w v call s f.ledgers }; later = k.later }
