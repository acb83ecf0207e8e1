-- The parties of a world by themselves: they say what the world says, and hold what it holds.
use Rattle.claim_model.specs.Context.{Context}
use Rattle.claim_model.specs.Node.{Call, Submit, Tick, Take, Stop, Start, Revise, Adjudicate}
use Rattle.claim_model.specs.World.{World}
use Rattle.claim_model.specs.Settings.{WorldSettings}
use Rattle.claim_model.specs.Held.{journal_in, book_in}
use Rattle.claim_model.specs.Carried.{IsVouched}
use Rattle.claim_model.proofs.Sound.{Sound, Later, later_from, journal_later, book_later, carries_later}
use Rattle.claim_model.proofs.Runs.{no_entries}
use Rattle.claim_model.proofs.Firm.{Firm}
use Rattle.vouched_runs.specs.Parties.{world_of, parties_in}

pub apart_later : (ctx : Context) (w : World) → Later ctx w (world_of (parties_in w))
apart_later ctx w = later_from ctx w (world_of (parties_in w)) (λ id r h. h) (λ id n row h. h)

-- what was vouched for is so later
pub vouched_later : (ctx : Context) (w v : World) (call : Call) → Later ctx w v → IsVouched ctx w call → IsVouched ctx v call
vouched_later ctx w v (Submit text) l x = x
vouched_later ctx w v Tick l x = x
vouched_later ctx w v (Take from bytes) l x = carries_later ctx w v l bytes x
vouched_later ctx w v Stop l x = x
vouched_later ctx w v Start l x = x
vouched_later ctx w v (Revise revision) l x = x
vouched_later ctx w v (Adjudicate from bytes advice) l x = carries_later ctx w v l bytes x

sound_apart : (ctx : Context) (given : WorldSettings) (w : World) → Sound ctx given w → Sound ctx given (world_of (parties_in w))
sound_apart ctx given w x =
    let v : World = world_of (parties_in w) in
    let l : Later ctx w v = apart_later ctx w in
    record {
      pharmacies = λ n s h. journal_later ctx given w v l n (journal_in s) (x.pharmacies n s h);
      switches = λ n s h. absurd (no_entries n s h);
      payers = λ n s h. book_later ctx given w v l n (book_in s) (x.payers n s h);
      packets = tt;
    }

pub firm_apart : (ctx : Context) (given : WorldSettings) (w : World) → Firm ctx given w → Firm ctx given (world_of (parties_in w))
firm_apart ctx given w f = record { laws = f.laws; accepts = f.accepts; sound = sound_apart ctx given w f.sound; ledgers = f.ledgers }
