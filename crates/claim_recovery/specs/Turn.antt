-- Every switch that a pharmacy lists gets its turn.
use Rattle.std.specs.Prelude.{◌≡◌, ℕ, ◌<◌, ◌≤◌, List, length, Some}
use Rattle.std.specs.List.{AllByRecursion}
use Rattle.claim_model.specs.Words.{TxnId}
use Rattle.claim_model.specs.Context.{Context}
use Rattle.claim_model.specs.Readable.{request_envelope}
use Rattle.claim_model.specs.Numbered.{numbered}
use Rattle.claim_model.specs.Node.{Pharmacy, Switch}
use Rattle.claim_model.specs.World.{World, Event, Submission, Ticking, Delivery, Stopping, Starting, Revising, Adjudication, run}
use Rattle.claim_recovery.specs.Help.{AllDone}

-- a tick of this pharmacy
abbrev pub IsTickOf : ℕ → Event → Type 0
IsTickOf n (Submission m text) = ⊥
IsTickOf n (Ticking m) = m ≡ n
IsTickOf n (Delivery k) = ⊥
IsTickOf n (Stopping node) = ⊥
IsTickOf n (Starting node) = ⊥
IsTickOf n (Revising m change) = ⊥
IsTickOf n (Adjudication k advice) = ⊥

-- after at most this many accepted ticks of its pharmacy, the request of an id was sent to this switch, later than this moment
pub record SentTo (ctx : Context) (w : World) (id : TxnId) (request : List ℕ) (switch ticks : ℕ) : Type 0 where
  pub events : List Event
  pub done : AllDone ctx w events
  pub ticks_alone : AllByRecursion (IsTickOf id.pharmacy) events
  pub few : length events ≤ ticks
  pub packet : ℕ
  pub fresh : length w.packets < packet
  pub stands : numbered (run ctx w events).packets packet ≡ Some (record { from = Pharmacy id.pharmacy; to = Switch switch; bytes = ctx.envelope (request_envelope id request) })
