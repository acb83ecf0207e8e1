-- Logs whose numbers are numbers of a machine.
use Rattle.std.specs.Prelude.{◌≡◌, ℕ, ◌<◌, ◌^◌, true, length}
use Rattle.std.specs.List.{AllByRecursion}
use Rattle.claim_model.specs.Node.{Node, Pharmacy, Switch, Payer}
use Rattle.kept_logs.specs.Records.{logged_codec}
use Rattle.kept_logs.specs.Stamps.{Stamped, KeptLog, stamp_codec, stamped_text}
use Rattle.kept_logs.specs.Frames.{is_size}

abbrev pub number_of : Node → ℕ
number_of (Pharmacy number) = number
number_of (Switch number) = number
number_of (Payer number) = number

-- a node's number has two bytes
abbrev pub FitsNode : Node → Type 0
FitsNode node = number_of node < 2 ^ 16

-- a record's numbers
pub record FitsStamped (r : Stamped) : Type 0 where
  pub logged : logged_codec.Fits r.logged
  pub stamp : stamp_codec.Fits r.stamp
  pub body : is_size (length (stamped_text r)) ≡ true

-- a log's numbers: each node's has two bytes, each price, fee and copay four, each length and each time eight, and no body of a record has more than it may
pub record FitsKept (log : KeptLog) : Type 0 where
  pub node : FitsNode log.node
  pub calls : AllByRecursion FitsStamped log.calls
