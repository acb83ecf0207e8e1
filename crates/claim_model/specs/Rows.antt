-- A payer's book, and the list of all that it ruled.
use Rattle.std.specs.Prelude.{ℕ, Bool, List, flat_map}
use Rattle.claim_model.specs.Words.{TxnId, Ruling, Plan}
use Rattle.claim_model.specs.Context.{Context}
use Rattle.claim_model.specs.Ruled.{Ruled, ruled_groups}

-- a decided request: its id, its text, one ruling for each of its groups, and what its answer carries beside these
pub record Row : Type 0 where
  pub id : TxnId
  pub request : List ℕ
  pub rulings : List Ruling
  pub carried : List ℕ

-- the serial of the first payment, how many rows the book may have, whether the payer asks for the verdict on each claim that is to be
-- priced, in place of pricing it by the plan, whether one that does asks about each reversal of a payment too, and whether answers carry what
-- an advice says beside its rulings
pub record BookSettings : Type 0 where
  pub serial : ℕ
  pub cap : ℕ
  pub asks : Bool
  pub reversals : Bool
  pub carries : Bool

-- a book, oldest row first
pub record Book : Type 0 where
  pub payer : ℕ
  pub settings : BookSettings
  pub plan : Plan
  pub rows : List Row

abbrev pub ruled_row : Context → Row → List Ruled
ruled_row ctx row = ruled_groups ctx row.id row.request row.rulings

-- all rulings of some rows, in the order of rows and then of places
abbrev pub ruled_rows : Context → List Row → List Ruled
ruled_rows ctx rows = flat_map (ruled_row ctx) rows
