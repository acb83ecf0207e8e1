-- What was ruled on one group of one request.
use Rattle.std.specs.Prelude.{ℕ, ◌+◌, List, [], ◌∷◌, Result}
use Rattle.claim_model.specs.Words.{TxnId, Order, Code, Ruling}
use Rattle.claim_model.specs.Context.{Context}

-- a group, by its request's id and its place from 1, with its order and what was ruled on it
pub record Ruled : Type 0 where
  pub id : TxnId
  pub place : ℕ
  pub order : Result Order (List Code)
  pub ruling : Ruling

abbrev pub ruled : TxnId → ℕ → Result Order (List Code) → Ruling → Ruled
ruled id place order ruling = record { id = id; place = place; order = order; ruling = ruling }

-- the groups of a request from a place on, each with its ruling
abbrev pub ruled_from : TxnId → ℕ → List (Result Order (List Code)) → List Ruling → List Ruled
ruled_from id place (order ∷ orders) (ruling ∷ rulings) = ruled id place order ruling ∷ ruled_from id (place + 1) orders rulings
ruled_from id place (order ∷ orders) [] = []
ruled_from id place [] rulings = []

-- all groups of a request
abbrev pub ruled_groups : Context → TxnId → List ℕ → List Ruling → List Ruled
ruled_groups ctx id request rulings = ruled_from id 1 (ctx.orders request) rulings
