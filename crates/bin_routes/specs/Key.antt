-- What a route may look at.
use Rattle.std.specs.Prelude.{ℕ, List}

-- the four fields of a request's header that its fill has too, so that a fill is routed alike for ever
pub record RouteKey : Type 0 where
  pub bin : List ℕ
  pub pcn : List ℕ
  pub qualifier : List ℕ
  pub provider : List ℕ
