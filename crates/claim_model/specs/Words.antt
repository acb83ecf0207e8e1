-- The words that the model shares with the crates below: ids, orders, rulings, headers, envelopes, plans.
use Rattle.std.specs.Prelude.{ℕ, List}
pub use Rattle.envelope.specs.Txn.{Txn as TxnId}
pub use Rattle.envelope.specs.declared.opening.Kind.{Kind}
pub use Rattle.envelope.specs.declared.opening.Kind.TheVariants.{Request, Answer as Response}
pub use Rattle.envelope.specs.declared.opening.EnvelopeFault.{EnvelopeFault}
pub use Rattle.d0_header.specs.Request.{Request as RequestHeader}
pub use Rattle.d0_header.specs.Response.{Response as ResponseHeader}
pub use Rattle.claim_profile.specs.Authorization.{Authorization as Auth}
pub use Rattle.claim_profile.specs.Money.{Money as Amounts}
pub use Rattle.claim_profile.specs.declared.order.Fill.{Fill}
pub use Rattle.claim_profile.specs.declared.order.Claim.{Claim}
pub use Rattle.claim_profile.specs.declared.order.Reversal.{Reversal}
pub use Rattle.claim_profile.specs.declared.order.Order.{Order}
pub use Rattle.claim_profile.specs.declared.order.Order.TheVariants.{Claim as Bills, Reversal as Reverses}
pub use Rattle.claim_profile.specs.declared.reject.Code.{Code}
pub use Rattle.claim_profile.specs.declared.reject.Code.TheVariants.{Bin as BadBin, NotCovered, DuplicateClaim, ReversalNotProcessed}
pub use Rattle.claim_profile.specs.declared.ruling.Ruling.{Ruling}
pub use Rattle.claim_profile.specs.declared.ruling.Ruling.TheVariants.{Paid, Duplicate, Reversed, Rejected}
pub use Rattle.claim_profile.specs.declared.ruling.HeaderStatus.{HeaderStatus as Status}
pub use Rattle.claim_profile.specs.declared.ruling.HeaderStatus.TheVariants.{Accepted as AcceptedStatus, Rejected as RejectedStatus}
pub use Rattle.bin_routes.specs.Key.{RouteKey}
pub use Rattle.plan_rules.specs.Terms.{Terms as Plan, Change, SetPrice, SetTerms}
pub use Rattle.plan_rules.specs.declared.fault.PlanFault.{PlanFault}

-- an answer that was read: its header and one ruling for each group
pub record Answer : Type 0 where
  pub header : ResponseHeader
  pub rulings : List Ruling

-- what a payer's own system says to a request: its rulings, and the bytes in which they stand
pub record Advice : Type 0 where
  pub rulings : List Ruling
  pub text : List ℕ

-- a numbered packet's content
pub record Envelope : Type 0 where
  pub kind : Kind
  pub id : TxnId
  pub payload : List ℕ
