-- What the product makes of a framed request.
use Rattle.std.specs.Prelude.{ℕ, ◌+◌, Bool, not, nat_lt, List, [], ◌∷◌, ◌++◌, length, map, slice_index_or}
use Rattle.std.specs.Prelude.{is_some, Result, Ok, Err, codes, if◌then◌else◌}
use Rattle.std.specs.Str.{bytes_eq}
use Rattle.d0_header.specs.Request.{Request}
use Rattle.d0_segments.specs.Parts.{SegmentParts, TransmissionParts}
use Rattle.claim_profile.specs.declared.order.Order.{Order}
use Rattle.claim_profile.specs.declared.order_reading.OrderFault.{OrderFault}
use Rattle.claim_profile.specs.Transaction.{transaction_code}
use Rattle.claim_profile.specs.Order.{order_of}
use Rattle.claim_profile.specs.Readable.{longest_request}
use Rattle.message_parts.specs.declared.findings.Finding.{Finding}
use Rattle.message_parts.specs.declared.findings.Finding.TheVariants as found
use Rattle.message_parts.specs.declared.findings.Uncarried.{Uncarried}
use Rattle.message_parts.specs.declared.findings.Uncarried.TheVariants.{TooLong, OtherVersion, OtherCode}
use Rattle.message_parts.specs.Causes.{CauseSeen, cause_seen, causes_of}

-- one thing that is found: why the request is not carried, a transaction that reads as an order, or a cause for which
-- one is rejected
pub data FindingSeen : Type 0 where
  NotCarried : Uncarried → FindingSeen
  Asks : ℕ → FindingSeen
  Rejected : ℕ → CauseSeen → FindingSeen

-- a finding of the code, without places in memory
abbrev pub finding_seen : Finding → FindingSeen
finding_seen (found.NotCarried why) = NotCarried why
finding_seen (found.Asks transaction) = Asks transaction
finding_seen (found.Rejected transaction cause) = Rejected transaction (cause_seen cause)

abbrev pub findings_seen : List Finding → List FindingSeen
findings_seen findings = map finding_seen findings

-- a reason, where it holds
abbrev pub if_so : Bool → Uncarried → List FindingSeen
if_so holds why = if holds then NotCarried why ∷ [] else []

-- every reason why the product does not carry a framed request
unfoldable pub reasons_of : List ℕ → Request → List FindingSeen
reasons_of bytes h =
    if_so (nat_lt longest_request (length bytes)) TooLong
    ++ if_so (not (bytes_eq h.version (codes "D0"))) OtherVersion
    ++ if_so (not (is_some (transaction_code h.code))) OtherCode

-- of a transaction that it reads as an order, or every cause for which it is rejected
abbrev pub order_or_causes : ℕ → Result Order OrderFault → List CauseSeen → List FindingSeen
order_or_causes transaction (Ok order) causes = Asks transaction ∷ []
order_or_causes transaction (Err fault) causes = map (Rejected transaction) causes

unfoldable pub transaction_findings : Request → (shared : List SegmentParts) → ℕ → List SegmentParts → List FindingSeen
transaction_findings h shared transaction group =
    order_or_causes transaction (order_of h shared group) (causes_of h shared group)

-- of the transaction of this number at a place of a request
abbrev pub findings_in : TransmissionParts Request → ℕ → ℕ → List FindingSeen
findings_in t transaction place = transaction_findings t.header t.shared transaction (slice_index_or t.groups place [])

-- of transactions that are numbered from here on
unfoldable pub order_findings : Request → (shared : List SegmentParts) → ℕ → List (List SegmentParts) → List FindingSeen
order_findings h shared transaction [] = []
order_findings h shared transaction (group ∷ groups) =
    transaction_findings h shared transaction group ++ order_findings h shared (transaction + 1) groups

-- the reasons, or the findings of the transactions where there is none
abbrev pub or_transactions : List FindingSeen → List FindingSeen → List FindingSeen
or_transactions [] transactions = transactions
or_transactions (reason ∷ reasons) transactions = reason ∷ reasons

-- what is found of a framed request: every reason why it is not carried; else of each transaction that it reads as an
-- order, or its causes
unfoldable pub request_findings : List ℕ → TransmissionParts Request → List FindingSeen
request_findings bytes t = or_transactions (reasons_of bytes t.header) (order_findings t.header t.shared 1 t.groups)
