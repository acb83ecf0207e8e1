-- The names of columns that reports read.
use Rattle.std.specs.Prelude.{ℕ, List, codes}
use Rattle.claim_reports.specs.declared.naming.Name.{Name}
use Rattle.claim_reports.specs.declared.naming.Name.TheVariants as name

abbrev pub name_text : Name → List ℕ
name_text name.Answer = codes "answer"
name_text name.Authorization = codes "authorization"
name_text name.Bytes = codes "bytes"
name_text name.Carries = codes "carries"
name_text name.CopayCents = codes "copay_cents"
name_text name.CostCents = codes "cost_cents"
name_text name.DateOfService = codes "date_of_service"
name_text name.FeeCents = codes "fee_cents"
name_text name.Fill = codes "fill"
name_text name.Node = codes "node"
name_text name.Number = codes "number"
name_text name.PaidCents = codes "paid_cents"
name_text name.Payer = codes "payer"
name_text name.Pharmacy = codes "pharmacy"
name_text name.Prescription = codes "prescription"
name_text name.ReversedBy = codes "reversed_by"
name_text name.RuledAt = codes "ruled_at"
name_text name.RuledOn = codes "ruled_on"
name_text name.Ruling = codes "ruling"
name_text name.State = codes "state"
name_text name.Time = codes "time"
name_text name.To = codes "to"
name_text name.Transaction = codes "transaction"
