-- What speaks against tills, in the order in which it is looked for.
use Rattle.std.specs.Prelude.{ℕ, List, cond, Option, Some, None}
use Rattle.std.specs.List.{list_all}
use Rattle.node_logged.specs.Tills.{Till}
use Rattle.node_logged.specs.Ledgers.{Ledger, lacking, has_receipts, has_answers}
use Rattle.node_logged.specs.declared.judging.objection.Objection.{Objection}
use Rattle.node_logged.specs.declared.judging.objection.Objection.TheVariants.{TillMissing, ReceiptMissing, HeardDiffers}

-- where as many receipts are there as entries
abbrev pub objection_to : List Till → List Ledger → Option Objection
objection_to tills ledgers = cond (list_all (has_receipts tills) ledgers) (cond (list_all (has_answers tills) ledgers) None (Some HeardDiffers)) (Some ReceiptMissing)

abbrev pub objection_by : Option ℕ → List Till → List Ledger → Option Objection
objection_by None tills ledgers = objection_to tills ledgers
objection_by (Some pharmacy) tills ledgers = Some (TillMissing pharmacy)

-- the first objection
abbrev pub first_objection : List Till → List Ledger → Option Objection
first_objection tills ledgers = objection_by (lacking tills ledgers) tills ledgers
