-- The payments of a node, as one list of plain numbers and bytes.
use Rattle.std.specs.Prelude.{◌≡◌, ◌⊎◌, ℕ, List, map, Ok, Err, Option, Some, None}
use Rattle.std.specs.Option.{option_map}
use Rattle.node_logged.specs.Setting.{context_of}
use Rattle.node_service.specs.declared.payments.NodePayment.{NodePayment}
use Rattle.node_service.specs.Payments.{payments_of}
use Rattle.node_service.specs.Serving.{Serving}
use Rattle.node_handle.specs.declared.payments.PlainPayment.{PlainPayment}
use Rattle.node_handle.specs.declared.refusal.Refusal.TheVariants.{OutOfMemory, Closed, ShortBuffer}
use Rattle.node_handle.specs.Saying.{Said}
use Rattle.node_handle.specs.Hosting.{Hosting, Settled}
use Rattle.node_handle.specs.Calls.{Stands, Lacks}

-- a payment by its authorization, its fill, its amounts and the request that reversed it; that is 0 and 0 where none did
abbrev pub plain : NodePayment → PlainPayment
plain p = record {
  serial = p.auth.serial;
  prescription = p.fill.prescription;
  reversed_number = p.reversed_number;
  cost = p.amounts.cost;
  fee = p.amounts.fee;
  copay = p.amounts.copay;
  total = p.amounts.total;
  payer = p.auth.payer;
  reversed_pharmacy = p.reversed_pharmacy;
  bin = p.fill.bin;
  pcn = p.fill.pcn;
  qualifier = p.fill.qualifier;
  provider = p.fill.provider;
  fill_number = p.fill.fill;
}

-- the payments that a pharmacy counts, or those of a payer's book; a switch has none
abbrev pub payments_in : Serving → List PlainPayment
payments_in s = map plain (payments_of (context_of s.settings) s.state)

-- the payments that a node has are copied into a caller's list; else that is as it was
abbrev pub Lists : Option (List PlainPayment) → Said → List PlainPayment → List PlainPayment → ℕ → ℕ → Type 0
Lists given (Ok made) room after before count = (list : List PlainPayment) × ((given ≡ Some list) × Stands list room after count)
Lists given (Err why) room after before count =
    ((why ≡ ShortBuffer) × ((list : List PlainPayment) × ((given ≡ Some list) × Lacks list room after count)))
    ⊎ (((after ≡ room) × (count ≡ before)) × ((why ≡ OutOfMemory) ⊎ ((why ≡ Closed) × (given ≡ None))))

-- so of its payments, where all is on disk
abbrev pub ListsPayments : Option Hosting → Said → List PlainPayment → List PlainPayment → ℕ → ℕ → Type 0
ListsPayments node said room after before count =
    Settled node ((after ≡ room) × (count ≡ before)) (λ s out. Lists (option_map payments_in s) out room after before count) said
