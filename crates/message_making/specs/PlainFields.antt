-- What plain fields say, as the profile has it.
use Rattle.std.specs.Prelude.{ℕ, pos, ◌==◌, List, codes, Option, Some, None, if◌then◌else◌}
use Rattle.d0_header.specs.Request.{Request}
use Rattle.claim_profile.specs.Building.{Billing, Reversing}
use Rattle.claim_profile.specs.declared.transaction.TransactionCode.TheVariants as kind
use Rattle.claim_profile.specs.Transaction.{code_bytes}
use Rattle.message_making.specs.declared.fields.PlainHeader.{PlainHeader}
use Rattle.message_making.specs.declared.fields.PlainBilling.{PlainBilling}
use Rattle.message_making.specs.declared.fields.PlainReversal.{PlainReversal}
use Rattle.message_making.specs.Texts.{text_in, padded}
use Rattle.message_making.specs.Judged.{no_fill}

-- a header of version D0 with one transaction of this code
unfoldable pub header_said : List ℕ → PlainHeader → Request
header_said code h = record {
  bin = text_in h.bin;
  version = codes "D0";
  code = code;
  pcn = padded 10 (text_in h.pcn);
  count = 1;
  qualifier = padded 2 (text_in h.qualifier);
  provider = padded 15 (text_in h.provider);
  date = text_in h.date;
  vendor = padded 10 (text_in h.vendor);
}

abbrev pub billing_said : PlainBilling → Billing
billing_said b = record {
  header = header_said (code_bytes kind.Billing) b.header;
  cardholder = text_in b.cardholder;
  prescription = b.prescription;
  fill = b.fill_number;
  product = text_in b.product;
  quantity = b.quantity;
  cost = pos b.cost;
  fee = pos b.fee;
}

-- the fill number of a reversal, where it is not left out
abbrev pub fill_said : ℕ → Option ℕ
fill_said fill = if fill == no_fill then None else Some fill

abbrev pub reversal_said : PlainReversal → Reversing
reversal_said r = record {
  header = header_said (code_bytes kind.Reversal) r.header;
  prescription = r.prescription;
  fill = fill_said r.fill_number;
  product = text_in r.product;
}
