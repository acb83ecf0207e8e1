-- Billings and reversals are readable: they are short, and their headers are carried.
use Rattle.std.proofs.Common.{◌≡◌, ℕ, ◌≤◌, true, false, ◌&&◌, List, length, nat_lt, Option, Some, None, codes, ap, ◌∙◌, arith, length-append}
use Rattle.std.specs.Prelude.{bytes_eq, is_some}
use Rattle.std.proofs.lemmas.Bool.Decides.{nat_tests}
use Rattle.overpunch.specs.Number.{number_text}
use Rattle.overpunch.specs.Amount.{amount_text}
use Rattle.d0_header.specs.Request.{Request, IsRequest, request_text}
use Rattle.d0_segments.specs.Framing.{request_kind, transmission_of}
use Rattle.claim_profile.specs.declared.transaction.TransactionCode.{TransactionCode}
use Rattle.claim_profile.specs.declared.transaction.TransactionCode.TheVariants.{Billing as Billed, Reversal as Reversed}
use Rattle.claim_profile.specs.Transaction.{code_bytes, transaction_code}
use Rattle.claim_profile.specs.Building.{Billing, IsBilling, billing_parts, billing_text, insurance_segment, billed_segment, submitted_segment, Reversing, IsReversing, reversal_parts, reversal_text, reversed_segment, IsHeader, has_more_digits, is_fill_too_long}
use Rattle.claim_profile.specs.Readable.{is_carried, longest_request, readable_header}
use Rattle.claim_profile.proofs.TransactionLemmas.{coded}
use Rattle.claim_profile.proofs.PlainTexts.{number_fits, amount_fits}
use Rattle.claim_profile.proofs.ReadableLemmas.{framed_text}
use Rattle.claim_profile.proofs.BuiltFrames.{billing_fits, reversal_fits}
use Rattle.claim_profile.proofs.BuiltOrders.{NumbersReadBack, AmountsReadBack, number_read}

-- what d0_header says of the width of a header
abbrev pub HeadersAreWide : Type 0
HeadersAreWide = (h : Request) → IsRequest h → length (request_text h) ≡ 56

number_short : NumbersReadBack → (digits n : ℕ) → 1 ≤ digits → has_more_digits digits n ≡ false → length (number_text n) ≤ digits
number_short numbers digits n some few = (number_fits digits (number_text n) n (number_read numbers digits n some few)).few

text_short : (limit n : ℕ) → nat_lt limit n ≡ false → n ≤ limit
text_short limit n e = grind (arith, nat_tests)

billing_short : HeadersAreWide → NumbersReadBack → AmountsReadBack → (b : Billing) → IsBilling b → length (billing_text b) ≤ longest_request
unfolding billing_text insurance_segment billed_segment submitted_segment
billing_short wide numbers amounts b is =
    let fits = billing_fits b is.sound in
    let header : length (request_text b.header) ≡ 56 = wide b.header is.header.sound in
    let cardholder : length b.cardholder ≤ 20 = text_short 20 (length b.cardholder) fits.cardholder in
    let prescription : length (number_text b.prescription) ≤ 12 = number_short numbers 12 b.prescription (omega arith) fits.prescription in
    let fill : length (number_text b.fill) ≤ 2 = number_short numbers 2 b.fill (omega arith) fits.fill in
    let product : length b.product ≤ 19 = text_short 19 (length b.product) fits.product in
    let quantity : length (number_text b.quantity) ≤ 10 = number_short numbers 10 b.quantity (omega arith) fits.quantity in
    let cost : length (amount_text b.cost) ≤ 8 = (amount_fits (amount_text b.cost) b.cost (amounts b.cost is.cost.amount)).few in
    let fee : length (amount_text b.fee) ≤ 8 = (amount_fits (amount_text b.fee) b.fee (amounts b.fee is.fee.amount)).few in
    simp length-append (omega (arith, header, cardholder, prescription, fill, product, quantity, cost, fee))

reversed_short : HeadersAreWide → NumbersReadBack → (h : Request) (prescription : ℕ) (fill : Option ℕ) (product : List ℕ) → IsRequest h → has_more_digits 12 prescription ≡ false → is_fill_too_long fill ≡ false → nat_lt 19 (length product) ≡ false
    → length (reversal_text (record { header = h; prescription = prescription; fill = fill; product = product })) ≤ longest_request
unfolding reversal_text reversed_segment
reversed_short wide numbers h prescription None product sound few fill_few short =
    let header : length (request_text h) ≡ 56 = wide h sound in
    let number : length (number_text prescription) ≤ 12 = number_short numbers 12 prescription (omega arith) few in
    let text : length product ≤ 19 = text_short 19 (length product) short in
    simp length-append (omega (arith, header, number, text))
reversed_short wide numbers h prescription (Some fill) product sound few fill_few short =
    let header : length (request_text h) ≡ 56 = wide h sound in
    let number : length (number_text prescription) ≤ 12 = number_short numbers 12 prescription (omega arith) few in
    let filled : length (number_text fill) ≤ 2 = number_short numbers 2 fill (omega arith) fill_few in
    let text : length product ≤ 19 = text_short 19 (length product) short in
    simp length-append (omega (arith, header, number, filled, text))

carried : (kind : TransactionCode) (h : Request) → IsHeader (code_bytes kind) h → h.version ≡ codes "D0" → is_carried h ≡ true
carried kind h is version = ap (λ v. bytes_eq v (codes "D0") && is_some (transaction_code h.code)) version ∙ ap is_some (coded h.code kind is.code)

pub billing_readable : HeadersAreWide → NumbersReadBack → AmountsReadBack → (b : Billing) → IsBilling b → transmission_of request_kind (billing_text b) ≡ Some (billing_parts b) → b.header.version ≡ codes "D0"
    → readable_header (billing_text b) ≡ Some b.header
billing_readable wide numbers amounts b is parts version =
    framed_text (billing_text b) (billing_parts b) true (billing_short wide numbers amounts b is) parts (carried Billed b.header is.header version)

pub reversal_readable : HeadersAreWide → NumbersReadBack → (r : Reversing) → IsReversing r → transmission_of request_kind (reversal_text r) ≡ Some (reversal_parts r) → r.header.version ≡ codes "D0"
    → readable_header (reversal_text r) ≡ Some r.header
reversal_readable wide numbers r is parts version =
    let fits = reversal_fits r is.sound in
    framed_text (reversal_text r) (reversal_parts r) true (reversed_short wide numbers r.header r.prescription r.fill r.product is.header.sound fits.prescription fits.fill fits.product) parts
    (carried Reversed r.header is.header version)
