-- What a pharmacy counts is kept by the payer.
use Rattle.std.proofs.Common.{◌≡◌, ℕ, List, Option, Some, None, refl, ap, ◌∙◌}
use Rattle.std.specs.Prelude.{Bool, true, false, nat_eq, option_map, option_and_then}
use Rattle.claim_model.specs.Words.{TxnId, Auth}
use Rattle.claim_model.specs.Context.{Context}
use Rattle.claim_model.specs.Payments.{Payment, payment_of}
use Rattle.claim_model.specs.Rows.{Book, ruled_rows}
use Rattle.claim_model.specs.Numbered.{numbered}
use Rattle.claim_model.specs.Journal.{JournalAtRest, Kept}
use Rattle.claim_model.specs.Counted.{Counted, counted}
use Rattle.claim_model.specs.Node.{Pharmacy}
use Rattle.claim_model.specs.World.{World}
use Rattle.claim_model.specs.Held.{journal_at, book_at, entry_of, held}
use Rattle.claim_model.specs.Promises.{HeldOpen, CountedPaymentsStand}
use Rattle.payer_book.specs.Views.{payment_view}
use Rattle.world_core.specs.Reading.{or_none}
use Rattle.world_core.specs.Headline.{IsOpenReversal, PaidIsKept}
use Rattle.claim_model.proofs.Runs.{no_entries}

-- the journal of an element that `paid` gives
paid_journal : (ctx : Context) (w : World) (k : ℕ) (c : Counted) (o : Option JournalAtRest) → numbered (or_none (option_map (counted ctx) o)) k ≡ Some c
    → (j : JournalAtRest) × (o ≡ Some j) × (numbered (counted ctx j) k ≡ Some c)
paid_journal ctx w k c None e = absurd (no_entries k c e)
paid_journal ctx w k c (Some j) e = (j, refl, e)

-- the payment that a book has
payment_there : (ctx : Context) (auth : Auth) (book : Book) (payment : Payment) (o : Option Book) → o ≡ Some book → payment_of auth (ruled_rows ctx book.rows) ≡ Some payment
    → option_and_then (λ (b : Book). option_map payment_view (payment_of auth (ruled_rows ctx b.rows))) o ≡ Some (payment_view payment)
payment_there ctx auth book payment o is found = ap (option_and_then (λ (b : Book). option_map payment_view (payment_of auth (ruled_rows ctx b.rows)))) is ∙ ap (option_map payment_view) found

entry_there : (w : World) (n : ℕ) (j : JournalAtRest) (id : TxnId) (entry : Kept) → journal_at w n ≡ Some j → id.pharmacy ≡ n → numbered j.entries id.number ≡ Some entry → entry_of w id ≡ Some entry
entry_there w n j id entry there of_it stands =
    ap (option_and_then (λ (j : JournalAtRest). numbered j.entries id.number)) (ap (journal_at w) of_it ∙ there) ∙ stands

no_answer : (b : Bool) (o : Option Kept) (entry : Kept) → o ≡ Some entry → entry.answer ≡ None
    → elim b as (λ _. Option (List ℕ)) [ true ↦ option_and_then (λ (k : Kept). k.answer) o | false ↦ None ] ≡ None
no_answer true o entry is unanswered = ap (option_and_then (λ (k : Kept). k.answer)) is ∙ unanswered
no_answer false o entry is unanswered = refl

held_nothing : (ctx : Context) (w : World) (n : ℕ) (id : TxnId) (entry : Kept) → entry_of w id ≡ Some entry → entry.answer ≡ None → held ctx w (Pharmacy n) id ≡ None
unfolding held
held_nothing ctx w n id entry is unanswered = no_answer (nat_eq n id.pharmacy) (entry_of w id) entry is unanswered

still_open : (ctx : Context) (w : World) (n : ℕ) (j : JournalAtRest) (id : TxnId) → journal_at w n ≡ Some j → HeldOpen ctx n j id → IsOpenReversal ctx w n id
still_open ctx w n j id there h =
    let entry = entry_there w n j id h.entry there h.of_it h.stands in
    record {
      of_it = h.of_it;
      request = h.entry.request;
      submitted = ap (option_map (λ (k : Kept). k.request)) entry;
      header = h.header;
      reads = h.reads;
      is_reversal = h.is_reversal;
      is_open = held_nothing ctx w n id h.entry entry h.is_open;
    }

pub paid_kept : (ctx : Context) (w : World) → CountedPaymentsStand ctx w → PaidIsKept ctx w
paid_kept ctx w all n k c e =
    let j = paid_journal ctx w k c (journal_at w n) e in
    let s = all.counts n j.0 k c j.1 j.2 in
    record {
      payment = payment_view s.payment;
      found = payment_there ctx c.auth s.book s.payment (book_at w c.auth.payer) s.there s.found;
      fill = s.fill;
      amounts = s.amounts;
      reversed = λ id h. still_open ctx w n j.0 id j.1 (s.reversed id h);
    }
