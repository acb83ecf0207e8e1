-- What a book says to a request.
use Rattle.std.specs.Prelude.{◌≡◌, ℕ, List, Result, Ok, IfOk, IfErr}
use Rattle.bin_routes.specs.Table.{RouteMaps}
use Rattle.claim_model.specs.Words.{Advice, TxnId}
use Rattle.claim_model.specs.Bytes.{bytes_with}
use Rattle.claim_model.specs.declared.refusal.Fault.{Fault}
use Rattle.claim_model.specs.Refusal.{refusal_of, IsRefused}
use Rattle.claim_model.specs.Rows.{Book}
use Rattle.claim_model.specs.Book.{answered, unadvised}
use Rattle.payer_book.specs.declared.book.Reply.{Reply}

-- the answer that the rule gives, kept or new, and the book that it leaves
abbrev pub Answers : RouteMaps → Book → TxnId → List ℕ → Book → Result Reply Fault → Type 0
Answers routes old id request new result = IfOk result (λ reply. answered (bytes_with routes) old unadvised id request ≡ Ok (record { book = new; bytes = reply.bytes.items; kept = reply.kept }))

-- the cause for which the rule refuses it; want of memory says nothing of it
abbrev pub Refuses : {A : Type 0} → RouteMaps → Book → Advice → TxnId → List ℕ → Result A Fault → Type 0
Refuses routes book advice id request result = IfErr result (λ fault. IsRefused (refusal_of fault) (answered (bytes_with routes) book advice id request))
