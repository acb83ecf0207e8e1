-- What a node holds for an id, by the node.
use Rattle.std.proofs.Common.{◌≡◌, ℕ, Bool, true, false, List, Option, Some, None, sym, ap, ◌∙◌, ne_eqb, eq-eqb}
use Rattle.std.specs.Prelude.{option_and_then}
use Rattle.claim_model.specs.Words.{TxnId}
use Rattle.claim_model.specs.Context.{Context}
use Rattle.claim_model.specs.Numbered.{numbered}
use Rattle.claim_model.specs.Rows.{Book}
use Rattle.claim_model.specs.Book.{row_of}
use Rattle.claim_model.specs.Journal.{JournalAtRest, Kept}
use Rattle.claim_model.specs.Table.{Table}
use Rattle.claim_model.specs.Node.{Pharmacy, Switch, Payer, Power}
use Rattle.claim_model.specs.World.{World}
use Rattle.claim_model.specs.Held.{journal_at, book_at, entry_of, row_answer, held_in_table, held}

pub switch_holds : (ctx : Context) (w : World) (n : ℕ) (id : TxnId) (node : Power Table ℕ) → numbered w.switches n ≡ Some node → held ctx w (Switch n) id ≡ held_in_table id node
unfolding held
switch_holds ctx w n id node there = ap (option_and_then (held_in_table id)) there

pub no_switch_holds : (ctx : Context) (w : World) (n : ℕ) (id : TxnId) → numbered w.switches n ≡ None → held ctx w (Switch n) id ≡ None
unfolding held
no_switch_holds ctx w n id there = ap (option_and_then (held_in_table id)) there

pub payer_holds : (ctx : Context) (w : World) (n : ℕ) (id : TxnId) (b : Book) → book_at w n ≡ Some b → held ctx w (Payer n) id ≡ option_and_then (row_answer ctx) (row_of id b.rows)
unfolding held
payer_holds ctx w n id b there = ap (λ (o : Option Book). option_and_then (row_answer ctx) (option_and_then (λ (b : Book). row_of id b.rows) o)) there

pub no_payer_holds : (ctx : Context) (w : World) (n : ℕ) (id : TxnId) → book_at w n ≡ None → held ctx w (Payer n) id ≡ None
unfolding held
no_payer_holds ctx w n id there = ap (λ (o : Option Book). option_and_then (row_answer ctx) (option_and_then (λ (b : Book). row_of id b.rows) o)) there

abbrev picked : Option Kept → Bool → Option (List ℕ)
picked o b = elim b as (λ _. Option (List ℕ)) [ true ↦ option_and_then (λ (k : Kept). k.answer) o | false ↦ None ]

pub other_holds : (ctx : Context) (w : World) (n : ℕ) (id : TxnId) → (n ≡ id.pharmacy → ⊥) → held ctx w (Pharmacy n) id ≡ None
unfolding held
other_holds ctx w n id other = ap (picked (entry_of w id)) (ne_eqb n id.pharmacy other)

own_holds : (ctx : Context) (w : World) (n : ℕ) (id : TxnId) → n ≡ id.pharmacy → held ctx w (Pharmacy n) id ≡ option_and_then (λ (k : Kept). k.answer) (entry_of w id)
unfolding held
own_holds ctx w n id own = ap (picked (entry_of w id)) (eq-eqb n id.pharmacy own)

abbrev answer_in : TxnId → Option JournalAtRest → Option (List ℕ)
answer_in id o = option_and_then (λ (k : Kept). k.answer) (option_and_then (λ (j : JournalAtRest). numbered j.entries id.number) o)

pub pharmacy_holds : (ctx : Context) (w : World) (n : ℕ) (id : TxnId) (j : JournalAtRest) → n ≡ id.pharmacy → journal_at w n ≡ Some j → held ctx w (Pharmacy n) id ≡ option_and_then (λ k. k.answer) (numbered j.entries id.number)
pharmacy_holds ctx w n id j own there = own_holds ctx w n id own ∙ ap (answer_in id) (ap (journal_at w) (sym own) ∙ there)

pub no_pharmacy_holds : (ctx : Context) (w : World) (n : ℕ) (id : TxnId) → n ≡ id.pharmacy → journal_at w n ≡ None → held ctx w (Pharmacy n) id ≡ None
no_pharmacy_holds ctx w n id own there = own_holds ctx w n id own ∙ ap (answer_in id) (ap (journal_at w) (sym own) ∙ there)
