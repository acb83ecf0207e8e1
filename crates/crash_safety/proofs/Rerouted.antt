-- What is decided once there are other routes: answers of payers stay, a rejection for want of a route does not.
use Rattle.std.proofs.Common.{◌≡◌, ℕ, List, Option, Some, None, Ok, refl, sym, ap, ◌∙◌}
use Rattle.std.specs.Prelude.{option_and_then}
use Rattle.claim_model.specs.Words.{Advice, TxnId, RequestHeader, Ruling, Answer, RouteKey}
use Rattle.claim_model.specs.Context.{Context}
use Rattle.claim_model.specs.Laws.{Spells, AdvisesWell}
use Rattle.claim_model.specs.Readable.{readable, payer_for, rejection, answer_text, route_key}
use Rattle.claim_model.specs.Rows.{Row, Book}
use Rattle.claim_model.specs.Book.{Answered, row_of, new_row, answered}
use Rattle.claim_model.specs.World.{World}
use Rattle.claim_model.specs.Settings.{WorldSettings}
use Rattle.claim_model.specs.Held.{book_at, asked as submitted_under, row_at, row_answer, decided_by, decided_for, decided}
use Rattle.claim_model.specs.Promises.{Reached}
use Rattle.claim_model.proofs.Options.{same_some}
use Rattle.claim_model.proofs.Decided.{decided_unrouted, rejection_spells, row_spells}
use Rattle.claim_model.proofs.PayerStep.{Rows, Known, New, Ruled_on, answered_ruled, new_row_written}
use Rattle.claim_model.proofs.Held.{book_sound}
use Rattle.claim_model.proofs.Runs.{reached_sound}
use Rattle.crash_safety.specs.Told.{IsAsked, rerouted, bad_bins}

-- ---- routes that grow

-- other routes read the same
pub reads_same : (ctx : Context) (route : ℕ → RouteKey → Option ℕ) (text : List ℕ) → readable (rerouted ctx route) text ≡ readable ctx text
unfolding readable
reads_same ctx route text = refl

decided_by_same : (ctx : Context) (route : ℕ → RouteKey → Option ℕ) (w : World) (id : TxnId) (h : RequestHeader) (payer : ℕ) → decided_by (rerouted ctx route) w id h (Some payer) ≡ decided_by ctx w id h (Some payer)
unfolding readable
decided_by_same ctx route w id h payer = refl

decided_is : (ctx : Context) (w : World) (id : TxnId) (request : List ℕ) (h : RequestHeader) → submitted_under w id ≡ Some request → readable ctx request ≡ Some h → decided ctx w id ≡ decided_by ctx w id h (payer_for ctx id h)
unfolding decided
decided_is ctx w id request h asks reads =
    ap (λ (o : Option (List ℕ)). decided_for ctx w id (option_and_then (readable ctx) o)) asks ∙ ap (decided_for ctx w id) reads

pub answers_outlive : (ctx : Context) (route : ℕ → RouteKey → Option ℕ) (w : World) (id : TxnId) (request a : List ℕ) (h : RequestHeader) (payer : ℕ) → IsAsked ctx w id request h → payer_for ctx id h ≡ Some payer
    → route id.number (route_key h) ≡ Some payer → decided ctx w id ≡ Some a → decided (rerouted ctx route) w id ≡ Some a
answers_outlive ctx route w id request a h payer x old new d =
    let wider = rerouted ctx route in
    decided_is wider w id request h x.submitted (reads_same ctx route request ∙ x.reads)
    ∙ (ap (decided_by wider w id h) new
    ∙ (decided_by_same ctx route w id h payer
    ∙ (sym (ap (decided_by ctx w id h) old)
    ∙ (sym (decided_is ctx w id request h x.submitted x.reads) ∙ d))))

pub rejections_outlive : (ctx : Context) (route : ℕ → RouteKey → Option ℕ) (w : World) (id : TxnId) (request : List ℕ) (h : RequestHeader) → IsAsked ctx w id request h → payer_for ctx id h ≡ None
    → route id.number (route_key h) ≡ None → decided (rerouted ctx route) w id ≡ Some (rejection ctx h)
rejections_outlive ctx route w id request h x old new =
    let wider = rerouted ctx route in
    decided_is wider w id request h x.submitted (reads_same ctx route request ∙ x.reads) ∙ ap (decided_by wider w id h) new

pub rejections_undone : (ctx : Context) (route : ℕ → RouteKey → Option ℕ) (w : World) (id : TxnId) (request : List ℕ) (h : RequestHeader) (payer : ℕ) → IsAsked ctx w id request h → payer_for ctx id h ≡ None
    → route id.number (route_key h) ≡ Some payer → row_at w payer id ≡ None → (decided ctx w id ≡ Some (rejection ctx h)) × (decided (rerouted ctx route) w id ≡ None)
rejections_undone ctx route w id request h payer x old new none =
    let wider = rerouted ctx route in (
      decided_unrouted ctx w id request h x.submitted x.reads old,
      decided_is wider w id request h x.submitted (reads_same ctx route request ∙ x.reads)
          ∙ (ap (decided_by wider w id h) new ∙ ap (λ (o : Option Row). option_and_then (row_answer wider) o) none),
    )

-- two texts with other rulings are other texts
other_rulings : (ctx : Context) (h g : RequestHeader) (rs qs : List Ruling) (x y : List ℕ) → Spells ctx h rs x → Spells ctx g qs y → x ≡ y → rs ≡ qs
other_rulings ctx h g rs qs x y a b e =
    let same : a.answer ≡ b.answer = same_some a.answer b.answer (sym a.reads ∙ (ap ctx.read_answer e ∙ b.reads)) in
    sym a.rulings_are ∙ (ap (λ (z : Answer). z.rulings) same ∙ b.rulings_are)

new_answer : (ctx : Context) (s : WorldSettings) (w : World) (id : TxnId) (request : List ℕ) (h : RequestHeader) (b : Book) (advice : Advice) (a : Answered) → AdvisesWell advice.rulings → Reached ctx s w → readable ctx request ≡ Some h → row_of id b.rows ≡ None → book_at w b.payer ≡ Some b
    → (r : Ruled_on ctx b advice id request a) → Rows ctx b advice id request r.header a → ((new_row ctx b advice id request).rulings ≡ bad_bins h → ⊥) → a.bytes ≡ rejection ctx h → ⊥
new_answer ctx s w id request h b advice a well reached reads none at r (Known row found same book text) other e = let wrong : ◌≡◌ {A = Option Row} None (Some row) = sym none ∙ found in absurd cc
new_answer ctx s w id request h b advice a well reached reads none at r (New fresh fits advised book text) other e =
    let row = new_row ctx b advice id request in
    let sb = book_sound ctx s w b.payer b (reached_sound ctx s w reached) at in
    let written = new_row_written ctx s w b.payer b advice id request r.header well reached.laws reached.accepts sb r.reads fits in
    let spells = row_spells ctx request r.header row reached.laws r.reads written.0 written.1 in
    let fixed = rejection_spells ctx request h reached.laws reads in
    other (other_rulings ctx r.header h row.rulings (bad_bins h) (answer_text ctx r.header row) (rejection ctx h) spells fixed (sym text ∙ e))

pub another_answer : (ctx : Context) (s : WorldSettings) (route : ℕ → RouteKey → Option ℕ) (w : World) (id : TxnId) (request : List ℕ) (h : RequestHeader) (b : Book) (advice : Advice) (a : Answered) → AdvisesWell advice.rulings → Reached (rerouted ctx route) s w
    → IsAsked ctx w id request h → row_of id b.rows ≡ None → book_at w b.payer ≡ Some b → answered (rerouted ctx route) b advice id request ≡ Ok a
    → ((new_row (rerouted ctx route) b advice id request).rulings ≡ bad_bins h → ⊥) → a.bytes ≡ rejection ctx h → ⊥
another_answer ctx s route w id request h b advice a well reached x none at is other e =
    let wider = rerouted ctx route in
    let r = answered_ruled wider b advice id request a is in
    new_answer wider s w id request h b advice a well reached (reads_same ctx route request ∙ x.reads) none at r r.rows other e
