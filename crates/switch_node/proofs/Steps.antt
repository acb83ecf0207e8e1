-- The model's steps, by what was read and found.
use Rattle.std.proofs.Common.{◌≡◌, Bool, true, false, cond, List, ℕ, Option, None, Some, Result, Ok, Err, IfOk, refl, sym, ap, subst, ◌∙◌, bytes_eq}
use Rattle.std.specs.Prelude.{◌≢◌, IsSome}
use Rattle.bin_routes.specs.Table.{RouteMaps}
use Rattle.d0_header.specs.Request.{request_of}
use Rattle.claim_profile.specs.Readable.{readable_header}
use Rattle.claim_profile.proofs.Headers.{readable_is}
use Rattle.claim_profile.specs.Ruling.{AnswerParts, answer_of}
use Rattle.claim_profile.specs.declared.answer_reading.AnswerFault.{AnswerFault}
use Rattle.claim_model.specs.Words.{RequestHeader, Envelope}
use Rattle.claim_model.specs.Context.{Context}
use Rattle.claim_model.specs.Readable.{readable, is_request}
use Rattle.claim_model.specs.declared.refusal.Refusal.TheVariants.{Unreadable, NumberReused}
use Rattle.claim_model.specs.Table.{Slot, Table, slot_of, answer_back, requested, requested_readable, requested_by, requested_again, responded, responded_readable, responded_by}
use Rattle.claim_model.specs.Bytes.{bytes_with, answer_in}
use Rattle.claim_model.proofs.BytesLaws.{readable_alike}

-- a value that was given has what another property says
pub IfOk-map : {T E : Type 0} (r : Result T E) (P Q : T → Type 0) → ((x : T) → P x → Q x) → IfOk r P → IfOk r Q
IfOk-map (Ok x) P Q f h = f x h
IfOk-map (Err e) P Q f h = tt

-- requests

module _ (routes : RouteMaps) (t : Table) (e : Envelope) where
  pub requested-other : is_request e ≡ false → requested (bytes_with routes) t e ≡ Err Unreadable
  unfolding requested
  requested-other other = ap (λ b. cond b (requested_readable (bytes_with routes) t e (readable (bytes_with routes) e.payload)) (Err Unreadable)) other

  pub requested-read : (text : Option RequestHeader) → is_request e ≡ true → readable_header e.payload ≡ text → requested (bytes_with routes) t e ≡ requested_readable (bytes_with routes) t e text
  unfolding requested
  requested-read text is read =
      ap (λ b. cond b (requested_readable (bytes_with routes) t e (readable (bytes_with routes) e.payload)) (Err Unreadable)) is
      ∙ ap (requested_readable (bytes_with routes) t e) (readable_alike routes e.payload ∙ read)

  known-some : (text : Option RequestHeader) → is_request e ≡ true → readable_header e.payload ≡ text → requested (bytes_with routes) t e ≢ Err Unreadable → IsSome (readable_header e.payload)
  known-some None is read h = absurd (h (requested-read None is read))
  known-some (Some header) is read h = subst IsSome (sym read) refl

  known-request : (b : Bool) → is_request e ≡ b → requested (bytes_with routes) t e ≢ Err Unreadable → (is_request e ≡ true) × IsSome (readable_header e.payload)
  known-request false is h = absurd (h (requested-other is))
  known-request true is h = (is, known-some (readable_header e.payload) is refl h)

  -- a request that is not refused as unreadable
  pub request-known : requested (bytes_with routes) t e ≢ Err Unreadable → (is_request e ≡ true) × IsSome (readable_header e.payload)
  request-known h = known-request (is_request e) refl h

module _ (routes : RouteMaps) (t : Table) (e : Envelope) where
  -- what becomes of a readable request hangs on the header at its front
  pub request-header : (is_request e ≡ true) × IsSome (readable_header e.payload) → requested (bytes_with routes) t e ≡ requested_by (bytes_with routes) t e (request_of e.payload) (slot_of e.id t.entries)
  request-header has = requested-read routes t e (Some (request_of e.payload)) has.0 (readable_is e.payload has.1)

-- a known request that has its answer
pub requested-answered : (ctx : Context) (t : Table) (e : Envelope) (h : RequestHeader) (s : Slot) (answer : List ℕ) → bytes_eq s.request e.payload ≡ true → s.answer ≡ Some answer → requested_by ctx t e h (Some s) ≡ Ok (record { table = t; routed = answer_back ctx e.id answer })
requested-answered ctx t e h s answer same came =
    ap (λ b. cond b (Ok (requested_again ctx t e h s.answer)) (Err NumberReused)) same ∙ ap (λ (a : Option (List ℕ)). Ok (requested_again ctx t e h a)) came

-- responses

module _ (routes : RouteMaps) (t : Table) (e : Envelope) where
  pub responded-other : is_request e ≡ true → responded (bytes_with routes) t e ≡ Err Unreadable
  unfolding responded
  responded-other other = ap (λ b. cond b (Err Unreadable) (responded_readable (bytes_with routes) t e (answer_in (answer_of e.payload)))) other

  pub responded-reads : (r : Result AnswerParts AnswerFault) → is_request e ≡ false → answer_of e.payload ≡ r → responded (bytes_with routes) t e ≡ responded_readable (bytes_with routes) t e (answer_in r)
  unfolding responded
  responded-reads r is read =
      ap (λ b. cond b (Err Unreadable) (responded_readable (bytes_with routes) t e (answer_in (answer_of e.payload)))) is
      ∙ ap (λ x. responded_readable (bytes_with routes) t e (answer_in x)) read

module _ (routes : RouteMaps) (t u : Table) (e : Envelope) where
  known-answer : (r : Result AnswerParts AnswerFault) → is_request e ≡ false → answer_of e.payload ≡ r → responded (bytes_with routes) t e ≢ Err Unreadable → responded (bytes_with routes) u e ≡ responded_by (bytes_with routes) u e (slot_of e.id u.entries)
  known-answer (Ok parts) is read h = responded-reads routes u e (Ok parts) is read
  known-answer (Err fault) is read h = absurd (h (responded-reads routes t e (Err fault) is read))

  known-response : (b : Bool) → is_request e ≡ b → responded (bytes_with routes) t e ≢ Err Unreadable → responded (bytes_with routes) u e ≡ responded_by (bytes_with routes) u e (slot_of e.id u.entries)
  known-response true is h = absurd (h (responded-other routes t e is))
  known-response false is h = known-answer (answer_of e.payload) is refl h

  -- a response that is not refused as unreadable has an answer, whatever the table has
  pub response-known : responded (bytes_with routes) t e ≢ Err Unreadable → responded (bytes_with routes) u e ≡ responded_by (bytes_with routes) u e (slot_of e.id u.entries)
  response-known h = known-response (is_request e) refl h
