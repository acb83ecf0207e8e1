-- What is told of a payment is what the model knows of it.
use Rattle.std.proofs.Common.{◌≡◌, Bool, true, false, cond, List, [], ◌∷◌, map, Option, Some, None, refl, ap, ◌∙◌}
use Rattle.std.specs.Prelude.{find, option_map}
use Rattle.claim_model.specs.Words.{TxnId, Auth}
use Rattle.claim_model.specs.Payments as model
use Rattle.claim_model.specs.Payments.{same_auth, payment_of}
use Rattle.claim_model.specs.Ruled.{Ruled}
use Rattle.payer_book.specs.declared.book.payment.Payment.{Payment}
use Rattle.payer_book.specs.Ledger.{Ledger, auth_of, payment_with}
use Rattle.payer_book.specs.Books.{kept_by, kept, Keeps}
use Rattle.payer_book.specs.Views.{payment_view, view_of}

pub auth_kept : (p : model.Payment) (o : Option TxnId) → auth_of (kept_by p o) ≡ p.auth
auth_kept p None = refl
auth_kept p (Some id) = refl

view_kept : (p : model.Payment) (o : Option TxnId) → view_of (kept_by p o) ≡ record { fill = p.claim.fill; amounts = p.amounts; reversed_by = o }
view_kept p None = refl
view_kept p (Some id) = refl

told : (auth : Auth) (ps : List model.Payment) → option_map view_of (payment_with auth (map kept ps)) ≡ option_map payment_view (find (λ (p : model.Payment). same_auth p.auth auth) ps)
told auth [] = refl
told auth (p ∷ ps) =
    ap (λ (a : Auth). option_map view_of (cond (same_auth a auth) (Some (kept p)) (payment_with auth (map kept ps)))) (auth_kept p p.reversed_by) ∙ by_test (same_auth p.auth auth) (told auth ps)
  where
    by_test : (b : Bool) → option_map view_of (payment_with auth (map kept ps)) ≡ option_map payment_view (find (λ (q : model.Payment). same_auth q.auth auth) ps)
        → option_map view_of (cond b (Some (kept p)) (payment_with auth (map kept ps))) ≡ option_map payment_view (cond b (Some p) (find (λ (q : model.Payment). same_auth q.auth auth) ps))
    by_test true h = ap (λ v. Some v) (view_kept p p.reversed_by)
    by_test false h = h

pub payment_told : (auth : Auth) (rs : List Ruled) (l : Ledger) → Keeps rs l → option_map view_of (payment_with auth l.payments) ≡ option_map payment_view (payment_of auth rs)
payment_told auth rs l k = ap (λ (ps : List Payment). option_map view_of (payment_with auth ps)) k.payments ∙ told auth (model.payments rs)
