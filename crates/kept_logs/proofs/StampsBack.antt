-- The body of a record that was put is read as that record.
use Rattle.std.proofs.Common.{◌≡◌, ℕ, ◌==◌, Bool, true, false, cond, List, [], ◌∷◌, ◌++◌, length, Some, None, refl, ap, ◌∙◌, sym, arith}
use Rattle.std.proofs.lemmas.Bool.{and_parts}
use Rattle.std.proofs.lemmas.Bool.Decides.{nat_tests}
use Rattle.claim_model.specs.Node.{Call, Submit, Tick, Take, Stop, Start, Revise, OfPlan, OfRule, OfCap, Adjudicate}
use Rattle.claim_model.specs.Words.{SetPrice, SetTerms}
use Rattle.claim_model.specs.Logs.{Logged}
use Rattle.codec.specs.Fields.{u8_at}
use Rattle.codec.specs.Codecs.{u64, counted, whole}
use Rattle.codec.proofs.CodecLaws.{whole_back}
use Rattle.kept_logs.specs.Calls.{call_spelled, call_codec}
use Rattle.kept_logs.specs.Records.{sent_codec, logged_codec}
use Rattle.kept_logs.specs.Stamps.{Stamp, Stamped, no_stamp, is_plain, stamp_codec, stamped_text, with_stamp, noted_in, kind_in, stamped_in}
use Rattle.kept_logs.specs.Fits.{FitsStamped}
use Rattle.kept_logs.proofs.Formats.{logged_is, stamp_is}

-- no call has the kind 7
no_seven : (call : Call) → ((call_spelled call).kind == 7) ≡ false
no_seven (Submit request) = refl
no_seven Tick = refl
no_seven (Take from bytes) = refl
no_seven Stop = refl
no_seven Start = refl
no_seven (Revise (OfPlan (SetPrice product None))) = refl
no_seven (Revise (OfPlan (SetPrice product (Some price)))) = refl
no_seven (Revise (OfPlan (SetTerms fee copay))) = refl
no_seven (Revise (OfRule rule)) = refl
no_seven (Revise (OfCap most)) = refl
no_seven (Adjudicate from bytes advice) = refl

-- what follows the kind of a call
abbrev behind_kind : Logged → List ℕ
behind_kind r = (call_spelled r.call).text ++ (counted u64 sent_codec).text r.sent

begins : (r : Logged) → u8_at (logged_codec.text r) ≡ Some ((call_spelled r.call).kind, behind_kind r)
unfolding u8_at logged_codec call_codec
begins r = refl

-- a body that begins with a call is a call alone
plain_in : (r : Logged) → stamped_in (logged_codec.text r) ≡ with_stamp no_stamp (whole logged_codec (logged_codec.text r))
unfolding stamped_in
plain_in r =
    ap (kind_in (logged_codec.text r)) (begins r)
    ∙ ap (λ (b : Bool). cond b (noted_in (stamp_codec.at (behind_kind r))) (with_stamp no_stamp (whole logged_codec (logged_codec.text r)))) (no_seven r.call)

nothing : (xs : List ℕ) → length xs ≡ 0 → xs ≡ []
nothing [] h = refl
nothing (x ∷ xs) h = absurd (omega (arith, h))

-- nothing was noted where it says so
pub plain_is : (stamp : Stamp) → is_plain stamp ≡ true → stamp ≡ no_stamp
plain_is stamp t =
    let parts = and_parts (stamp.time == 0) (length stamp.reference == 0) t in
    ap (λ (n : ℕ). record { time = n; reference = stamp.reference }) (zero_is stamp.time parts.0) ∙ ap (λ (xs : List ℕ). record { time = 0; reference = xs }) (nothing stamp.reference (zero_is (length stamp.reference) parts.1))
  where
    zero_is : (n : ℕ) → (n == 0) ≡ true → n ≡ 0
    zero_is n t = grind (arith, nat_tests)

pub stamped_in-put : (r : Stamped) → FitsStamped r → stamped_in (stamped_text r) ≡ Some r
unfolding stamped_in stamped_text u8_at
stamped_in-put r fits = by_plain (is_plain r.stamp) refl
  where
    text : List ℕ
    text = logged_codec.text r.logged

    by_plain : (plain : Bool) → is_plain r.stamp ≡ plain → stamped_in (cond plain text (7 ∷ (stamp_codec.text r.stamp ++ text))) ≡ Some r
    by_plain true e =
        plain_in r.logged ∙ ap (with_stamp no_stamp) (whole_back logged_is r.logged fits.logged)
        ∙ ap (λ (s : Stamp). Some (record { logged = r.logged; stamp = s })) (sym (plain_is r.stamp e))
    by_plain false e =
        ap noted_in (stamp_is.back r.stamp text fits.stamp)
        ∙ ap (λ (b : Bool). cond b None (with_stamp r.stamp (whole logged_codec text))) e
        ∙ ap (with_stamp r.stamp) (whole_back logged_is r.logged fits.logged)
