-- What is read as the body of a record is its text, and has numbers of a machine.
use Rattle.std.proofs.Common.{◌≡◌, ℕ, ◌==◌, Bool, true, false, cond, List, [], ◌∷◌, ◌++◌, length, Option, Some, None, option_map, refl, ap, ◌∙◌, sym, subst, arith}
use Rattle.std.proofs.lemmas.Bool.Decides.{nat_tests}
use Rattle.std.proofs.lemmas.Option.{same_Some}
use Rattle.claim_model.specs.Logs.{Logged}
use Rattle.codec.specs.Fields.{u8_at}
use Rattle.codec.specs.Codecs.{whole}
use Rattle.codec.specs.Laws.{AreBytes, IsTaken}
use Rattle.codec.proofs.FieldsOnly.{u8_at_taken}
use Rattle.codec.proofs.CodecLaws.{whole_only}
use Rattle.kept_logs.specs.Frames.{is_size}
use Rattle.kept_logs.specs.Records.{logged_codec}
use Rattle.kept_logs.specs.Stamps.{Stamp, Stamped, no_stamp, is_plain, stamp_codec, stamped_text, with_stamp, noted_in, kind_in, stamped_in}
use Rattle.kept_logs.specs.Fits.{FitsStamped}
use Rattle.kept_logs.proofs.Formats.{logged_is, stamp_is}

mapped : {A B : Type 0} (f : A → B) (o : Option A) (y : B) → option_map f o ≡ Some y → (x : A) × (o ≡ Some x) × (f x ≡ y)
mapped f None y h = cc
mapped f (Some x) y h = (x, refl, same_Some (f x) y h)

no_stamp_fits : stamp_codec.Fits no_stamp
unfolding stamp_codec
no_stamp_fits = (omega arith, omega arith)

-- what bytes are that are read as the body of a record
record IsBody (bytes : List ℕ) (r : Stamped) : Type 0 where
  text : bytes ≡ stamped_text r
  logged : logged_codec.Fits r.logged
  stamp : stamp_codec.Fits r.stamp

-- a call alone
plain_body : (bytes : List ℕ) (r : Stamped) → AreBytes bytes → with_stamp no_stamp (whole logged_codec bytes) ≡ Some r → IsBody bytes r
unfolding stamped_text
plain_body bytes r are h =
    let m = mapped (λ (l : Logged). record { logged = l; stamp = no_stamp }) (whole logged_codec bytes) r h in
    let call = whole_only logged_is bytes m.0 are m.1 in
    let body : IsBody bytes (record { logged = m.0; stamp = no_stamp }) = record { text = call.0; logged = call.1; stamp = no_stamp_fits } in
    subst (IsBody bytes) m.2 body

-- a call after what was noted of it
noted_body : (bytes : List ℕ) (r : Stamped) → AreBytes bytes → noted_in (stamp_codec.at bytes) ≡ Some r → IsBody (7 ∷ bytes) r
unfolding stamped_text
noted_body bytes r are h = by_stamp (stamp_codec.at bytes) refl h
  where
    by_plain : (stamp : Stamp) (rest : List ℕ) → IsTaken bytes (stamp_codec.text stamp) rest × stamp_codec.Fits stamp → (plain : Bool) → is_plain stamp ≡ plain → cond plain None (with_stamp stamp (whole logged_codec rest)) ≡ Some r → IsBody (7 ∷ bytes) r
    by_plain stamp rest noted true e h = cc
    by_plain stamp rest noted false e h =
        let m = mapped (λ (l : Logged). record { logged = l; stamp = stamp }) (whole logged_codec rest) r h in
        let call = whole_only logged_is rest m.0 noted.0.rest_bytes m.1 in
        let made : Stamped = record { logged = m.0; stamp = stamp } in
        let all : bytes ≡ stamp_codec.text stamp ++ logged_codec.text m.0 = noted.0.all ∙ ap (λ t. stamp_codec.text stamp ++ t) call.0 in
        let text : 7 ∷ bytes ≡ stamped_text made = ap (λ t. 7 ∷ t) all ∙ ap (λ (b : Bool). cond b (logged_codec.text m.0) (7 ∷ (stamp_codec.text stamp ++ logged_codec.text m.0))) (sym e) in
        let body : IsBody (7 ∷ bytes) made = record { text = text; logged = call.1; stamp = noted.1 } in
        subst (IsBody (7 ∷ bytes)) m.2 body

    by_stamp : (o : Option (Stamp × List ℕ)) → stamp_codec.at bytes ≡ o → noted_in o ≡ Some r → IsBody (7 ∷ bytes) r
    by_stamp None e h = cc
    by_stamp (Some (stamp, rest)) e h = by_plain stamp rest (stamp_is.only bytes stamp rest are e) (is_plain stamp) refl h

stamped_body : (bytes : List ℕ) (r : Stamped) → AreBytes bytes → stamped_in bytes ≡ Some r → IsBody bytes r
unfolding stamped_in
stamped_body bytes r are h = by_first (u8_at bytes) refl h
  where
    seven_is : (n : ℕ) → (n == 7) ≡ true → 7 ≡ n
    seven_is n t = grind (arith, nat_tests)

    by_kind : (kind : ℕ) (rest : List ℕ) → IsTaken bytes (kind ∷ []) rest → (seven : Bool) → (kind == 7) ≡ seven → cond seven (noted_in (stamp_codec.at rest)) (with_stamp no_stamp (whole logged_codec bytes)) ≡ Some r → IsBody bytes r
    by_kind kind rest first true e h =
        let all : 7 ∷ rest ≡ bytes = ap (λ k. k ∷ rest) (seven_is kind e) ∙ sym first.all in
        subst (λ bs. IsBody bs r) all (noted_body rest r first.rest_bytes h)
    by_kind kind rest first false e h = plain_body bytes r are h

    by_first : (o : Option (ℕ × List ℕ)) → u8_at bytes ≡ o → kind_in bytes o ≡ Some r → IsBody bytes r
    by_first None e h = cc
    by_first (Some (kind, rest)) e h = by_kind kind rest (u8_at_taken bytes kind rest are e).0 (kind == 7) refl h

pub stamped_in_taken : (bytes : List ℕ) (r : Stamped) → AreBytes bytes → stamped_in bytes ≡ Some r → bytes ≡ stamped_text r
stamped_in_taken bytes r are h = (stamped_body bytes r are h).text

pub stamped_fits : (bytes : List ℕ) (r : Stamped) → AreBytes bytes → is_size (length bytes) ≡ true → stamped_in bytes ≡ Some r → FitsStamped r
stamped_fits bytes r are size h =
    let body = stamped_body bytes r are h in
    record { logged = body.logged; stamp = body.stamp; body = ap (λ (xs : List ℕ). is_size (length xs)) (sym body.text) ∙ size }
