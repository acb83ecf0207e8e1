-- The formats of logs: what was put is taken, and only what stands there is taken.
use Rattle.std.proofs.Common.{◌≡◌, ℕ, zero, suc, List, ◌++◌, Some, None, refl, ap, arith}
use Rattle.std.proofs.lemmas.Option.{same_Some}
use Rattle.claim_model.specs.Node.{Node, Pharmacy, Switch, Payer, Sent, Call, Submit, Tick, Take, Stop, Start, Revise, OfPlan, OfRule, OfCap, Adjudicate}
use Rattle.claim_model.specs.Journal.{RetryRule}
use Rattle.claim_model.specs.Words.{SetPrice, SetTerms}
use Rattle.claim_model.specs.Logs.{Logged}
use Rattle.codec.specs.Codecs.{u32, text, both}
use Rattle.codec.specs.Laws.{AreBytes, IsCodec}
use Rattle.codec.proofs.CodecLaws.{u8_is, u16_is, u32_is, u64_is, exactly_is, text_is, both_is, of_parts_is, form_is, empty_is, made_back, IsKind, made_only, tagged_is, counted_is}
use Rattle.switch_node.proofs.CapFormat.{cap_is}
use Rattle.kept_logs.specs.Fields.{node_of, kind_and_number, node_codec}
use Rattle.kept_logs.specs.Calls.{rule_codec, call_spelled, call_of, call_codec}
use Rattle.kept_logs.specs.Records.{sent_codec, logged_codec}
use Rattle.kept_logs.specs.References.{Reference}
use Rattle.kept_logs.specs.Stamps.{Stamp, stamp_codec}
use Rattle.kept_logs.specs.Rests.{reference_codec, references_codec, fields_codec}
use Rattle.kept_logs.specs.Fits.{FitsNode}

pub node_is : IsCodec node_codec
unfolding node_codec
node_is = form_is node_of kind_and_number (both_is u8_is u16_is) there again
  where
    there : (n : Node) → node_of (kind_and_number n) ≡ Some n
    there (Pharmacy number) = refl
    there (Switch number) = refl
    there (Payer number) = refl

    again : (p : ℕ × ℕ) (n : Node) → node_of p ≡ Some n → p ≡ kind_and_number n
    again (zero, number) n h = ap kind_and_number (same_Some (Pharmacy number) n h)
    again (suc zero, number) n h = ap kind_and_number (same_Some (Switch number) n h)
    again (suc (suc zero), number) n h = ap kind_and_number (same_Some (Payer number) n h)
    again (suc (suc (suc kind)), number) n h = cc

pub rule_is : IsCodec rule_codec
unfolding rule_codec
rule_is = of_parts_is _ (λ (r : RetryRule). (r.again, (r.tries, r.nodes))) (both_is u32_is (both_is u32_is (counted_is u16_is u16_is))) (λ r. refl) (λ p. refl)

pub call_is : IsCodec call_codec
unfolding call_codec
call_is = tagged_is call_spelled call_of back only
  where
    addressed : IsCodec (both node_codec text)
    addressed = both_is node_is text_is

    advised : IsCodec (both node_codec (both text text))
    advised = both_is node_is (both_is text_is text_is)

    priced : IsCodec (both text u32)
    priced = both_is text_is u32_is

    agreed : IsCodec (both u32 u32)
    agreed = both_is u32_is u32_is

    back : (c : Call) (rest : List ℕ) → (call_spelled c).Fits → call_of (call_spelled c).kind ((call_spelled c).text ++ rest) ≡ Some (c, rest)
    back (Submit request) rest fits = made_back text_is Submit request rest fits
    back Tick rest fits = refl
    back (Take from bytes) rest fits = made_back addressed (λ (p : Node × List ℕ). Take p.0 p.1) (from, bytes) rest fits
    back Stop rest fits = refl
    back Start rest fits = refl
    back (Revise (OfPlan (SetPrice product None))) rest fits = made_back text_is (λ (p : List ℕ). Revise (OfPlan (SetPrice p None))) product rest fits
    back (Revise (OfPlan (SetPrice product (Some price)))) rest fits = made_back priced (λ (p : List ℕ × ℕ). Revise (OfPlan (SetPrice p.0 (Some p.1)))) (product, price) rest fits
    back (Adjudicate from bytes advice) rest fits = made_back advised (λ (p : Node × (List ℕ × List ℕ)). Adjudicate p.0 p.1.0 p.1.1) (from, (bytes, advice)) rest fits
    back (Revise (OfPlan (SetTerms fee copay))) rest fits = made_back agreed (λ (p : ℕ × ℕ). Revise (OfPlan (SetTerms p.0 p.1))) (fee, copay) rest fits
    back (Revise (OfRule rule)) rest fits = made_back rule_is (λ (r : RetryRule). Revise (OfRule r)) rule rest fits
    back (Revise (OfCap most)) rest fits = made_back cap_is (λ (n : ℕ). Revise (OfCap n)) most rest fits

    only : (number : ℕ) (bytes : List ℕ) (c : Call) (rest : List ℕ) → AreBytes bytes → call_of number bytes ≡ Some (c, rest) → IsKind call_spelled number bytes c rest
    only zero bytes c rest are h = made_only text_is call_spelled 0 Submit (λ b r p t f. (refl, t, f)) bytes c rest are h
    only (suc zero) bytes c rest are h = made_only empty_is call_spelled 1 (λ u. Tick) (λ b r p t f. (refl, t, f)) bytes c rest are h
    only (suc (suc zero)) bytes c rest are h = made_only addressed call_spelled 2 (λ (p : Node × List ℕ). Take p.0 p.1) (λ b r p t f. (refl, t, f)) bytes c rest are h
    only (suc (suc (suc zero))) bytes c rest are h = made_only empty_is call_spelled 3 (λ u. Stop) (λ b r p t f. (refl, t, f)) bytes c rest are h
    only (suc (suc (suc (suc zero)))) bytes c rest are h = made_only empty_is call_spelled 4 (λ u. Start) (λ b r p t f. (refl, t, f)) bytes c rest are h
    only (suc (suc (suc (suc (suc zero))))) bytes c rest are h = made_only text_is call_spelled 5 (λ (p : List ℕ). Revise (OfPlan (SetPrice p None))) (λ b r p t f. (refl, t, f)) bytes c rest are h
    only (suc (suc (suc (suc (suc (suc zero)))))) bytes c rest are h = made_only priced call_spelled 6 (λ (p : List ℕ × ℕ). Revise (OfPlan (SetPrice p.0 (Some p.1)))) (λ b r p t f. (refl, t, f)) bytes c rest are h
    only (suc (suc (suc (suc (suc (suc (suc zero))))))) bytes c rest are h = cc
    only (suc (suc (suc (suc (suc (suc (suc (suc zero)))))))) bytes c rest are h = made_only advised call_spelled 8 (λ (p : Node × (List ℕ × List ℕ)). Adjudicate p.0 p.1.0 p.1.1) (λ b r p t f. (refl, t, f)) bytes c rest are h
    only (suc (suc (suc (suc (suc (suc (suc (suc (suc zero))))))))) bytes c rest are h = made_only agreed call_spelled 9 (λ (p : ℕ × ℕ). Revise (OfPlan (SetTerms p.0 p.1))) (λ b r p t f. (refl, t, f)) bytes c rest are h
    only (suc (suc (suc (suc (suc (suc (suc (suc (suc (suc zero)))))))))) bytes c rest are h = made_only rule_is call_spelled 10 (λ (r : RetryRule). Revise (OfRule r)) (λ b r p t f. (refl, t, f)) bytes c rest are h
    only (suc (suc (suc (suc (suc (suc (suc (suc (suc (suc (suc zero))))))))))) bytes c rest are h = made_only cap_is call_spelled 11 (λ (n : ℕ). Revise (OfCap n)) (λ b r p t f. (refl, t, f)) bytes c rest are h
    only (suc (suc (suc (suc (suc (suc (suc (suc (suc (suc (suc (suc number)))))))))))) bytes c rest are h = cc

pub sent_is : IsCodec sent_codec
unfolding sent_codec
sent_is = of_parts_is _ (λ (s : Sent). (s.to, s.bytes)) (both_is node_is text_is) (λ s. refl) (λ p. refl)

pub logged_is : IsCodec logged_codec
unfolding logged_codec
logged_is = of_parts_is _ (λ (r : Logged). (r.call, r.sent)) (both_is call_is (counted_is u64_is sent_is)) (λ r. refl) (λ p. refl)

pub stamp_is : IsCodec stamp_codec
unfolding stamp_codec
stamp_is = of_parts_is _ (λ (s : Stamp). (s.time, s.reference)) (both_is u64_is text_is) (λ s. refl) (λ p. refl)

pub references_is : IsCodec references_codec
unfolding reference_codec
references_is = counted_is u64_is (of_parts_is _ (λ (r : Reference). (r.name, r.number)) (both_is text_is u64_is) (λ r. refl) (λ p. refl))

pub fields_is : IsCodec fields_codec
unfolding fields_codec
fields_is = both_is node_is (both_is u64_is (both_is (exactly_is 32) (exactly_is 8)))

-- ---- a node's number has two bytes, and its kind one

pub node_fits : (node : Node) → FitsNode node → node_codec.Fits node
unfolding node_codec
node_fits (Pharmacy number) small = (omega arith, small)
node_fits (Switch number) small = (omega arith, small)
node_fits (Payer number) small = (omega arith, small)

pub fits_node : (node : Node) → node_codec.Fits node → FitsNode node
unfolding node_codec
fits_node (Pharmacy number) fits = fits.1
fits_node (Switch number) fits = fits.1
fits_node (Payer number) fits = fits.1
