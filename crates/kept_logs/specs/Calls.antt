-- Calls in a log.
use Rattle.std.specs.Prelude.{ℕ, zero, suc, List, Option, Some, None}
use Rattle.claim_model.specs.Node.{Call, Submit, Tick, Take, Stop, Start, Revise, OfPlan, OfRule, OfCap, Adjudicate}
use Rattle.claim_model.specs.Journal.{RetryRule}
use Rattle.claim_model.specs.Words.{SetPrice, SetTerms}
use Rattle.codec.specs.Codecs.{Codec, u16, u32, text, both, counted, of_parts, empty, Spelled, spelled, made_at, tagged}
use Rattle.switch_node.specs.Bytes.{cap_codec}
use Rattle.kept_logs.specs.Fields.{node_codec}

-- a rule of retries: after how many ticks it sends again, how often to one switch, and the switches after how many they are
unfoldable pub rule_codec : Codec RetryRule
rule_codec = of_parts (both u32 (both u32 (counted u16 u16))) (λ p. record { nodes = p.1.1; again = p.0; tries = p.1.0 }) (λ r. (r.again, (r.tries, r.nodes)))

-- how a call is spelled; 7 is the kind of a stamp, and no call's
abbrev pub call_spelled : Call → Spelled
call_spelled (Submit request) = spelled 0 text request
call_spelled Tick = spelled 1 empty tt
call_spelled (Take from bytes) = spelled 2 (both node_codec text) (from, bytes)
call_spelled Stop = spelled 3 empty tt
call_spelled Start = spelled 4 empty tt
call_spelled (Revise (OfPlan (SetPrice product None))) = spelled 5 text product
call_spelled (Revise (OfPlan (SetPrice product (Some price)))) = spelled 6 (both text u32) (product, price)
call_spelled (Adjudicate from bytes advice) = spelled 8 (both node_codec (both text text)) (from, (bytes, advice))
call_spelled (Revise (OfPlan (SetTerms fee copay))) = spelled 9 (both u32 u32) (fee, copay)
call_spelled (Revise (OfRule rule)) = spelled 10 rule_codec rule
call_spelled (Revise (OfCap most)) = spelled 11 cap_codec most

-- the call of this kind at the front, and what follows it; None where it is cut off or there is no such kind
abbrev pub call_of : ℕ → List ℕ → Option (Call × List ℕ)
call_of zero = made_at text Submit
call_of (suc zero) = made_at empty (λ u. Tick)
call_of (suc (suc zero)) = made_at (both node_codec text) (λ p. Take p.0 p.1)
call_of (suc (suc (suc zero))) = made_at empty (λ u. Stop)
call_of (suc (suc (suc (suc zero)))) = made_at empty (λ u. Start)
call_of (suc (suc (suc (suc (suc zero))))) = made_at text (λ product. Revise (OfPlan (SetPrice product None)))
call_of (suc (suc (suc (suc (suc (suc zero)))))) = made_at (both text u32) (λ p. Revise (OfPlan (SetPrice p.0 (Some p.1))))
call_of (suc (suc (suc (suc (suc (suc (suc zero))))))) = λ bytes. None
call_of (suc (suc (suc (suc (suc (suc (suc (suc zero)))))))) = made_at (both node_codec (both text text)) (λ p. Adjudicate p.0 p.1.0 p.1.1)
call_of (suc (suc (suc (suc (suc (suc (suc (suc (suc zero))))))))) = made_at (both u32 u32) (λ p. Revise (OfPlan (SetTerms p.0 p.1)))
call_of (suc (suc (suc (suc (suc (suc (suc (suc (suc (suc zero)))))))))) = made_at rule_codec (λ rule. Revise (OfRule rule))
call_of (suc (suc (suc (suc (suc (suc (suc (suc (suc (suc (suc zero))))))))))) = made_at cap_codec (λ most. Revise (OfCap most))
call_of (suc (suc (suc (suc (suc (suc (suc (suc (suc (suc (suc (suc number)))))))))))) = λ bytes. None

-- a call after its kind
unfoldable pub call_codec : Codec Call
call_codec = tagged call_spelled call_of
