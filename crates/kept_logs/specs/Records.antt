-- Accepted calls in a log, each with what it sent.
use Rattle.claim_model.specs.Node.{Sent}
use Rattle.claim_model.specs.Logs.{Logged}
use Rattle.codec.specs.Codecs.{Codec, u64, text, both, of_parts, counted}
use Rattle.kept_logs.specs.Fields.{node_codec}
use Rattle.kept_logs.specs.Calls.{call_codec}

-- a packet that was sent, after its addressee
unfoldable pub sent_codec : Codec Sent
sent_codec = of_parts (both node_codec text) (λ p. record { to = p.0; bytes = p.1 }) (λ s. (s.to, s.bytes))

-- an accepted call, how many packets it sent, and these
unfoldable pub logged_codec : Codec Logged
logged_codec = of_parts (both call_codec (counted u64 sent_codec)) (λ p. record { call = p.0; sent = p.1 }) (λ r. (r.call, r.sent))
