-- What a host noted of a call, and records with that: how they are spelled, and what bytes are as one.
use Rattle.std.specs.Prelude.{ℕ, ◌==◌, ◌&&◌, Bool, cond, List, [], ◌∷◌, ◌++◌, length, map, Option, Some, None}
use Rattle.std.specs.Option.{option_map}
use Rattle.claim_model.specs.Node.{Node}
use Rattle.claim_model.specs.Logs.{Logged, NodeLog}
use Rattle.codec.specs.Fields.{u8_at}
use Rattle.codec.specs.Codecs.{Codec, u64, text, both, of_parts, whole}
use Rattle.kept_logs.specs.Records.{logged_codec}

-- when a call was made, in milliseconds as the host counts them, 0 where it did not say; and what the caller calls it, which may be nothing
pub record Stamp : Type 0 where
  pub time : ℕ
  pub reference : List ℕ

-- an accepted call, and what was noted of it
pub record Stamped : Type 0 where
  pub logged : Logged
  pub stamp : Stamp

-- a node, and all that its log has
pub record KeptLog : Type 0 where
  pub node : Node
  pub calls : List Stamped

-- the calls alone
abbrev pub bare_calls : List Stamped → List Logged
bare_calls calls = map (λ r. r.logged) calls

abbrev pub bare : KeptLog → NodeLog
bare log = record { node = log.node; calls = bare_calls log.calls }

-- nothing was noted
abbrev pub no_stamp : Stamp
no_stamp = record { time = 0; reference = [] }

abbrev pub is_plain : Stamp → Bool
is_plain stamp = (stamp.time == 0) && (length stamp.reference == 0)

-- a call of which nothing was noted
abbrev pub plain : Logged → Stamped
plain r = record { logged = r; stamp = no_stamp }

abbrev pub plain_log : NodeLog → KeptLog
plain_log log = record { node = log.node; calls = map plain log.calls }

-- a log with one record more
abbrev pub with_record : KeptLog → Stamped → KeptLog
with_record log r = record { node = log.node; calls = log.calls ++ r ∷ [] }

-- what was noted of a call
unfoldable pub stamp_codec : Codec Stamp
stamp_codec = of_parts (both u64 text) (λ p. record { time = p.0; reference = p.1 }) (λ s. (s.time, s.reference))

-- the body of a record: the call alone where nothing was noted of it; else the kind 7, which no call has, what was noted, and the call
unfoldable pub stamped_text : Stamped → List ℕ
stamped_text r = cond (is_plain r.stamp) (logged_codec.text r.logged) (7 ∷ (stamp_codec.text r.stamp ++ logged_codec.text r.logged))

-- a call with what was noted of it
abbrev pub with_stamp : Stamp → Option Logged → Option Stamped
with_stamp stamp o = option_map (λ r. record { logged = r; stamp = stamp }) o

-- after the kind 7: something was noted
abbrev pub noted_in : Option (Stamp × List ℕ) → Option Stamped
noted_in None = None
noted_in (Some (stamp, rest)) = cond (is_plain stamp) None (with_stamp stamp (whole logged_codec rest))

abbrev pub kind_in : List ℕ → Option (ℕ × List ℕ) → Option Stamped
kind_in bytes None = None
kind_in bytes (Some (kind, rest)) = cond (kind == 7) (noted_in (stamp_codec.at rest)) (with_stamp no_stamp (whole logged_codec bytes))

-- the record that these bytes are the body of; None where they are none
unfoldable pub stamped_in : List ℕ → Option Stamped
stamped_in bytes = kind_in bytes (u8_at bytes)
