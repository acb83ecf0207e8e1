-- Logs that go on after closed ones: what such a log begins with, which stands in a file of its own.
use Rattle.std.specs.Prelude.{◌≡◌, ⊤, IsSome, ℕ, ◌<◌, ◌^◌, ◌==◌, ◌||◌, cond, bytes_eq, List, [], ◌∷◌, ◌++◌, length, take, drop, codes, Option, Some, None}
use Rattle.std.specs.List.{AllByRecursion}
use Rattle.claim_model.specs.Node.{Node}
use Rattle.claim_model.specs.Nodes.{AnyNode, node_at, same_node}
use Rattle.claim_model.specs.Settings.{opening}
use Rattle.claim_model.specs.Settings as model
use Rattle.world_setup.specs.Seen.{settings_seen}
use Rattle.world_setup.specs.declared.settings.WorldSettings.{WorldSettings}
use Rattle.node_state.specs.Resting.{resumed}
use Rattle.codec.specs.Options.{◌>>=◌}
use Rattle.codec.specs.Fields.{u8_at}
use Rattle.codec.specs.Codecs.{Codec, u64, exactly, text, both, of_parts, counted}
use Rattle.kept_logs.specs.Digests.{of_said}
use Rattle.kept_logs.specs.Fields.{node_codec}
use Rattle.kept_logs.specs.References.{Reference}
use Rattle.kept_logs.specs.Fits.{FitsNode}
use Rattle.kept_logs.specs.Frames.{check_of, Met, Whole, Torn, Differs, met}

-- what a log begins with that goes on after closed ones: whose it is, how many calls these have, the SHA-256 digest of the last of them, the references
-- of their submissions, and the record that the node left at rest
pub record Rest : Type 0 where
  pub node : Node
  pub calls : ℕ
  pub closed : List ℕ
  pub references : List Reference
  pub kept : List ℕ

-- a reference: its name, and the number
unfoldable pub reference_codec : Codec Reference
reference_codec = of_parts (both text u64) (λ p. record { name = p.0; number = p.1 }) (λ r. (r.name, r.number))

-- how many references there are, and these
abbrev pub references_codec : Codec (List Reference)
references_codec = counted u64 reference_codec

-- version 2 has references, version 1 has none
abbrev pub rest_version : List Reference → ℕ
rest_version references = cond (length references == 0) 1 2

-- what the check sum is of: the references, if there are any, and the record
unfoldable pub rest_body : List Reference → List ℕ → List ℕ
rest_body references kept = cond (length references == 0) kept (references_codec.text references ++ kept)

-- the node, the calls, the digest, and what vouches for what follows
unfoldable pub fields_codec : Codec (Node × (ℕ × (List ℕ × List ℕ)))
fields_codec = both node_codec (both u64 (both (exactly 32) (exactly 8)))

-- before that: the name, the version, and these; 54 bytes
unfoldable pub rest_head : Rest → List ℕ
rest_head r = codes "PR" ++ (rest_version r.references ∷ fields_codec.text (r.node, (r.calls, (r.closed, check_of 2 r.calls (rest_body r.references r.kept)))))

unfoldable pub rest_text : Rest → List ℕ
rest_text r = rest_head r ++ rest_body r.references r.kept

-- what follows these bytes, where they stand there
abbrev pub behind_met : Met → Option (List ℕ)
behind_met (Whole rest) = Some rest
behind_met Torn = None
behind_met Differs = None

-- the references and the record
abbrev pub body_in : ℕ → List ℕ → Option (List Reference × List ℕ)
body_in version body = cond (version == 2) (references_codec.at body) (Some ([], body))

-- after the version: the fields, and what is vouched for
unfoldable pub rest_behind : ℕ → List ℕ → Option Rest
rest_behind version named = do
  fields ← fields_codec.at named
  body ← cond (bytes_eq fields.0.1.1.1 (check_of 2 fields.0.1.0 fields.1)) (body_in version fields.1) None
  Some (record { node = fields.0.0; calls = fields.0.1.0; closed = fields.0.1.1.0; references = body.0; kept = body.1 })

-- of one of the two versions
abbrev pub versioned : Option (ℕ × List ℕ) → Option Rest
versioned None = None
versioned (Some (version, named)) = cond ((version == 1) || (version == 2)) (rest_behind version named) None

-- what bytes are as the beginning of a log; none where they are none, or what vouches for the record does not
unfoldable pub rest_in : List ℕ → Option Rest
rest_in bytes = do
  named ← behind_met (met (codes "PR") bytes)
  versioned (u8_at named)

abbrev pub FitsReference : Reference → Type 0
FitsReference = reference_codec.Fits

-- its numbers are numbers of a machine, and its digest is one
pub record FitsRest (r : Rest) : Type 0 where
  pub node : FitsNode r.node
  pub calls : r.calls < 2 ^ 64
  pub closed : length r.closed ≡ 32
  pub count : length r.references < 2 ^ 64
  pub references : AllByRecursion FitsReference r.references

-- the node of that name, from its record
abbrev pub begun_from : model.WorldSettings → Node → Option Rest → Option AnyNode
begun_from s node None = None
begun_from s node (Some r) = cond (same_node r.node node) (resumed s node r.kept) None

-- the node that a log begins with: as the settings open it, or where the log goes on after closed ones, as it was left at rest, and started; none where
-- these bytes are no beginning of a log of this node under these settings
abbrev pub begins : WorldSettings → Node → Option (List ℕ) → Option AnyNode
begins s node None = node_at (opening (settings_seen s)) node
begins s node (Some rest) = begun_from (settings_seen s) node (rest_in rest)

-- how many calls were made before a log
abbrev pub calls_in : Option Rest → ℕ
calls_in None = 0
calls_in (Some r) = r.calls

abbrev pub calls_before : Option (List ℕ) → ℕ
calls_before None = 0
calls_before (Some rest) = calls_in (rest_in rest)

-- a log begins with nothing, or with what is a rest
abbrev pub IsRest : Option (List ℕ) → Type 0
IsRest None = ⊤
IsRest (Some rest) = IsSome (rest_in rest)

-- the references of the calls before a log
abbrev pub references_of : Option Rest → List Reference
references_of None = []
references_of (Some r) = r.references

abbrev pub references_before : Option (List ℕ) → List Reference
references_before None = []
references_before (Some rest) = references_of (rest_in rest)

-- what the head of a log has of its settings that goes on after closed ones: a digest of what it would have, and of what stands in front of the references
-- and the record that it begins with
unfoldable pub behind : List ℕ → List ℕ → List ℕ
behind digest rest = of_said (drop 1 digest ++ take 54 rest)
