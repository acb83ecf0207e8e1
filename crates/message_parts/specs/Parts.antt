-- The parts of a message, one after the other.
use Rattle.std.specs.Prelude.{◌≡◌, ◌≤◌, ℕ, ◌+◌, List, [], ◌∷◌, length, take}
use Rattle.std.specs.List.{flat_map}
use Rattle.message_parts.specs.declared.part.Part.{Part}
use Rattle.message_parts.specs.declared.part.PartKind.{PartKind}

-- a part: where it stands, its bytes, and what it is
pub record PartSeen : Type 0 where
  pub place : ℕ
  pub bytes : List ℕ
  pub kind : PartKind

-- a part of the code, without its place in memory
abbrev pub part_seen : Part → PartSeen
part_seen p = record { place = p.place; bytes = p.bytes.now; kind = p.kind }

-- the bytes of parts, one after the other
abbrev pub told_bytes : List PartSeen → List ℕ
told_bytes parts = flat_map (λ p. p.bytes) parts

-- each part stands where the bytes of the parts before it end
abbrev pub AreBehind : ℕ → List PartSeen → Type 0
AreBehind place [] = Unit {0}
AreBehind place (p ∷ ps) = (p.place ≡ place) × AreBehind (place + length p.bytes) ps

-- these parts are the bytes: no byte is left out, and none told twice
pub record AreParts (bytes : List ℕ) (parts : List PartSeen) : Type 0 where
  pub all : told_bytes parts ≡ bytes
  pub places : AreBehind 0 parts

-- the parts of the first bytes of a message
pub record Cut : Type 0 where
  pub whole : List ℕ
  pub place : ℕ
  pub parts : List PartSeen

-- the parts are the bytes up to the place
pub record IsCut (c : Cut) : Type 0 where
  pub within : c.place ≤ length c.whole
  pub parts : AreParts (take c.place c.whole) c.parts
