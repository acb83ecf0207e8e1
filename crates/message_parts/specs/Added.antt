-- What a cut adds to the parts.
use Rattle.std.specs.Prelude.{◌≡◌, ℕ, Bool, true, false, List, ◌++◌, take, drop, Option, Some}
use Rattle.message_parts.specs.declared.dissecting.Carried.{Carried}
use Rattle.message_parts.specs.declared.layout.Form.{Form}
use Rattle.message_parts.specs.declared.layout.Within.{Within}
use Rattle.message_parts.specs.declared.part.PartKind.{PartKind}
use Rattle.message_parts.specs.declared.part.PartKind.TheVariants.{Stray}
use Rattle.message_parts.specs.Parts.{PartSeen, Cut}
use Rattle.message_parts.specs.Steps.{filled_part, AreBody, AreTransmission, at_first}
use Rattle.message_parts.specs.AtRest.{Told, Telling, told_before, stray_told}

-- the next bytes that are left, this many
abbrev pub next_bytes : Cut → ℕ → List ℕ
next_bytes c size = take size (drop c.place c.whole)

-- a part of the next bytes
abbrev pub next_part : Cut → PartKind → ℕ → PartSeen
next_part c kind size = record { place = c.place; bytes = next_bytes c size; kind = kind }

-- the same, but none of no bytes
abbrev pub some_part : Cut → PartKind → ℕ → List PartSeen
some_part c kind size = filled_part kind c.place (next_bytes c size)

-- what is left, where bytes are left, as one part that stands where none should
abbrev pub stray_part : Cut → List PartSeen
stray_part c = filled_part Stray c.place (drop c.place c.whole)

-- the parts of a body that stood after parts that were there, when it was cut up to a place
pub record IsCutUpTo (form : Form) (first : ℕ) (all : List ℕ) (old : List PartSeen) (within : Within) (place : ℕ) (left : List ℕ) (now : List PartSeen) : Type 0 where
  pub added : List PartSeen
  pub are : now ≡ old ++ added
  pub goes_on : (rest : List PartSeen) → AreBody form within place left rest → AreBody form at_first first all (added ++ rest)

-- after the parts that were there are those of a body
pub record AddsBody (form : Form) (place : ℕ) (bytes : List ℕ) (old new : List PartSeen) : Type 0 where
  pub added : List PartSeen
  pub are : new ≡ old ++ added
  pub body : AreBody form at_first place bytes added

-- those of a request or an answer
pub record AddsTransmission (form : Form) (place : ℕ) (bytes : List ℕ) (old new : List PartSeen) : Type 0 where
  pub added : List PartSeen
  pub are : new ≡ old ++ added
  pub transmission : AreTransmission form place bytes added

-- ---- records: what was cut is told, and then what stands after it

-- the bytes that are left
abbrev pub left_of : Cut → List ℕ
left_of c = drop c.place c.whole

-- a text of this many bytes there, and what follows it
abbrev pub next_taken : Cut → ℕ → Option (List ℕ × List ℕ)
next_taken c size = Some (take size (left_of c), drop size (left_of c))

-- all that is told, where this is told of what is left
abbrev pub told_with : Cut → List Carried → Told → Told
told_with c carried t = told_before c.parts carried t

-- what stands after; where not all was there, what is left stands where nothing should
abbrev pub behind_if : Bool → Telling → Telling
behind_if true behind = behind
behind_if false behind = stray_told

-- a cut from one place to another told this: whatever stands after it, the same is told from either place on
abbrev pub Tells : (Telling → Telling) → (whole : Bool) → (old new : Cut) → (before after : List Carried) → Type 0
Tells telling whole old new before after = (behind : Telling)
    → told_with new after (behind_if whole behind new.place (left_of new)) ≡ told_with old before (telling behind old.place (left_of old))

-- the same of the last cut, after which what is left stands where nothing should
abbrev pub TellsAll : Telling → (old new : Cut) → (before after : List Carried) → Type 0
TellsAll telling old new before after =
    told_with new after (stray_told new.place (left_of new)) ≡ told_with old before (telling old.place (left_of old))
