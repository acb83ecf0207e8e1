-- Parts that may stand where they are.
use Rattle.std.specs.Prelude.{◌≡◌, Bool, true, false}
use Rattle.message_parts.specs.declared.part.PartKind.{PartKind}
use Rattle.message_parts.specs.declared.part.PartKind.TheVariants as kind
use Rattle.message_parts.specs.Parts.{PartSeen}

-- every part but one that stands where none should
abbrev pub stands : PartKind → Bool
stands kind.Stray = false
stands _ = true

abbrev pub Stands : PartSeen → Type 0
Stands p = stands p.kind ≡ true
