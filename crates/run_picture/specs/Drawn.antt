-- A text that is the file of a picture, and where it was written.
use Rattle.std.specs.Prelude.{ℕ, List, Option}
use Rattle.std.specs.Io.KnownBytes.{Appends}
use Rattle.svg_text.specs.Picture.{Framed, IsPicture}
use Rattle.program_io.specs.Stops.{AppendsSome}

-- the file of a picture of some size, with some title, description and elements
abbrev pub IsDrawn : List ℕ → Type 0
IsDrawn text = (f : Framed) × IsPicture f text

-- a picture was written
abbrev pub DrawnBehind : Option (List ℕ) → Option (List ℕ) → Type 0
DrawnBehind before after = (text : List ℕ) × IsDrawn text × Appends before after text

-- a beginning of a picture was written
abbrev pub BeginningBehind : Option (List ℕ) → Option (List ℕ) → Type 0
BeginningBehind before after = (text : List ℕ) × IsDrawn text × AppendsSome before after text
