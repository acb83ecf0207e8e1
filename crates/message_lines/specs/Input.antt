-- The lines of an input that are not skipped.
use Rattle.std.specs.Prelude.{◌≡◌, ◌<◌, ◌+◌, ◌-◌, ◌^◌, ℕ, zero, suc, Bool, true, false, List, length, min, Option, Some}
use Rattle.input_text.specs.Lines.{is_skipped}
use Rattle.message_words.specs.InputLines.{IsNextLine, LongFor, first_line, line_length}
use Rattle.message_words.specs.declared.line_source.InputFault.{InputFault}
use Rattle.message_words.specs.declared.line_source.InputFault.TheVariants.{OutOfMemory, Read, TooLong}

-- an input begins with so many lines that are skipped, and this stands behind them
abbrev pub Skips : ℕ → (bytes behind : List ℕ) → Type 0
Skips zero bytes behind = behind ≡ bytes
Skips (suc more) bytes behind = (0 < length bytes) × (is_skipped (first_line bytes).0 ≡ true) × Skips more (first_line bytes).1 behind

-- the number of a line, from that of the one so many lines before it; it stays at the greatest of 64 bits
abbrev pub number_behind : (before passed : ℕ) → ℕ
number_behind before zero = before
number_behind before (suc passed) = min (number_behind before passed + 1) (2 ^ 64 - 1)

-- behind so many lines that are skipped these bytes are left
pub record HasSkipped (bytes : List ℕ) (before number : ℕ) (left : Option (List ℕ)) : Type 0 where
  pub passed : ℕ
  pub behind : List ℕ
  pub skips : Skips passed bytes behind
  pub rest : left ≡ Some behind
  pub count : number ≡ number_behind before passed

-- the next line that is told of, where there is one: it stands behind lines that are skipped, and is none
pub record IsNextTold (bytes : List ℕ) (before : ℕ) (some : Bool) (number : ℕ) (line : List ℕ) (left : Option (List ℕ)) : Type 0 where
  pub passed : ℕ
  pub behind : List ℕ
  pub skips : Skips passed bytes behind
  pub next : IsNextLine behind some line left
  pub told : some ≡ true → is_skipped line ≡ false
  pub count : number ≡ number_behind before (suc passed)

-- the line that is not read stands behind lines that are skipped, has this number, and is too long where that is told
pub record IsUnread (bytes : List ℕ) (before number : ℕ) (fault : InputFault) : Type 0 where
  pub passed : ℕ
  pub behind : List ℕ
  pub skips : Skips passed bytes behind
  pub long : LongFor fault (line_length behind)
  pub count : number ≡ number_behind before (suc passed)

-- why no line is told of; want of memory says nothing
abbrev pub IsRefused : List ℕ → (before number : ℕ) → InputFault → Type 0
IsRefused bytes before number OutOfMemory = Unit {0}
IsRefused bytes before number Read = IsUnread bytes before number Read
IsRefused bytes before number TooLong = IsUnread bytes before number TooLong
