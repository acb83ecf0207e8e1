-- The lines of an input.
use Rattle.std.specs.Prelude.{◌≡◌, ◌<◌, ℕ, ◌+◌, not, ◌==◌, Bool, List, [], length, take, drop, nat_lt, Option, Some, Result, MatchResult, IsTrue, if◌then◌else◌}
use Rattle.std.specs.List.{prefix_len}
use Rattle.std.specs.Io.KnownBytes.{prepend_known}
use Rattle.message_words.specs.Spelled.{ends_with, without_last}
use Rattle.message_words.specs.declared.line_source.InputFault.{InputFault}
use Rattle.message_words.specs.declared.line_source.InputFault.TheVariants.{OutOfMemory, Read, TooLong}
use Rattle.message_words.specs.declared.line_source.Unread.{Unread}

-- what was read and not yet taken
abbrev pub unread : Unread → List ℕ
unread u = drop u.from (take u.to u.bytes.items)

-- the bytes that an input still has, where it is known what its reader has
abbrev pub left_in : Option (List ℕ) → Unread → Option (List ℕ)
left_in known u = prepend_known (unread u) known

-- how many bytes stand before the next newline or the end
abbrev pub line_length : List ℕ → ℕ
line_length bytes = prefix_len (λ b. not (b == 10)) bytes

-- whether a newline stands in them
abbrev pub has_newline : List ℕ → Bool
has_newline bytes = nat_lt (line_length bytes) (length bytes)

-- a line that a newline ends, without the carriage return before it
abbrev pub without_return : List ℕ → List ℕ
without_return line = without_last (ends_with 13 line) line

-- the first line, and what stands after it
abbrev pub first_line : List ℕ → List ℕ × List ℕ
first_line bytes =
    if has_newline bytes then (without_return (take (line_length bytes) bytes), drop (line_length bytes + 1) bytes) else (bytes, [])

-- whether a line was read of these bytes, which it is, and what is left then
pub record IsNextLine (bytes : List ℕ) (some : Bool) (line : List ℕ) (left : Option (List ℕ)) : Type 0 where
  pub there : some ≡ nat_lt 0 (length bytes)
  pub first : line ≡ (first_line bytes).0
  pub behind : left ≡ Some (first_line bytes).1

-- all of these bytes were read
pub record AreAll (bytes : List ℕ) (line : List ℕ) (left : Option (List ℕ)) : Type 0 where
  pub all : line ≡ bytes
  pub behind : left ≡ Some []

-- the most bytes of a line, and of an input that is one message
abbrev pub longest : ℕ
longest = 16777216

-- a line of this many bytes is too long, where it is told so; nothing is known where memory was refused or a read failed
abbrev pub LongFor : InputFault → ℕ → Type 0
LongFor OutOfMemory size = Unit {0}
LongFor Read size = Unit {0}
LongFor TooLong size = longest < size

-- a read is told to have failed only where a call failed; no call failed that is not told
abbrev pub FailsFor : InputFault → Bool → Bool → Type 0
FailsFor OutOfMemory before after = after ≡ before
FailsFor Read before after = IsTrue after
FailsFor TooLong before after = after ≡ before

abbrev pub AccountsFor : {A : Type 0} → Result A InputFault → Bool → Bool → Type 0
AccountsFor result before after = MatchResult result (λ _. after ≡ before) (λ e. FailsFor e before after)
