-- Records in a file. Each is framed so that one that is cut off is told from one that is damaged, and one that stands in another one's place from its own.
use Rattle.std.specs.Prelude.{ℕ, ◌-◌, ◌==◌, ◌&&◌, Bool, cond, List, [], ◌∷◌, ◌++◌, length, take, drop, nat_lt, nat_le, Option, Some, None, if◌then◌else◌}
use Rattle.std.specs.List.{list_all}
use Rattle.std.specs.Int.{w64, to_be_bytes}
use Rattle.std.specs.Hash.DefaultHasher as sip
use Rattle.sha2.specs.Sha256.{sha256}
use Rattle.codec.specs.Fields.{u64_at}

-- the largest number of eight bytes
abbrev pub largest : ℕ
largest = 18446744073709551615

-- the most bytes that the body of a record has
abbrev pub most_body : ℕ
most_body = 4294967295

-- whether a body may have this many bytes: at least one
abbrev pub is_size : ℕ → Bool
is_size size = nat_lt 0 size && nat_le size most_body

-- zeros alone, which no record begins with: some file systems leave them where what was appended is lost
abbrev pub is_zeros : List ℕ → Bool
is_zeros bytes = list_all (λ byte. byte == 0) bytes

-- the eight bytes that vouch for a body under a number in version 1: the first of its digest
unfoldable pub first_check : ℕ → List ℕ → List ℕ
first_check number body = take 8 (sha256 (to_be_bytes w64 number ++ body))

-- those in version 2: SipHash-1-3 with both keys 0. They are to find damage, and stop nobody who means to deceive: that the node makes each call anew does
unfoldable pub second_check : ℕ → List ℕ → List ℕ
second_check number body = to_be_bytes w64 (sip.finish (sip.write (sip.write sip.initial (to_be_bytes w64 number)) body))

-- the eight bytes that vouch for a body under a number in a log of this version; there are the versions 1 and 2, and of another number these are as in 2
unfoldable pub check_of : ℕ → ℕ → List ℕ → List ℕ
check_of version number body = cond (version == 1) (first_check number body) (second_check number body)

-- a record in the file of a log of this version: how many bytes its body has, the same number taken from the largest one, the body, and what vouches for it
unfoldable pub frame_text : ℕ → ℕ → List ℕ → List ℕ
frame_text version number body = to_be_bytes w64 (length body) ++ (to_be_bytes w64 (largest - length body) ++ (body ++ check_of version number body))

-- bytes against those that have to stand there: they do, and this follows; bytes end before, and are so far as they have to be; or one is another
pub data Met : Type 0 where
  Whole : List ℕ → Met
  Torn : Met
  Differs : Met

abbrev pub met : List ℕ → List ℕ → Met
met [] bytes = Whole bytes
met (wanted ∷ more) [] = Torn
met (wanted ∷ more) (byte ∷ bytes) = cond (wanted == byte) (met more bytes) Differs

-- what stands at the front of bytes: a record with this body, and this follows; the beginning of a record that is cut off; or no record
pub data Frame : Type 0 where
  Framed : List ℕ → List ℕ → Frame
  CutOff : Frame
  Damaged : Frame

-- a record whose body is there
abbrev pub checked : List ℕ → Met → Frame
checked body (Whole after) = Framed body after
checked body Torn = CutOff
checked body Differs = Damaged

-- a record from its body on, whose length is known
unfoldable pub body_at : ℕ → ℕ → ℕ → List ℕ → Frame
body_at version number size bytes = if nat_lt (length bytes) size then CutOff else checked (take size bytes) (met (check_of version number (take size bytes)) (drop size bytes))

-- a record after its length
abbrev pub behind_length : ℕ → ℕ → ℕ → Met → Frame
behind_length version number size (Whole rest) = body_at version number size rest
behind_length version number size Torn = CutOff
behind_length version number size Differs = Damaged

-- after a length that no body has: zeros to the end are lost bytes, all else is no record
abbrev pub no_record : ℕ → List ℕ → Frame
no_record size rest = if (size == 0) && is_zeros rest then CutOff else Damaged

abbrev pub sized_frame : ℕ → ℕ → Option (ℕ × List ℕ) → Frame
sized_frame version number None = CutOff
sized_frame version number (Some (size, rest)) = if is_size size then behind_length version number size (met (to_be_bytes w64 (largest - size)) rest) else no_record size rest

-- the record of this number at the front of bytes of a log of this version
unfoldable pub frame_at : ℕ → ℕ → List ℕ → Frame
frame_at version number bytes = sized_frame version number (u64_at bytes)

-- what follows a record that stands whole and undamaged
abbrev pub behind_frame : Frame → Option (List ℕ)
behind_frame (Framed body after) = Some after
behind_frame CutOff = None
behind_frame Damaged = None
