-- The cap of a switch, as bytes.
use Rattle.std.specs.Prelude.{ℕ}
use Rattle.codec.specs.Codecs.{Codec, u32, at_most, at_least}
use Rattle.claim_model.specs.Limits.{most_entries}

-- a number of four bytes, the high one first, 1 to the most entries that there may be
unfoldable pub cap_codec : Codec ℕ
cap_codec = at_least 1 (at_most most_entries u32)
