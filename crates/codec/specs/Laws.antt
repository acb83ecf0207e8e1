-- What holds of every codec.
use Rattle.std.specs.Prelude.{◌≡◌, ℕ, ◌<◌, List, ◌++◌, slice_index, Some}
use Rattle.codec.specs.Codecs.{Codec}

-- each element is a byte
pub record AreBytes (xs : List ℕ) : Type 0 where
  pub below : (i : ℕ) → slice_index xs i < 256

-- a field of this spelling and what follows it are all of the bytes
pub record IsTaken (bytes spelled rest : List ℕ) : Type 0 where
  pub all : bytes ≡ spelled ++ rest
  pub rest_bytes : AreBytes rest

-- what was put is taken, and only what stands there is taken, with numbers that fit
pub record IsCodec {A : Type 0} (c : Codec A) : Type 0 where
  pub back : (x : A) (rest : List ℕ) → c.Fits x → c.at (c.text x ++ rest) ≡ Some (x, rest)
  pub only : (bytes : List ℕ) (x : A) (rest : List ℕ) → AreBytes bytes → c.at bytes ≡ Some (x, rest) → IsTaken bytes (c.text x) rest × c.Fits x
