-- The bytes that a fill is hashed by.
use Rattle.std.specs.Prelude.{ℕ, List, [], ◌∷◌, ◌++◌}
use Rattle.std.specs.Int.{w64, to_le_bytes}
use Rattle.claim_profile.specs.declared.order.Fill.{Fill}

-- six texts one after another
abbrev pub joined : List ℕ → List ℕ → List ℕ → List ℕ → List ℕ → List ℕ → List ℕ
joined a b c d e f = ((((a ++ b) ++ c) ++ d) ++ e) ++ f

-- the fields of a fill one after another, at last the prescription number's eight bytes with the lowest first
unfoldable pub fill_bytes : Fill → List ℕ
fill_bytes f = joined f.pcn f.bin f.provider (f.fill ∷ []) f.qualifier (to_le_bytes w64 f.prescription)
