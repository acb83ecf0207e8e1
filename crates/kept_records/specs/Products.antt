-- The products of a plan, with their prices.
use Rattle.std.specs.Prelude.{ℕ, List, [], Option, Some, None}
use Rattle.std.specs.List.{flat_map}
use Rattle.plan_rules.specs.Prices.{Prices}
use Rattle.codec.specs.Codecs.{Codec, u8, u32, sized, both}

-- a product after its length of one byte, and its price
unfoldable pub product_codec : Codec (List ℕ × ℕ)
product_codec = both (sized u8) u32

-- products, one after the other
abbrev pub products_text : Prices → List ℕ
products_text prices = flat_map product_codec.text prices

-- the text of a product that is there; no bytes where there is none
abbrev pub text_there : Option (List ℕ × ℕ) → List ℕ
text_there None = []
text_there (Some entry) = product_codec.text entry
