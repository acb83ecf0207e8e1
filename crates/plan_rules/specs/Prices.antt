-- The prices of products: a finite map, as the list of its entries in byte order of the products.
use Rattle.std.specs.Prelude.{ℕ, List, length, Bool, not, ◌&&◌, ◌==◌, nat_le, Option, IsTrue, slice_index, ◌-◌}
use Rattle.std.specs.Ordering.{nat_cmp, eq_by_cmp}
use Rattle.std.specs.Cmp.Lexicographic.{slice_cmp}
use Rattle.std.specs.declared.cmp.Ordering.{Ordering}
use Rattle.std.specs.List.{list_any}
use Rattle.std.specs.FinMap.{find, put, is_sorted}
use Rattle.std.specs.FinMap.Entries.{where_key}

-- products with their prices, in ten-thousandths of a dollar a unit
abbrev pub Prices : Type 0
Prices = List (List ℕ × ℕ)

-- byte order of texts
abbrev pub by_bytes : List ℕ → List ℕ → Ordering
by_bytes = slice_cmp nat_cmp

-- each product stands once, in byte order
abbrev pub IsInOrder : Prices → Type 0
IsInOrder prices = IsTrue (is_sorted by_bytes prices)

-- the price of a product
abbrev pub price_of : Prices → List ℕ → Option ℕ
price_of prices product = find by_bytes product prices

-- the prices with this one for a product
abbrev pub with_price : Prices → List ℕ → ℕ → Prices
with_price prices product price = put by_bytes product price prices

-- the prices without a product
abbrev pub without_product : Prices → List ℕ → Prices
without_product prices product = where_key by_bytes (λ other. not (eq_by_cmp by_bytes product other)) prices

-- the byte separates fields, groups or segments
abbrev pub is_separator : ℕ → Bool
is_separator byte = nat_le 28 byte && nat_le byte 30

-- the text is not empty and its last byte is a space
abbrev pub ends_in_space : List ℕ → Bool
ends_in_space text = slice_index text (length text - 1) == 32

-- a product: 1 to 19 bytes, no separator, no space at the end
abbrev pub is_product : List ℕ → Bool
is_product text = nat_le 1 (length text) && nat_le (length text) 19 && not (list_any is_separator text) && not (ends_in_space text)
