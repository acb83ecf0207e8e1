-- The place of a product among prices in byte order.
use Rattle.std.proofs.Common.{◌≡◌, ℕ, List, [], length, Result}
use Rattle.std.specs.Cmp.Lexicographic.{nat_list_cmp_total}
use Rattle.std.specs.FinMap.{slice_cmp-IsAntisymmetric, nat_cmp-IsAntisymmetric, is_sorted}
use Rattle.std.specs.List.Sorted.{IsSearchInRange, IsBinarySearchResult}
use Rattle.plan_rules.specs.Prices.{Prices, IsInOrder, by_bytes, price_of, with_price, without_product}
use Rattle.plan_rules.specs.Searching.{place_in}
use Rattle.plan_rules.proofs.Order.{T-from_true}
use Rattle.plan_rules.proofs.Search.{edited, without_found, found, place_in-in_range, put-edited, find-found, where_key-without_found, search-place_in}

module _ (prices : Prices) (product : List ℕ) where
  pub in_range : IsSearchInRange (place_in by_bytes product prices) (length prices)
  in_range = place_in-in_range by_bytes product prices

  pub with_price-edited : (price : ℕ) → with_price prices product price ≡ edited product price prices (place_in by_bytes product prices)
  with_price-edited price = put-edited by_bytes product (slice_cmp-IsAntisymmetric nat_cmp-IsAntisymmetric) price prices

  module _ (in_order : IsInOrder prices) where
    pub search-place : (r : Result ℕ ℕ) → IsSearchInRange r (length prices) → IsBinarySearchResult (λ e. by_bytes e.0 product) prices r → r ≡ place_in by_bytes product prices
    search-place = search-place_in by_bytes product nat_list_cmp_total prices ([], 0) (T-from_true (is_sorted by_bytes prices) in_order)

    pub price_of-found : (d : List ℕ × ℕ) → price_of prices product ≡ found d prices (place_in by_bytes product prices)
    price_of-found d = find-found by_bytes product nat_list_cmp_total d prices (T-from_true (is_sorted by_bytes prices) in_order)

    pub without_product-found : without_product prices product ≡ without_found prices (place_in by_bytes product prices)
    without_product-found = where_key-without_found by_bytes product nat_list_cmp_total prices (T-from_true (is_sorted by_bytes prices) in_order)
