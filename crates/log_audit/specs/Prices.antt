-- Price changes, each as a row: what a product cost before, and what it costs then.
use Rattle.std.specs.Prelude.{ℕ, ◌-◌, ◌==◌, cond, List, [], ◌∷◌, slice_get, bytes_eq, codes, Option, Some, None}
use Rattle.claim_model.specs.Node.{Revision, OfPlan, OfRule, OfCap}
use Rattle.claim_model.specs.Words.{SetPrice, SetTerms}
use Rattle.plan_rules.specs.Prices.{Prices}
use Rattle.table_text.specs.Members.{Row}
use Rattle.world_setup.specs.declared.settings.PayerSettings.{PayerSettings}
use Rattle.world_setup.specs.declared.settings.WorldSettings.{WorldSettings}
use Rattle.log_audit.specs.Changes.{Placed}
use Rattle.log_audit.specs.Following.{row_if}
use Rattle.log_audit.specs.Kinds.{number_member, text_member, optional_member}

-- the price of a product among these, each of which stands once
abbrev pub listed_price : Prices → List ℕ → Option ℕ
listed_price [] product = None
listed_price (entry ∷ more) product = cond (bytes_eq entry.0 product) (Some entry.1) (listed_price more product)

-- a price, if it is that of a product
abbrev pub price_if : Option (List ℕ × ℕ) → List ℕ → Option ℕ
price_if None product = None
price_if (Some entry) product = cond (bytes_eq entry.0 product) (Some entry.1) None

abbrev pub payer_price : Option PayerSettings → List ℕ → Option ℕ
payer_price None product = None
payer_price (Some p) product = listed_price p.plan.prices product

-- the price of a product under the settings of a payer
abbrev pub opening_price : WorldSettings → ℕ → List ℕ → Option ℕ
opening_price s payer product = payer_price (slice_get s.payers.items (payer - 1)) product

-- the product and the price of a change, if it is one of a price
abbrev pub price_of : Revision → Option (List ℕ × Option ℕ)
price_of (OfPlan (SetPrice product price)) = Some (product, price)
price_of (OfPlan (SetTerms fee copay)) = None
price_of (OfRule rule) = None
price_of (OfCap most) = None

-- the price of a product that cost this before, after a change of its payer
abbrev pub price_set : List ℕ → Option ℕ → Option (List ℕ × Option ℕ) → Option ℕ
price_set product price None = price
price_set product price (Some change) = cond (bytes_eq change.0 product) change.1 price

-- the price after a change, of a payer's product that cost this before
abbrev pub price_then : ℕ → List ℕ → Option ℕ → Placed → Option ℕ
price_then payer product price c = cond (c.number == payer) (price_set product price (price_of c.to)) price

-- and after some changes
abbrev pub price_after : ℕ → List ℕ → Option ℕ → List Placed → Option ℕ
price_after payer product price [] = price
price_after payer product price (c ∷ more) = price_after payer product (price_then payer product price c) more

-- the row of a change of a payer's product that cost this before, and costs this then; its place has this name
unfoldable pub price_row : List ℕ → ℕ → ℕ → List ℕ → Option ℕ → Option ℕ → Row
price_row name payer place product before after =
    number_member (codes "payer") payer ∷
    number_member name place ∷
    text_member (codes "product") product ∷
    optional_member (codes "price_before_ten_thousandths") before ∷
    optional_member (codes "price_after_ten_thousandths") after ∷ []

-- the row of a change after these that sets the price of a product: what it cost by the settings and the changes before it
abbrev pub price_row_to : WorldSettings → List ℕ → List Placed → ℕ → ℕ → List ℕ × Option ℕ → Row
price_row_to s name before payer place change =
    price_row name payer place change.0 (price_after payer change.0 (opening_price s payer change.0) before) change.1

-- the row of a change after these, if it is one of a price
abbrev pub price_rows : WorldSettings → List ℕ → List Placed → Placed → List Row
price_rows s name before c = row_if (price_row_to s name before c.number c.place) (price_of c.to)

-- the names of the columns
abbrev pub price_names : List ℕ → List (List ℕ)
price_names name = codes "payer" ∷ name ∷ codes "product" ∷ codes "price_before_ten_thousandths" ∷ codes "price_after_ten_thousandths" ∷ []
