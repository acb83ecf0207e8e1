use Rattle.std.specs.Cmp.Lexicographic.{nat_list_cmp_total}
use Rattle.std.specs.FinMap.Entries.{find-put}
use Rattle.plan_rules.specs.Prices.{by_bytes}
use Rattle.plan_rules.proofs.laws.set_price_is_found.Goals as goal

pub returns : goal.returns
returns c = λ prices product other price. find-put by_bytes nat_list_cmp_total other product price prices
