use Rattle.std.proofs.Common.{◌||◌, ◌∙◌, ap, rules}
use Rattle.world_setup.specs.contracts.identity.IdentityOrd.TheImpl as order
use Rattle.world_setup.specs.declared.identity.Identity.{Identity}
use Rattle.world_setup.specs.Identities.{identity_of, is_same, was_seen}
use Rattle.world_setup.proofs.Identities.{of_parts, by_parts, new_by, seen_more, tied}
use Rattle.world_setup.proofs.identity.is_new.Goals as goal

pub returns-clause-new : goal.returns-clause-new
returns-clause-new c =
    let k : Identity = of_parts c.qualifier-qualifier.result c.provider-provider.result in
    new_by (order.cmp-value).it c.args.seen.now.keys k c.args.settings.now c.in_ok-is_new.is_new
    (by_parts c.qualifier-qualifier.result c.provider-provider.result c.args.settings.now c.qualifier-qualifier.ensures c.provider-provider.ensures)
    (λ x y. search (rules, tied)) c.in_ok-is_new.ensures.added

pub returns-clause-seen : goal.returns-clause-seen
returns-clause-seen c = λ other.
    let k : Identity = of_parts c.qualifier-qualifier.result c.provider-provider.result in
    seen_more (order.cmp-value).it c.args.seen.now.keys c.insert.new.self.keys k other (c.in_ok-is_new.ensures.updates.0 (identity_of other)) (λ x y. search (rules, tied))
    ∙ ap (λ (i : Identity). was_seen c.args.seen.now.keys other || is_same i (identity_of other))
    (by_parts c.qualifier-qualifier.result c.provider-provider.result c.args.settings.now c.qualifier-qualifier.ensures c.provider-provider.ensures)
