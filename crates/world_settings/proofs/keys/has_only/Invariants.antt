use Rattle.std.proofs.Common.{◌≡◌, map}
use Rattle.toml.specs.View.{members_view}
use Rattle.world_settings.specs.Keys.{keys_among}
use Rattle.world_settings.proofs.keys.has_only.Given as goal

abbrev pub invariant-loop-key : goal.invariant-loop-key
invariant-loop-key l =
    keys_among (map (λ key. key.now) l.fn.known) (members_view l.key-iterator) ≡ keys_among (map (λ key. key.now) l.fn.known) (members_view l.table.entries)
