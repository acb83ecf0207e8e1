use Rattle.std.proofs.Common.{◌≡◌, drop, map}
use Rattle.world_settings.specs.Keys.{is_among}
use Rattle.world_settings.proofs.keys.is_among.Given as goal

abbrev pub invariant-loop-name : goal.invariant-loop-name
invariant-loop-name l =
    is_among (map (λ key. key.now) (drop l.name-index l.known)) l.fn.key ≡ is_among (map (λ key. key.now) l.known) l.fn.key
