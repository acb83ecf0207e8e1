use Rattle.std.proofs.Common.{refl}
use Rattle.std.proofs.lemmas.List.{take_min}
use Rattle.kept_logs.specs.Rests.{behind}
use Rattle.kept_logs.proofs.digest.SettingsDigest.behind.Goals as goal

pub returns : goal.returns
unfolding behind
returns c = rw (← c.self.view_is, c.digest_of.ensures, c.min.ensures, take_min 54 c.args.rest.now) refl
