use Rattle.std.proofs.Common.{rules}
use Rattle.node_handle.proofs.settings_handle.SettingsHandle.open.Goals as goal

pub returns-in-Ok : goal.returns-in-Ok
returns-in-Ok c = (c.in-Ok.settings.value, (search rules, (c.put.ensures, c.in-Ok.ensures.opened)))
