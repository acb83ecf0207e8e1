-- A part of settings may go to another thread, as the settings may.
use denote.Param.Send.{IsSend}
use Rattle.node_handle.proofs.PartValues.{keyless}
use Rattle.node_handle.specs.contracts.hosted_settings.HostedSettings.{the_row as settings_row}
use Rattle.node_handle.proofs.hosted_settings.HostedSettings.TheSendSync as settings
use Rattle.node_handle.specs.contracts.settings_part.SettingsPart.{the_row}

pub send : IsSend the_row
send = record { owned = λ n vs. ((λ vss. (tt, (tt, tt))), keyless settings_row settings.the_send n.at n.settings); leaving = λ k d w. tt }
