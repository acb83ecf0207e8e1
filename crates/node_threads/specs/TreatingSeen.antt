-- What arrives, as a list.
use Rattle.std.specs.Prelude.{List, ◌++◌, option_to_list}
use Rattle.world_setup.specs.declared.call.Packet.{Packet}
use Rattle.node_threads.specs.declared.treatment.Arriving.{Arriving}

abbrev pub all_arriving : Arriving → List Packet
all_arriving a = option_to_list a.first ++ (option_to_list a.second ++ option_to_list a.let_go)
