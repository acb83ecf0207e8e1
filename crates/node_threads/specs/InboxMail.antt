-- Packets among the mail of an inbox.
use Rattle.std.specs.Prelude.{Option, Some, None}
use Rattle.world_setup.specs.declared.call.Packet.{Packet}
use Rattle.node_threads.specs.declared.inbox.mail.Mail.{Mail}
use Rattle.node_threads.specs.declared.inbox.mail.Mail.TheVariants as mail
use Rattle.node_threads.specs.declared.inbox.mail.PutFault.{PutFault}
use Rattle.node_threads.specs.declared.inbox.mail.PutFault.TheVariants as put

-- the packet that was not put
abbrev pub packet_back : PutFault → Packet
packet_back (put.Full packet) = packet
packet_back (put.Closed packet) = packet

-- the packet that mail is; the mark of the end is none
abbrev pub packet_in : Mail → Option Packet
packet_in (mail.Packet packet) = Some packet
packet_in mail.End = None
