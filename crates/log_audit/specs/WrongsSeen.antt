-- What is wrong with calls, with names as lists of bytes.
use Rattle.std.specs.Prelude.{Option, Some, None, Result, Ok, Err}
use Rattle.claim_model.specs.Nodes.{AnyNode}
use Rattle.world_setup.specs.Seen.{node_seen}
use Rattle.log_audit.specs.Wrongs as seen
use Rattle.log_audit.specs.declared.judging.wrongs.Wrong.{Wrong}
use Rattle.log_audit.specs.declared.judging.wrongs.Wrong.TheVariants.{Refused, Count, Addressee, Bytes}
use Rattle.log_audit.specs.declared.judging.wrongs.FirstWrong.{FirstWrong}

abbrev pub wrong_seen : Wrong → seen.Wrong
wrong_seen (Refused name) = seen.Refusal name.now
wrong_seen (Count made kept) = seen.Count made kept
wrong_seen (Addressee packet to) = seen.Addressee packet (node_seen to)
wrong_seen (Bytes packet to place) = seen.Bytes packet (node_seen to) place

abbrev pub first_seen : FirstWrong → seen.FirstWrong
first_seen first = record { call = first.call; wrong = wrong_seen first.wrong }

-- a call was made and left this node, or it is wrong
abbrev pub made_as : Option Wrong → AnyNode → Result AnyNode seen.Wrong
made_as None node = Ok node
made_as (Some wrong) node = Err (wrong_seen wrong)

-- the same of all calls of a log
abbrev pub ended_as : Option FirstWrong → AnyNode → Result AnyNode seen.FirstWrong
ended_as None node = Ok node
ended_as (Some first) node = Err (first_seen first)
