-- What is written: that a node is served; and of a call a line for each packet that the node sent, and a last line that says how it ended.
use Rattle.std.specs.Prelude.{ℕ, List, ◌++◌, codes, decimal}
use Rattle.std.specs.List.{flat_map}
use Rattle.input_text.specs.Printing.{printed}
use Rattle.claim_model.specs.Node.{Sent}
use Rattle.schedule.specs.Nodes.{node_text}

-- a node is served: how many calls its log has
abbrev pub ready_line : ℕ → List ℕ
ready_line calls = codes "ready " ++ (decimal calls ++ codes "\n")

-- a packet for another node: `send`, its name and the packet in printed bytes
unfoldable pub sent_line : Sent → List ℕ
sent_line s = codes "send " ++ (node_text s.to ++ (codes " " ++ (printed s.bytes ++ codes "\n")))

-- the lines of all packets, in order
unfoldable pub sent_lines : List Sent → List ℕ
sent_lines sent = flat_map sent_line sent

-- a call that was refused: the name of the refusal
abbrev pub refused_line : List ℕ → List ℕ
refused_line name = codes "refused " ++ (name ++ codes "\n")

-- a call that was made, after the packets that it sent
abbrev pub done_line : List ℕ
done_line = codes "ok\n"

-- a tick that changes nothing and is not recorded
abbrev pub idle_line : List ℕ
idle_line = codes "idle\n"

-- a submission that was made before, under its reference: the number that its entry has
abbrev pub known_line : ℕ → List ℕ
known_line number = codes "known " ++ (decimal number ++ codes "\n")

-- a submission that was made: the number of its entry
abbrev pub number_line : ℕ → List ℕ
number_line number = codes "number " ++ (decimal number ++ codes "\n")

-- the answer to a number, in printed bytes
abbrev pub answer_line : List ℕ → List ℕ
answer_line bytes = codes "answer " ++ (printed bytes ++ codes "\n")
