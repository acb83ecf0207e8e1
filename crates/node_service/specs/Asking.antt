-- The call that a line asks of a node: words parted by exactly one space, and nothing is trimmed.
use Rattle.std.specs.Prelude.{ℕ, ◌&&◌, List, length, codes, bytes_eq, nat_le, Option, Some, None, if◌then◌else◌}
use Rattle.std.specs.Option.{option_map}
use Rattle.std.specs.Result.{result_ok}
use Rattle.input_text.specs.Options.{◌>>=◌}
use Rattle.input_text.specs.Words.{split_word}
use Rattle.input_text.specs.Decimals.{decimal_number}
use Rattle.input_text.specs.Printing.{unprinted}
use Rattle.schedule.specs.Events.{product_in, price_in, price_of, cap_in}
use Rattle.world_setup.specs.declared.call.Call as declared
use Rattle.world_setup.specs.declared.call.Call.TheVariants.{Submit, Tick, Take, Stop, Start, Plan, Terms, Retry, Cap, Adjudicate}
use Rattle.schedule.specs.Nodes.{node_in}
use Rattle.schedule.specs.Switches.{switches_in}
use Rattle.node_service.specs.declared.asking.Asked as value
use Rattle.node_service.specs.declared.asking.Asked.TheVariants as asked
use Rattle.kept_logs.specs.Stamps.{Stamp, no_stamp}
use Rattle.node_service.specs.declared.asking.Noted as noted
use Rattle.node_service.specs.declared.questions.Question.{Question}
use Rattle.node_service.specs.declared.questions.Question.TheVariants.{Answer, Count, Open, Row, Payments}

-- a call with texts of its own
abbrev pub Call : Type 0
Call = declared.Call (List ℕ)

-- a request in printed bytes, which may be empty
abbrev pub submission : List ℕ → Option Call
submission text = option_map Submit (result_ok (unprinted text))

-- the node that sent a packet and, after one space, the packet in printed bytes
unfoldable pub taking : List ℕ → Option Call
taking rest = do
  parts ← split_word rest
  from ← node_in parts.0
  bytes ← result_ok (unprinted parts.1)
  Some (Take from bytes)

-- the bytes that a text spells
abbrev pub bytes_in : List ℕ → Option (List ℕ)
bytes_in text = result_ok (unprinted text)

-- the node that sent a packet, an advice as one word of printed bytes, and the packet in printed bytes, each after one space
unfoldable pub adjudication : List ℕ → Option Call
adjudication rest = do
  parts ← split_word rest
  from ← node_in parts.0
  words ← split_word parts.1
  advice ← bytes_in words.0
  bytes ← bytes_in words.1
  Some (Adjudicate from bytes advice)

-- a product and its price
unfoldable pub plan_change : List ℕ → Option Call
plan_change rest = do
  parts ← split_word rest
  product ← product_in parts.0
  price ← price_in parts.1
  Some (Plan product price)

-- a number of cents in 1 to 10 digits
abbrev pub cents_in : List ℕ → Option ℕ
cents_in word = decimal_number 10 word >>= price_of

-- a fee and a copay
unfoldable pub terms_change : List ℕ → Option Call
terms_change rest = do
  parts ← split_word rest
  fee ← cents_in parts.0
  copay ← cents_in parts.1
  Some (Terms fee copay)

-- the switches that it tries in turn, and two numbers, spelled as cents are: after how many ticks it sends again, and how often to one switch
unfoldable pub rule_change : List ℕ → Option Call
rule_change rest = do
  parts ← split_word rest
  nodes ← switches_in parts.0
  numbers ← split_word parts.1
  again ← cents_in numbers.0
  tries ← cents_in numbers.1
  Some (Retry nodes again tries)

-- the calls that are one word
abbrev pub plain_call : List ℕ → Option Call
plain_call line =
    if bytes_eq line (codes "tick") then Some Tick else
    if bytes_eq line (codes "stop") then Some Stop else
    if bytes_eq line (codes "start") then Some Start else None

-- the call of a word and what stands after it
abbrev pub call_with : List ℕ → List ℕ → Option Call
call_with word rest =
    if bytes_eq word (codes "submit") then submission rest else
    if bytes_eq word (codes "take") then taking rest else
    if bytes_eq word (codes "adjudicate") then adjudication rest else
    if bytes_eq word (codes "plan") then plan_change rest else
    if bytes_eq word (codes "terms") then terms_change rest else
    if bytes_eq word (codes "retry") then rule_change rest else
    if bytes_eq word (codes "cap") then option_map Cap (cap_in rest) else None

abbrev pub call_parted : List ℕ → Option (List ℕ × List ℕ) → Option Call
call_parted line (Some parts) = call_with parts.0 parts.1
call_parted line None = plain_call line

-- the call that a line spells
unfoldable pub call_of : List ℕ → Option Call
call_of line = call_parted line (split_word line)

-- a call, and what is noted of it
pub record Noted : Type 0 where
  pub call : Call
  pub stamp : Stamp

abbrev pub noted_seen : noted.Noted → Noted
noted_seen n = record { call = n.call; stamp = record { time = n.time; reference = n.reference } }

-- what the caller calls a submission: printed bytes without a space, of 1 to 64 bytes
abbrev pub reference_of : List ℕ → Option (List ℕ)
reference_of name = if nat_le 1 (length name) && nat_le (length name) 64 then Some name else None

unfoldable pub reference_in : List ℕ → Option (List ℕ)
reference_in word = result_ok (unprinted word) >>= reference_of

-- a submission under a reference, and after one space the request
unfoldable pub named_submission : List ℕ → Option Noted
named_submission rest = do
  parts ← split_word rest
  name ← reference_in parts.0
  call ← submission parts.1
  Some (record { call = call; stamp = record { time = 0; reference = name } })

-- a call of which nothing is noted
abbrev pub plain_call_of : Call → Noted
plain_call_of call = record { call = call; stamp = no_stamp }

abbrev pub unnoted : Option Call → Option Noted
unnoted call = option_map plain_call_of call

abbrev pub named_parted : List ℕ → Option (List ℕ × List ℕ) → Option Noted
named_parted line (Some parts) = if bytes_eq parts.0 (codes "submit-as") then named_submission parts.1 else unnoted (call_of line)
named_parted line None = unnoted (call_of line)

-- a call, or a submission under a reference
unfoldable pub named_of : List ℕ → Option Noted
named_of line = named_parted line (split_word line)

-- the same, at this time
abbrev pub at_time : ℕ → Option Noted → Option Noted
at_time time o = option_map (λ n. record { call = n.call; stamp = record { time = time; reference = n.stamp.reference } }) o

-- a time in 1 to 18 digits, and after one space a call
unfoldable pub timed : List ℕ → Option Noted
timed rest = do
  parts ← split_word rest
  time ← decimal_number 18 parts.0
  at_time time (named_of parts.1)

abbrev pub noted_parted : List ℕ → Option (List ℕ × List ℕ) → Option Noted
noted_parted line (Some parts) = if bytes_eq parts.0 (codes "at") then timed parts.1 else named_of line
noted_parted line None = named_of line

-- the call that a line spells, and what is noted of it
unfoldable pub noted_of : List ℕ → Option Noted
noted_of line = noted_parted line (split_word line)

-- what a line asks: a call on the node, of which something may be noted, or something to be told that changes nothing
pub data Asked : Type 0 where
  Calls : Noted → Asked
  Tells : Question → Asked

-- what the code's value says
abbrev pub asked_seen : value.Asked → Asked
asked_seen (asked.Call n) = Calls (noted_seen n)
asked_seen (asked.Tell question) = Tells question

-- from which number on, and how many, each in 1 to 18 digits
unfoldable pub range_in : List ℕ → Option (ℕ × ℕ)
range_in rest = do
  parts ← split_word rest
  number ← decimal_number 18 parts.0
  count ← decimal_number 18 parts.1
  Some (number, count)

-- the question of a word with such a range
abbrev pub ranged_question : List ℕ → ℕ × ℕ → Option Question
ranged_question word range =
    if bytes_eq word (codes "open") then Some (Open range.0 range.1) else
    if bytes_eq word (codes "payments") then Some (Payments range.0 range.1) else None

-- the question of a word and what stands after it
abbrev pub question_with : List ℕ → List ℕ → Option Question
question_with word rest =
    if bytes_eq word (codes "answer") then option_map Answer (decimal_number 18 rest) else
    if bytes_eq word (codes "row") then option_map Row (decimal_number 18 rest) else
    range_in rest >>= ranged_question word

-- the question that is one word
abbrev pub plain_question : List ℕ → Option Question
plain_question line = if bytes_eq line (codes "count") then Some Count else None

abbrev pub question_parted : List ℕ → Option (List ℕ × List ℕ) → Option Question
question_parted line (Some parts) = question_with parts.0 parts.1
question_parted line None = plain_question line

-- the question that a line spells
unfoldable pub question_of : List ℕ → Option Question
question_of line = question_parted line (split_word line)

abbrev pub or_question : List ℕ → Option Noted → Option Asked
or_question line (Some n) = Some (Calls n)
or_question line None = option_map Tells (question_of line)

-- what a line spells
unfoldable pub asked_of : List ℕ → Option Asked
asked_of line = or_question line (noted_of line)
