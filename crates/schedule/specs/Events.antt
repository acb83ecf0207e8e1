-- The event that a line spells: words parted by exactly one space, and nothing is trimmed.
use Rattle.std.specs.Prelude.{ℕ, ◌==◌, Bool, true, false, List, length, nat_le, codes, bytes_eq, Option, Some, None, if◌then◌else◌}
use Rattle.std.specs.List.{list_all}
use Rattle.std.specs.Option.{option_map}
use Rattle.std.specs.Result.{result_ok}
use Rattle.input_text.specs.Options.{◌>>=◌}
use Rattle.input_text.specs.Words.{split_word}
use Rattle.input_text.specs.Decimals.{decimal_number}
use Rattle.input_text.specs.Printing.{unprinted}
use Rattle.claim_model.specs.Limits.{widest}
use Rattle.switch_node.specs.Settings.{settings_within}
use Rattle.world_setup.specs.declared.event.Event.{Event}
use Rattle.world_setup.specs.declared.event.Event.TheVariants.{Submit, Tick, Deliver, Stop, Start, Plan, Terms, Retry, Cap, Adjudicate}
use Rattle.schedule.specs.Nodes.{pharmacy_in, switch_in, payer_in, node_in}
use Rattle.schedule.specs.Switches.{switches_in}

-- a pharmacy and, after one space, the rest of the line: a request in printed bytes, which may be empty
unfoldable pub submission : List ℕ → Option Event
submission rest = do
  parts ← split_word rest
  pharmacy ← pharmacy_in parts.0
  text ← result_ok (unprinted parts.1)
  Some (Submit pharmacy text)

-- a product: one or more printed bytes without a space; the bytes that they spell may have one
abbrev pub product_in : List ℕ → Option (List ℕ)
product_in word = if length word == 0 then None else result_ok (unprinted word)

-- a number of 32 bits
abbrev pub price_of : ℕ → Option ℕ
price_of number = if nat_le number 4294967295 then Some number else None

-- a price of at most 18 digits, or `none`
abbrev pub price_in : List ℕ → Option (Option ℕ)
price_in word = if bytes_eq word (codes "none") then Some None else option_map (λ price. Some price) (decimal_number 18 word >>= price_of)

-- a payer, a product and a price
unfoldable pub plan_change : List ℕ → Option Event
plan_change rest = do
  parts ← split_word rest
  payer ← payer_in parts.0
  words ← split_word parts.1
  product ← product_in words.0
  price ← price_in words.1
  Some (Plan payer product price)

-- the events that have no text: after their word stands one word
unfoldable pub plain_event : List ℕ → List ℕ → Option Event
plain_event word rest =
    if bytes_eq word (codes "tick") then option_map Tick (pharmacy_in rest) else
    if bytes_eq word (codes "deliver") then option_map Deliver (decimal_number 18 rest) else
    if bytes_eq word (codes "stop") then option_map Stop (node_in rest) else
    if bytes_eq word (codes "start") then option_map Start (node_in rest) else None

-- the event of a word and what stands after it
abbrev pub event_with : List ℕ → List ℕ → Option Event
event_with word rest =
    if bytes_eq word (codes "submit") then submission rest else
    if bytes_eq word (codes "plan") then plan_change rest else plain_event word rest

-- the event that a line spells
unfoldable pub event_of : List ℕ → Option Event
event_of line = split_word line >>= (λ parts. event_with parts.0 parts.1)

-- ---- of nodes that live: a payer may ask, its terms may change, and so may the rule by which a pharmacy sends again, and the cap of a switch

-- a packet and, after one space, the rest of the line: an advice in printed bytes, which may be empty
unfoldable pub adjudication : List ℕ → Option Event
adjudication rest = do
  parts ← split_word rest
  packet ← decimal_number 18 parts.0
  advice ← result_ok (unprinted parts.1)
  Some (Adjudicate packet advice)

-- a number of cents, of at most 10 digits
abbrev pub cents_in : List ℕ → Option ℕ
cents_in word = decimal_number 10 word >>= price_of

-- a payer, a fee and a copay
unfoldable pub terms_change : List ℕ → Option Event
terms_change rest = do
  parts ← split_word rest
  payer ← payer_in parts.0
  words ← split_word parts.1
  fee ← cents_in words.0
  copay ← cents_in words.1
  Some (Terms payer fee copay)

-- a pharmacy, the switches that it tries in turn, and two numbers, spelled as cents are: after how many ticks it sends again, and how often to one switch
unfoldable pub rule_change : List ℕ → Option Event
rule_change rest = do
  parts ← split_word rest
  pharmacy ← pharmacy_in parts.0
  words ← split_word parts.1
  nodes ← switches_in words.0
  numbers ← split_word words.1
  again ← cents_in numbers.0
  tries ← cents_in numbers.1
  Some (Retry pharmacy nodes again tries)

-- the cap of a switch, spelled as cents are: 1 to 16,777,216
abbrev pub cap_in : List ℕ → Option ℕ
cap_in word = cents_in word >>= λ cap. result_ok (settings_within widest cap)

-- a switch and its cap
unfoldable pub cap_change : List ℕ → Option Event
cap_change rest = do
  parts ← split_word rest
  switch ← switch_in parts.0
  cap ← cap_in parts.1
  Some (Cap switch cap)

-- the event of a word and what stands after it
abbrev pub living_event_with : List ℕ → List ℕ → Option Event
living_event_with word rest =
    if bytes_eq word (codes "adjudicate") then adjudication rest else
    if bytes_eq word (codes "terms") then terms_change rest else
    if bytes_eq word (codes "retry") then rule_change rest else
    if bytes_eq word (codes "cap") then cap_change rest else event_with word rest

-- the event that a line spells
unfoldable pub living_event_of : List ℕ → Option Event
living_event_of line = split_word line >>= (λ parts. living_event_with parts.0 parts.1)

-- what a line spells, where nodes live and where they do not
abbrev pub line_event : Bool → List ℕ → Option Event
line_event false = event_of
line_event true = living_event_of

-- an event that has a line also where nodes do not live: no packet with an advice, and no change of terms, of a rule of retries or of a cap
abbrev pub has_no_advice : Event → Bool
has_no_advice (Submit pharmacy text) = true
has_no_advice (Tick pharmacy) = true
has_no_advice (Deliver packet) = true
has_no_advice (Stop node) = true
has_no_advice (Start node) = true
has_no_advice (Plan payer product price) = true
has_no_advice (Terms payer fee copay) = false
has_no_advice (Retry pharmacy nodes again tries) = false
has_no_advice (Cap switch cap) = false
has_no_advice (Adjudicate packet advice) = false

abbrev pub have_no_advice : List Event → Bool
have_no_advice events = list_all has_no_advice events
