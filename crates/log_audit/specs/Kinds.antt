-- Kinds of requests and of nodes, and members of rows.
use Rattle.std.specs.Prelude.{ℕ, Bool, List, [], codes, Option, Some, None}
use Rattle.claim_profile.specs.declared.transaction.TransactionCode.{TransactionCode}
use Rattle.claim_profile.specs.declared.transaction.TransactionCode.TheVariants as transaction
use Rattle.claim_profile.specs.Transaction.{transaction_code}
use Rattle.claim_model.specs.Words.{RequestHeader}
use Rattle.claim_model.specs.Node.{Node, Pharmacy, Switch, Payer}
use Rattle.table_text.specs.Members.{Member, Number, Text, Named, Flag, number_or_nothing}

-- the word for a kind of transaction
abbrev pub kind_named : Option TransactionCode → List ℕ
kind_named (Some transaction.Billing) = codes "billing"
kind_named (Some transaction.Reversal) = codes "reversal"
kind_named None = []

-- what a request of this code is; nothing under another code, which no entry and no row has
abbrev pub kind_word : List ℕ → List ℕ
kind_word code = kind_named (transaction_code code)

-- the kind of a request by its header; a request that is not readable, which no row has, has none
abbrev pub kind_in : Option RequestHeader → List ℕ
kind_in None = []
kind_in (Some h) = kind_word h.code

-- the date of service of a request by its header
abbrev pub date_in : Option RequestHeader → List ℕ
date_in None = codes "        "
date_in (Some h) = h.date

abbrev pub letters_of : Node → List ℕ
letters_of (Pharmacy number) = codes "ph"
letters_of (Switch number) = codes "sw"
letters_of (Payer number) = codes "pr"

abbrev pub number_of : Node → ℕ
number_of (Pharmacy number) = number
number_of (Switch number) = number
number_of (Payer number) = number

-- a number, a text, a truth, a number that may not be there, and a node, each with the name of its column
abbrev pub number_member : List ℕ → ℕ → Member
number_member name number = record { name = name; value = Number number }

abbrev pub text_member : List ℕ → List ℕ → Member
text_member name text = record { name = name; value = Text text }

abbrev pub flag_member : List ℕ → Bool → Member
flag_member name holds = record { name = name; value = Flag holds }

abbrev pub optional_member : List ℕ → Option ℕ → Member
optional_member name number = record { name = name; value = number_or_nothing number }

abbrev pub node_member : List ℕ → Node → Member
node_member name node = record { name = name; value = Named (letters_of node) (number_of node) }
