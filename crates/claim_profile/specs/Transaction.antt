-- What kind of transaction a request is: its transaction code (103-A3), told apart here and nowhere else.
use Rattle.std.specs.Prelude.{ℕ, List, Option, Some, None, codes, if◌then◌else◌}
use Rattle.std.specs.Str.{bytes_eq}
use Rattle.claim_profile.specs.declared.transaction.TransactionCode.{TransactionCode}
use Rattle.claim_profile.specs.declared.transaction.TransactionCode.TheVariants.{Billing, Reversal}

-- the bytes of a code
abbrev pub code_bytes : TransactionCode → List ℕ
code_bytes Billing = codes "B1"
code_bytes Reversal = codes "B2"

-- the code that these bytes are; all other bytes are none
unfoldable pub transaction_code : List ℕ → Option TransactionCode
transaction_code bytes =
    if bytes_eq bytes (code_bytes Billing) then Some Billing
    else (if bytes_eq bytes (code_bytes Reversal) then Some Reversal else None)
