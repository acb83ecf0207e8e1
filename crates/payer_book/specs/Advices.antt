-- An advice of the code, without its places in memory.
use Rattle.std.specs.Prelude.{ℕ, List, [], ◌∷◌, Option, Some, None}
use Rattle.claim_model.specs.Words.{Advice}
use Rattle.payer_book.specs.declared.book.advice.Advice.{Advice as Said}

abbrev pub advice_seen : Said → Advice
advice_seen a = record { rulings = a.rulings.now; text = a.text.now }

-- a text, where it has any byte
abbrev pub given : List ℕ → Option (List ℕ)
given [] = None
given (byte ∷ text) = Some (byte ∷ text)
