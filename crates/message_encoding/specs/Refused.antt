-- Why nothing is made of a part or a description.
use Rattle.std.specs.Prelude.{◌≡◌, ℕ, List, Option, Some, None, Result, MatchResult}
use Rattle.std.specs.Global.{Vec}
use Rattle.message_encoding.specs.declared.fault.PartFault.{PartFault}
use Rattle.message_encoding.specs.declared.fault.PartFault.TheVariants as part
use Rattle.message_encoding.specs.declared.fault.Misfit.{Misfit}
use Rattle.message_encoding.specs.declared.fault.Misfit.TheVariants as whole
use Rattle.serde_json.specs.Data.{Data, Items}
use Rattle.message_encoding.specs.Parts.{all_bytes, first_wrong, message_of, parts_in}

-- a part stands for no bytes; where memory was refused nothing is said
abbrev pub RefusedFor : PartFault → Option (List ℕ) → Type 0
RefusedFor part.OutOfMemory bytes = Unit {0}
RefusedFor _ bytes = bytes ≡ None

-- a part is these bytes, or stands for none
abbrev pub Gives : Result (Vec ℕ) PartFault → Option (List ℕ) → Type 0
Gives result bytes = MatchResult result (λ made. bytes ≡ Some made.items) (λ why. RefusedFor why bytes)

-- parts are no message: the first that stands for no bytes is told; where memory was refused nothing is said
abbrev pub WrongIn : Misfit → Items → Type 0
WrongIn whole.OutOfMemory parts = Unit {0}
WrongIn whole.NoParts parts = ⊥
WrongIn (whole.Part place why) parts = first_wrong 0 parts ≡ Some place

abbrev pub WrongInSome : Misfit → Option Items → Type 0
WrongInSome why None = why ≡ whole.NoParts
WrongInSome why (Some parts) = WrongIn why parts

-- a description tells no message
abbrev pub MisfitFor : Misfit → Data → Type 0
MisfitFor why d = WrongInSome why (parts_in d)

-- parts are these bytes, or the first that stands for none is told
abbrev pub GivesAll : Result (Vec ℕ) Misfit → Items → Type 0
GivesAll result parts = MatchResult result (λ made. all_bytes parts ≡ Some made.items) (λ why. WrongIn why parts)

-- a description tells this message, or is no message for this cause
abbrev pub GivesMessage : Result (Vec ℕ) Misfit → Data → Type 0
GivesMessage result d = MatchResult result (λ made. message_of d ≡ Some made.items) (λ why. MisfitFor why d)
