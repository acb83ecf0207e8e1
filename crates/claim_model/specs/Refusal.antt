-- Why a call is refused: the refusals of each node, and those of the world, by their names.
use Rattle.std.specs.Prelude.{◌≡◌, ℕ, List, codes, Option, Some, None, Result, Err}
use Rattle.claim_model.specs.Words.{EnvelopeFault, PlanFault}
use Rattle.envelope.specs.declared.opening.EnvelopeFault.TheVariants as envelope
use Rattle.plan_rules.specs.declared.fault.PlanFault.TheVariants as price
pub use Rattle.claim_model.specs.declared.refusal.Refusal.{Refusal}
-- of the world and its nodes
pub use Rattle.claim_model.specs.declared.refusal.Refusal.TheVariants.{NoSuchNode, NoSuchPacket, Down, AlreadyUp}
-- the bytes of a packet are no envelope
pub use Rattle.claim_model.specs.declared.refusal.Refusal.TheVariants.{NoEnvelope}
-- not a text of the kind that is asked for, or an envelope of the other kind
pub use Rattle.claim_model.specs.declared.refusal.Refusal.TheVariants.{Unreadable}
-- of a submission
pub use Rattle.claim_model.specs.declared.refusal.Refusal.TheVariants.{Version, CodeNotCarried, NotOwnProvider, TooLong, JournalFull}
-- of an answer at a pharmacy; Differs also at a switch
pub use Rattle.claim_model.specs.declared.refusal.Refusal.TheVariants.{NotMine, NoSuchNumber, AlreadySettled, Differs}
-- of a request at a switch or a payer, and of an answer at a switch
pub use Rattle.claim_model.specs.declared.refusal.Refusal.TheVariants.{NumberReused, NotWaiting}
-- of a request at a payer
pub use Rattle.claim_model.specs.declared.refusal.Refusal.TheVariants.{NotOurs, BookFull, SerialsUsedUp}
-- of a request at a payer that asks, and of an advice at one that does not
pub use Rattle.claim_model.specs.declared.refusal.Refusal.TheVariants.{NotAdvised, NotAsked}
-- of a price
pub use Rattle.claim_model.specs.declared.refusal.Refusal.TheVariants.{NotPriced}
-- of a rule of retries
pub use Rattle.claim_model.specs.declared.refusal.Refusal.TheVariants.{BadRule}
pub use Rattle.claim_model.specs.declared.refusal.Fault.{Fault}
use Rattle.claim_model.specs.declared.refusal.Fault.TheVariants as fault

-- which refusal a fault is; want of memory is none
abbrev pub refusal_of : Fault → Option Refusal
refusal_of fault.OutOfMemory = None
refusal_of (fault.Refused why) = Some why

-- which refusal a fault of a plan is
abbrev pub refusal_of_price : PlanFault → Option Refusal
refusal_of_price price.OutOfMemory = None
refusal_of_price other = Some (NotPriced other)

-- a step is refused for this cause; want of memory says nothing of it
abbrev pub IsRefused : {A : Type 0} → Option Refusal → Result A Refusal → Type 0
IsRefused None step = Unit {0}
IsRefused (Some why) step = step ≡ Err why

-- ---- names, as programs print them

-- what is wrong with bytes that are no envelope
abbrev pub envelope_name : EnvelopeFault → List ℕ
envelope_name envelope.Short = codes "Short"
envelope_name envelope.NotEnvelope = codes "NotEnvelope"
envelope_name envelope.Version = codes "Version"
envelope_name envelope.Kind = codes "Kind"
envelope_name envelope.ZeroNumber = codes "ZeroNumber"
envelope_name (envelope.Length said found) = codes "Length"
envelope_name envelope.TooLong = codes "TooLong"

-- what is wrong with a price
abbrev pub price_name : PlanFault → List ℕ
price_name price.OutOfMemory = codes "OutOfMemory"
price_name price.PriceTooLarge = codes "PriceTooLarge"
price_name price.BadProduct = codes "BadProduct"
price_name price.PlanFull = codes "PlanFull"
price_name price.NegativeAmount = codes "NegativeAmount"

-- a refusal; of one with a cause within, the name of the cause
abbrev pub refusal_name : Refusal → List ℕ
refusal_name NoSuchNode = codes "NoSuchNode"
refusal_name NoSuchPacket = codes "NoSuchPacket"
refusal_name Down = codes "Down"
refusal_name AlreadyUp = codes "AlreadyUp"
refusal_name (NoEnvelope why) = envelope_name why
refusal_name Unreadable = codes "Unreadable"
refusal_name Version = codes "Version"
refusal_name CodeNotCarried = codes "CodeNotCarried"
refusal_name NotOwnProvider = codes "NotOwnProvider"
refusal_name TooLong = codes "TooLong"
refusal_name JournalFull = codes "JournalFull"
refusal_name NotMine = codes "NotMine"
refusal_name NoSuchNumber = codes "NoSuchNumber"
refusal_name AlreadySettled = codes "AlreadySettled"
refusal_name Differs = codes "Differs"
refusal_name NumberReused = codes "NumberReused"
refusal_name NotWaiting = codes "NotWaiting"
refusal_name NotOurs = codes "NotOurs"
refusal_name BookFull = codes "BookFull"
refusal_name SerialsUsedUp = codes "SerialsUsedUp"
refusal_name NotAdvised = codes "NotAdvised"
refusal_name NotAsked = codes "NotAsked"
refusal_name (NotPriced why) = price_name why
refusal_name BadRule = codes "BadRule"

-- a refusal, or want of memory where there is none
abbrev pub name_by : Option Refusal → List ℕ
name_by None = codes "OutOfMemory"
name_by (Some why) = refusal_name why
