-- The numbers of what calls say.
use Rattle.std.specs.Prelude.{◌≡◌, ℕ, Result, Ok, Err}
use Rattle.node_handle.specs.declared.refusal.Refusal.{Refusal}
use Rattle.node_handle.specs.declared.refusal.Refusal.TheVariants.{OutOfMemory, Closed, Open, ShortBuffer, Name, Settings, NoSuchNode, OtherNode, NotALog, LogVersion, DamagedHead, NoKind, OtherSettings, Damaged, BadRecord, BadText, Unanswered, NotFound, NoRun, Unsynced, TooMany, FieldEmpty, FieldTooLong, FieldSeparator, FieldSpace, FieldDigits, FieldDay, NotARest}

-- the number of what a call says: 0 of one that was made
abbrev pub number_of : Result (Unit {0}) Refusal → ℕ
number_of (Ok made) = 0
number_of (Err OutOfMemory) = 1
number_of (Err Closed) = 2
number_of (Err Open) = 3
number_of (Err ShortBuffer) = 4
number_of (Err Name) = 5
number_of (Err Settings) = 6
number_of (Err NoSuchNode) = 7
number_of (Err OtherNode) = 8
number_of (Err NotALog) = 9
number_of (Err LogVersion) = 10
number_of (Err DamagedHead) = 11
number_of (Err NoKind) = 12
number_of (Err OtherSettings) = 13
number_of (Err Damaged) = 14
number_of (Err BadRecord) = 15
number_of (Err BadText) = 16
number_of (Err Unanswered) = 17
number_of (Err NotFound) = 18
number_of (Err NoRun) = 19
number_of (Err Unsynced) = 20
number_of (Err TooMany) = 21
number_of (Err FieldEmpty) = 22
number_of (Err FieldTooLong) = 23
number_of (Err FieldSeparator) = 24
number_of (Err FieldSpace) = 25
number_of (Err FieldDigits) = 26
number_of (Err FieldDay) = 27
number_of (Err NotARest) = 28

-- a number is that of a call's outcome, of which this holds
abbrev pub Says : ℕ → (Result (Unit {0}) Refusal → Type 0) → Type 0
Says number P = (said : Result (Unit {0}) Refusal) × ((number ≡ number_of said) × P said)
