-- What is said of a message that was not made.
use Rattle.std.specs.Prelude.{Option, Some, None}
use Rattle.message_making.specs.declared.judging.WrongField.{WrongField}
use Rattle.message_making.specs.declared.making.MakingFault.{MakingFault}
use Rattle.message_making.specs.declared.making.MakingFault.TheVariants.{OutOfMemory, Field}

-- the field that a refusal says to be wrong: where memory was refused none is
abbrev pub wrong_told : MakingFault → Option WrongField
wrong_told OutOfMemory = None
wrong_told (Field wrong) = Some wrong
