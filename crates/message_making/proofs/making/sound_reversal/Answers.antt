use Rattle.message_making.proofs.Built.{reversal_right}
use Rattle.message_making.proofs.making.sound_reversal.Goals as goal

pub header_of-requires-clause-sound : goal.header_of-requires-clause-sound
header_of-requires-clause-sound c = (reversal_right c.args.fields.now c.requires).wrong
