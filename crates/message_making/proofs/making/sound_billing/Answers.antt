use Rattle.std.proofs.Common.{refl}
use Rattle.message_making.proofs.Built.{billing_right}
use Rattle.message_making.proofs.making.sound_billing.Goals as goal

pub header_of-requires-clause-sound : goal.header_of-requires-clause-sound
header_of-requires-clause-sound c = (billing_right c.args.fields.now c.requires).wrong

pub amount_of-requires : goal.amount_of-requires
amount_of-requires c = rw ((billing_right c.args.fields.now c.requires).cost) refl

pub amount_of-requires-2 : goal.amount_of-requires-2
amount_of-requires-2 c = rw ((billing_right c.args.fields.now c.requires).fee) refl
