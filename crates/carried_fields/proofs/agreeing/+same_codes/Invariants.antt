use Rattle.std.proofs.Common.{length}
use Rattle.carried_fields.proofs.agreeing.+same_codes.Given as goal

abbrev pub decreases-same_codes : goal.decreases-same_codes
decreases-same_codes l = length l.own.now
