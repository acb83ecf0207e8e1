-- Answers without their authorization numbers.
use Rattle.std.specs.Prelude.{map}
use Rattle.claim_profile.specs.declared.ruling.Ruling.{Ruling}
use Rattle.claim_profile.specs.declared.ruling.Ruling.TheVariants.{Paid, Duplicate, Reversed, Rejected}
use Rattle.claim_profile.specs.Ruling.{AnswerParts, unread}

abbrev pub unnamed : Ruling → Ruling
unnamed (Paid auth prescription amounts) = Paid unread prescription amounts
unnamed (Duplicate auth prescription amounts) = Duplicate unread prescription amounts
unnamed (Reversed auth prescription) = Reversed unread prescription
unnamed (Rejected rejects) = Rejected rejects

abbrev pub unnamed_parts : AnswerParts → AnswerParts
unnamed_parts a = record { header = a.header; rulings = map unnamed a.rulings }
