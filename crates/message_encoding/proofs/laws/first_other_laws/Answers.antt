use Rattle.message_encoding.proofs.Others.{all_alike, differ_at, none_other, told_at}
use Rattle.message_encoding.proofs.laws.first_other_laws.Goals as goal

pub returns-clause-place : goal.returns-clause-place
returns-clause-place c = λ parts others place. (differ_at parts others place, told_at parts others place)

pub returns-clause-none : goal.returns-clause-none
returns-clause-none c = λ parts others. (none_other 0 parts others, all_alike 0 parts others)
