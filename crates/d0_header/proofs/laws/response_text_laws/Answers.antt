use Rattle.d0_header.proofs.ResponseLemmas.{text_stands, sound}
use Rattle.d0_header.proofs.laws.response_text_laws.Goals as goal

pub returns-clause-found : goal.returns-clause-found
returns-clause-found c = λ bytes none. (sound bytes none, text_stands bytes none)
