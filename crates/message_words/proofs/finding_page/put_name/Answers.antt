use Rattle.std.proofs.Common.{List, ℕ, ◌++◌, codes, subst}
use Rattle.message_words.specs.Written.{Takes}
use Rattle.message_words.proofs.finding_page.put_name.Goals as goal

pub returns : goal.returns
returns c = subst (λ (name : List ℕ). Takes (codes "{\"finding\":\"" ++ name ++ codes "\"") c.args.out.now c.between.new.self) c.as_bytes.ensures.value c.between.ensures
