use Rattle.std.proofs.Common.{List, ℕ, ◌++◌, codes}
use Rattle.std.specs.Fmt.{decimal}
use Rattle.message_words.specs.Encoded.{word_member, number_member}
use Rattle.message_words.proofs.Written.{both}
use Rattle.message_words.proofs.part_rows.put_group_object.Goals as goal

pub returns : goal.returns
returns c =
    let u : List ℕ = codes "{\"at\":" in
    let v : List ℕ = decimal c.args.place in
    let w : List ℕ = word_member (codes "name") (codes "transaction") in
    let x : List ℕ = number_member (codes "transaction") c.args.count in
    both (u ++ v ++ w ++ x) (codes "}") c.args.out.now c.number_member.new.self c.put-2.new.self
    (both (u ++ v ++ w) x c.args.out.now c.word_member.new.self c.number_member.new.self
    (both (u ++ v) w c.args.out.now c.number.new.self c.word_member.new.self (both u v c.args.out.now c.put.new.self c.number.new.self c.put.ensures c.number.ensures) c.word_member.ensures)
    c.number_member.ensures)
    c.put-2.ensures
