use Rattle.std.proofs.Common.{[], append-nil, sym, ◌∙◌}
use Rattle.message_making.specs.PlainFields.{header_said}
use Rattle.message_making.proofs.Built.{header_right, header_sound}
use Rattle.message_making.proofs.header.header_of.Goals as goal

pub unreachable-requires : goal.unreachable-requires
unreachable-requires c =
    let is = c.read.ensures.only (header_said c.args.code c.args.fields.now) [] (header_sound c.args.code c.args.fields.now c.requires.code (header_right c.args.fields.now c.requires.sound)) (c.header_bytes-text.ensures ∙ sym (append-nil _)) in
    absurd cc

pub returns : goal.returns
returns c =
    let is = c.read.ensures.only (header_said c.args.code c.args.fields.now) [] (header_sound c.args.code c.args.fields.now c.requires.code (header_right c.args.fields.now c.requires.sound)) (c.header_bytes-text.ensures ∙ sym (append-nil _)) in
    cc
