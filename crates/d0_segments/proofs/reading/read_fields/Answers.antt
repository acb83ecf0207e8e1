use Rattle.std.proofs.Common.{◌≡◌, ◌∷◌, ◌++◌, []}
use Rattle.d0_segments.proofs.Taken.{fields_taken, fields_lie}
use Rattle.d0_segments.proofs.reading.read_fields.Goals as goal

pub loop-rest-preserved : goal.loop-rest-preserved
loop-rest-preserved c =
    let more : c.push.new.self.items ≡ c.loop-rest.fields.items ++ c.in_ok-field.field ∷ [] = c.in_ok-push.ensures.items in
    rw more (record {
      taken = fields_taken c.args.from c.loop-rest.rest c.in_ok-field.behind c.loop-rest.fields.items c.in_ok-field.field c.loop-rest.invariant.taken c.in_ok-field.ensures.taken;
      ends = c.in_ok-field.ensures.ends;
      lent = fields_lie c.args.from c.loop-rest.rest c.loop-rest.fields.items c.in_ok-field.field c.loop-rest.invariant.lent c.loop-rest.invariant.taken c.in_ok-field.ensures.lent;
    })
