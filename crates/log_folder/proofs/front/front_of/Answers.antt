use Rattle.std.proofs.Common.{refl, sym, ap, arith, ◌∙◌}
use Rattle.log_turning.specs.Files.{size_in}
use Rattle.log_folder.proofs.Fronts.{no_rest, with_rest}
use Rattle.log_folder.proofs.front.front_of.Goals as goal

pub returns-in-None : goal.returns-in-None
returns-in-None g c =
    record { front = no_rest (g.F.Readable.reads c.args.file.now) (g.F.Readable.reads c.rewind.new.self) (g.F.Readable.reads c.read_on.new.self) (g.F.Readable.reads c.rewind-in-None.new.self) c.in_ok-head.head.items c.in_ok-rewind.ensures c.in_ok-head.ensures.read c.in_ok-rewind-in-None.ensures (ap size_in (sym c.as_slice.ensures.value) ∙ sym c.in-None.ensures); failed = tt }

pub returns : goal.returns
returns g c =
    let head = c.in_ok-head.head.items in
    let rest = c.in_ok-rest-in-Some.rest.items in
    record { front = with_rest _ (g.F.Readable.reads c.args.file.now) (g.F.Readable.reads c.rewind.new.self) (g.F.Readable.reads c.read_on.new.self) (g.F.Readable.reads c.read_on-in-Some.new.self) head rest c.in-Some.size c.in_ok-rewind.ensures c.in_ok-head.ensures.read c.in_ok-rest-in-Some.ensures.read (ap size_in (sym c.as_slice.ensures.value) ∙ sym c.in-Some.ensures) refl (omega (arith, c.in_ok-head.head.ok, c.in_ok-rest-in-Some.rest.ok)); failed = tt }
