use Rattle.std.proofs.Common.{arith, ◌<◌, length, ap}
use Rattle.std.proofs.lemmas.List.{length-take-le}
use Rattle.claim_reports.proofs.Numbered.{length-one_more, drop-one_more}
use Rattle.claim_reports.proofs.books.Books.push.Goals as goal

pub invariant_of-self : goal.invariant_of-self
invariant_of-self c =
    let fields = c.self.inside in
    let short = length-take-le fields.count fields.spans (omega (arith, c.self.invariant.0, c.self.invariant.1)) in
    let room : fields.count < 32 = omega (arith, short, ap length c.self.view_is, c.requires) in
    (omega arith, length-one_more 32 fields.spans fields.count c.args.span c.self.invariant.1, drop-one_more 32 fields.spans fields.count c.args.span (record { first = 0; last = 0 }) c.self.invariant.1 room c.self.invariant.2)
