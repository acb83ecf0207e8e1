use Rattle.std.proofs.Common.{arith, ◌<◌, length, ap}
use Rattle.std.proofs.lemmas.List.{length-take-le}
use Rattle.claim_profile.specs.declared.reject.Code.TheVariants.{Bin}
use Rattle.claim_profile.proofs.Room.{length-one_more, drop-one_more}
use Rattle.claim_profile.proofs.reject.FewCodes.push.Goals as goal

pub invariant_of-self : goal.invariant_of-self
invariant_of-self c =
    let fields = c.self.inside in
    let short = length-take-le fields.count fields.codes (omega (arith, c.self.invariant.0, c.self.invariant.1)) in
    let room : fields.count < 5 = omega (arith, short, ap length c.self.view_is, c.requires) in
    (omega arith, length-one_more 5 fields.codes fields.count c.args.code c.self.invariant.1, drop-one_more 5 fields.codes fields.count c.args.code Bin c.self.invariant.1 room c.self.invariant.2)
