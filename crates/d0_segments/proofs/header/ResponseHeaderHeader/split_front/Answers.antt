use Rattle.std.proofs.Common.{drop, length, ap, arith, length-append}
use Rattle.d0_header.specs.Response.{response_text}
use Rattle.d0_segments.proofs.header.ResponseHeaderHeader.split_front.Goals as goal

pub behind-requires : goal.behind-requires
behind-requires c =
    let h = c.in_ok-header.header in
    let found = c.in_ok-header.ensures.found in
    omega (arith, ap length found.1, length-append (response_text h) (drop 31 c.args.bytes.now), c.response_text_laws.ensures.width h found.0)

pub returns-clause-long : goal.returns-clause-long
returns-clause-long c =
    let h = c.in_ok-header.header in
    let found = c.in_ok-header.ensures.found in
    omega (arith, ap length found.1, length-append (response_text h) (drop 31 c.args.bytes.now), c.response_text_laws.ensures.width h found.0)
