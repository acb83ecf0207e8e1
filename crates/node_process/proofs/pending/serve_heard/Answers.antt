use Rattle.std.proofs.Common.{◌++◌, ◌∙◌, sym, length}
use Rattle.node_process.proofs.Hearing.{taken_line, shorter, place_within}
use Rattle.node_process.proofs.pending.serve_heard.Goals as goal

pub loop-preserved : goal.loop-preserved
loop-preserved c =
    let found = sym c.newline_in.ensures.first ∙ c.in-Some.is in
    let served = c.in_ok-serve_line-in-Some.ensures in (
      taken_line c.args.service.now (c.args.pending.now.items ++ c.args.bytes.now) c.loop.service c.serve_line.new.service c.loop.pending.items c.serve_line.new.pending.items c.loop.rest.now c.behind-rest.result.now c.in-Some.end c.loop.invariant.0 found served.served
          served.none c.behind-rest.ensures served.fits,
      rw c.behind-rest.ensures (shorter c.loop.rest.now c.in-Some.end c.loop.counter (length c.args.bytes.now) c.loop.invariant.1 (place_within c.loop.rest.now c.in-Some.end found)),
    )
