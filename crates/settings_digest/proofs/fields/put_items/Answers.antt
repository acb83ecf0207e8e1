use Rattle.std.proofs.Common.{◌+◌, drop, arith}
use Rattle.std.proofs.lemmas.List.{drop_all}
use Rattle.settings_digest.proofs.Putting.{left_at, goes_on, ends}
use Rattle.settings_digest.proofs.fields.put_items.Goals as goal

pub loop-item-preserved : goal.loop-item-preserved
loop-item-preserved g c =
    let items = c.args.items.now in
    let i = c.loop-item.item-index in
    goes_on g.T.Say.text g.T.Say.Fits c.args.out.now.items c.loop-item.out.items c.say.new.out.items items (drop i items) c.item-item.result (drop (i + 1) items)
    (left_at items i c.item-item.result (omega arith) c.item-item.is) c.in_ok-say.ensures.text c.in_ok-say.ensures.fits c.loop-item.invariant

pub returns-clause-text : goal.returns-clause-text
returns-clause-text g c =
    let items = c.args.items.now in
    let i = c.loop-item.item-index in
    (ends g.T.Say.text g.T.Say.Fits c.args.out.now.items c.loop-item.out.items items (drop i items) (drop_all i items (omega arith)) c.loop-item.invariant).0

pub returns-clause-fits : goal.returns-clause-fits
returns-clause-fits g c =
    let items = c.args.items.now in
    let i = c.loop-item.item-index in
    (ends g.T.Say.text g.T.Say.Fits c.args.out.now.items c.loop-item.out.items items (drop i items) (drop_all i items (omega arith)) c.loop-item.invariant).1
