use Rattle.plan_rules.proofs.Storing.{stored_old, stored_if_room, refused_for_room, unknown_without_place}
use Rattle.plan_rules.proofs.prices.set_price.Goals as goal

pub returns-in-Ok-clause-ok : goal.returns-in-Ok-clause-ok
returns-in-Ok-clause-ok c =
    let place = rw (c.deref.ensures.value, c.as_slice.ensures.bytes) at c.in-Ok.ensures.place in
    stored_old c.args.prices.now.items c.args.product c.args.price c.requires c.in-Ok.place place

pub returns-in-Err-clause-ok : goal.returns-in-Err-clause-ok
returns-in-Err-clause-ok c =
    let place = rw (c.deref.ensures.value, c.as_slice.ensures.bytes) at c.in-Err.ensures.place in
    stored_if_room c.args.prices.now.items c.args.product c.args.price c.requires c.in-Err.place c.insert_price.result c.insert_price.new.prices.items place c.insert_price.ensures.ok c.insert_price.ensures.room

pub returns-in-Err-clause-cause : goal.returns-in-Err-clause-cause
returns-in-Err-clause-cause c =
    let place = rw (c.deref.ensures.value, c.as_slice.ensures.bytes) at c.in-Err.ensures.place in
    refused_for_room c.args.prices.now.items c.args.product c.args.price c.requires c.in-Err.place c.insert_price.result place c.insert_price.ensures.cause

pub returns-in-Err-clause-known : goal.returns-in-Err-clause-known
returns-in-Err-clause-known c some =
    let place = rw (c.deref.ensures.value, c.as_slice.ensures.bytes) at c.in-Err.ensures.place in
    absurd (unknown_without_place c.args.prices.now.items c.args.product c.args.price c.requires c.in-Err.place place some)
