-- Tills as contracts see them, and their room.
use Rattle.std.specs.Prelude.{◌<◌, vec_len, vec_capacity}
use Rattle.node_logged.specs.Tills as tills
use Rattle.node_logged.specs.declared.till.Till.{Till}

-- a till
abbrev pub till_seen : Till → tills.Till
till_seen t = record { pharmacy = t.pharmacy; receipts = t.receipts.items; heard = t.heard.entries }

-- a till with room for one receipt more
abbrev pub HasRoom : Till → Type 0
HasRoom t = vec_len t.receipts < vec_capacity t.receipts
