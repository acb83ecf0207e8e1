use Rattle.log_audit.proofs.tables.columns.put_names.Goals as goal

pub returns-in-Payments : goal.returns-in-Payments
returns-in-Payments c = rw c.in-Payments.is c.put_head.ensures

pub returns-in-Rows : goal.returns-in-Rows
returns-in-Rows c = rw c.in-Rows.is c.put_head-in-Rows.ensures

pub returns-in-Packets : goal.returns-in-Packets
returns-in-Packets c = rw c.in-Packets.is c.put_head-in-Packets.ensures

pub returns-in-Counted : goal.returns-in-Counted
returns-in-Counted c = rw c.in-Counted.is c.put_head-in-Counted.ensures
