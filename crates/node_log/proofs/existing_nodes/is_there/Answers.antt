use Rattle.std.proofs.Common.{sym, arith, ◌∙◌}
use Rattle.node_log.proofs.Opens.{pharmacy_there, switch_there, payer_there}
use Rattle.node_log.proofs.Options.{some_by}
use Rattle.node_log.proofs.existing_nodes.is_there.Goals as goal

pub returns-in-Pharmacy-clause-value : goal.returns-in-Pharmacy-clause-value
returns-in-Pharmacy-clause-value c = rw (c.in-Pharmacy.is, c.is_numbered.ensures) (pharmacy_there c.args.settings.now.pharmacies.items c.len.result c.in-Pharmacy.number (omega arith))

pub returns-in-Switch-clause-value : goal.returns-in-Switch-clause-value
returns-in-Switch-clause-value c = rw (c.in-Switch.is, c.is_numbered-in-Switch.ensures) (switch_there c.args.settings.now.switches.items c.len-in-Switch.result c.in-Switch.number (omega arith))

pub returns-in-Payer-clause-value : goal.returns-in-Payer-clause-value
returns-in-Payer-clause-value c = rw (c.in-Payer.is, c.is_numbered-in-Payer.ensures) (payer_there c.args.settings.now.payers.items c.len-in-Payer.result c.in-Payer.number (omega arith))

pub returns-in-Pharmacy-clause-opens : goal.returns-in-Pharmacy-clause-opens
returns-in-Pharmacy-clause-opens c = λ yes. rw c.in-Pharmacy.is (some_by _ (sym (pharmacy_there c.args.settings.now.pharmacies.items c.len.result c.in-Pharmacy.number (omega arith)) ∙ sym c.is_numbered.ensures ∙ yes))

pub returns-in-Switch-clause-opens : goal.returns-in-Switch-clause-opens
returns-in-Switch-clause-opens c = λ yes. rw c.in-Switch.is (some_by _ (sym (switch_there c.args.settings.now.switches.items c.len-in-Switch.result c.in-Switch.number (omega arith)) ∙ sym c.is_numbered-in-Switch.ensures ∙ yes))

pub returns-in-Payer-clause-opens : goal.returns-in-Payer-clause-opens
returns-in-Payer-clause-opens c = λ yes. rw c.in-Payer.is (some_by _ (sym (payer_there c.args.settings.now.payers.items c.len-in-Payer.result c.in-Payer.number (omega arith)) ∙ sym c.is_numbered-in-Payer.ensures ∙ yes))
