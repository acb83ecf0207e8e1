use Rattle.std.proofs.Common.{rules}
use Rattle.claim_profile.specs.contracts.authorization.AuthOrd.TheImpl as order
use Rattle.pharmacy_journal.proofs.Payable.{has_more}
use Rattle.log_audit.proofs.tables.counted.take_auth.Goals as goal

pub returns : goal.returns
returns c = λ a. has_more (order.cmp-value).it c.args.auths.now.keys c.insert.new.self.keys c.args.auth a (c.in_ok-insert.ensures.updates.0 a) (λ x y. search rules)
