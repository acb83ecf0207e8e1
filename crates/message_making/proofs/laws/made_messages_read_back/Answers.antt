use Rattle.message_making.proofs.Built.{billing_right, is_billing, is_reversing, reversal_right, version_said}
use Rattle.message_making.specs.PlainFields.{billing_said, reversal_said}
use Rattle.message_making.proofs.laws.made_messages_read_back.Goals as goal

pub returns-clause-billing : goal.returns-clause-billing
returns-clause-billing c = λ b none.
    let is = is_billing b (billing_right b none) in
    record {
      readable = c.billing_laws.ensures.readable (billing_said b) is (version_said _ b.header);
      framed = c.billing_laws.ensures.again (billing_said b) is;
      order = c.billing_laws.ensures.order (billing_said b) is;
    }

pub returns-clause-reversal : goal.returns-clause-reversal
returns-clause-reversal c = λ r none.
    let is = is_reversing r (reversal_right r none) in
    record {
      readable = c.reversal_laws.ensures.readable (reversal_said r) is (version_said _ r.header);
      framed = c.reversal_laws.ensures.again (reversal_said r) is;
      order = c.reversal_laws.ensures.order (reversal_said r) is;
    }
