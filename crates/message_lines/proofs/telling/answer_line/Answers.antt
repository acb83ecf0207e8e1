use Rattle.std.proofs.Common.{None, refl, rules}
use Rattle.message_lines.specs.declared.fault.Fault.TheVariants.{NoBytes}
use Rattle.message_lines.proofs.telling.answer_line.Goals as goal

pub returns-in_ok-put_message-in-Ok : goal.returns-in_ok-put_message-in-Ok
returns-in_ok-put_message-in-Ok c = record {
  made = c.in-Ok.made;
  is = search rules;
  some = search rules;
  text = search rules;
}

pub returns-in_ok-put_why-in-Ok-2 : goal.returns-in_ok-put_why-in-Ok-2
returns-in_ok-put_why-in-Ok-2 c = record {
  refusal = record { fault = NoBytes; described = None };
  why = (λ _. record { made = c.in-Ok-2.field-0; is = search rules; none = search rules }, λ other. absurd (other refl));
  text = search rules;
}
