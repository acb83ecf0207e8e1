-- Under each text that the settings may have been opened from.
use Rattle.std.proofs.Common.{inl, rules}
use Rattle.std.proofs.lemmas.Result.{IfErr-weaker, IfOk-weaker}
use Rattle.node_service.proofs.Begun.{begins_with_rest}
use Rattle.node_handle.proofs.OfFiles.{of_file, refused_of_file}
use Rattle.node_handle.proofs.settings_handle.opened_under.Goals as goal

pub returns-in-Ok-clause-opened : goal.returns-in-Ok-clause-opened
returns-in-Ok-clause-opened c =
    IfOk-weaker c.boxed.result _ _
    (λ o h text of. record { node = c.in-Some.node; named = search rules; opened = of_file _ _ _ _ _ _ _ _ _ c.part_of-part.ensures c.before_log-first.ensures ((rw c.shared.ensures at c.in-Ok.ensures.opened) text of) h.1 (h.0 (begins_with_rest _ _ _ _ _ _ ((rw c.shared.ensures at c.in-Ok.ensures.opened) text of))) })
    c.boxed.ensures.boxed

pub returns-in-Ok-clause-refused : goal.returns-in-Ok-clause-refused
returns-in-Ok-clause-refused c = IfErr-weaker c.boxed.result _ _ (λ why h text of. inl h) c.boxed.ensures.refused

pub returns-in-Err-clause-refused : goal.returns-in-Err-clause-refused
returns-in-Err-clause-refused c text of =
    refused_of_file _ _ _ c.in-Some.node _ _ c.in-Err.fault _ _ _ (search rules) c.part_of-part.ensures c.before_log-first.ensures
    ((rw c.shared.ensures at c.in-Err.ensures.refused) text of) c.told.ensures
