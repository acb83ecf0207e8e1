use Rattle.std.proofs.Common.{ap, ◌∙◌, sym, ◌==◌, ℕ, List}
use Rattle.indexmap.proofs.CallerLemmas.{insert_entry-new}
use Rattle.node_logged.specs.Tills.{answer_heard}
use Rattle.node_logged.specs.TillSeen.{till_seen}
use Rattle.node_logged.proofs.Heard.{heard_new, not_heard}
use Rattle.node_logged.proofs.till.Till.hear.Goals as goal

pub returns-clause-heard : goal.returns-clause-heard
returns-clause-heard c =
    let before = answer_heard c.args.number (till_seen c.args.self.now) in
    let none = sym c.contains_key.ensures ∙ c.if-contains_key.false in
    ap (λ (heard : List (ℕ × List ℕ)). record (till_seen c.args.self.now) { heard = heard })
    (c.in_ok-insert.ensures.entries ∙ (insert_entry-new (λ a b. a == b) c.args.self.now.heard c.args.number c.args.answer (not_heard before none) ∙ heard_new c.args.number c.args.answer before c.args.self.now.heard.entries none))
