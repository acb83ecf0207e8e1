use Rattle.std.proofs.Common.{◌+◌, List, [], ◌∷◌, drop, get_or, sym, subst, arith}
use Rattle.std.proofs.lemmas.List.{drop_more, drop_all}
use Rattle.claim_profile.specs.declared.ruling.Ruling.{Ruling}
use Rattle.message_words.specs.AnswerWords.{ruling_said, rulings_said}
use Rattle.message_words.specs.Sayings.{Finds}
use Rattle.message_words.proofs.Sayings.{both_said, none_said}
use Rattle.message_words.proofs.finding_page.FindingPage.rulings.Goals as goal

pub loop-ruling-preserved : goal.loop-ruling-preserved
loop-ruling-preserved c =
    let i = c.loop-ruling.ruling-index in
    let t = c.loop-ruling.transaction in
    let all : List Ruling = c.args.rulings.now in
    record {
      left = λ n rest.
          c.loop-ruling.invariant.left n (subst (λ (rs : List Ruling). Finds (rulings_said t rs) c.loop-ruling.self n) (sym (drop_more all i c.ruling-item.result (omega (arith, c.loop-ruling-test.true))))
          (both_said (ruling_said t (get_or all i c.ruling-item.result) ∷ []) (rulings_said (t + 1) (drop (i + 1) all)) c.loop-ruling.self c.ruling.new.self n
          (subst (λ (r : Ruling). Finds (ruling_said t r ∷ []) c.loop-ruling.self c.ruling.new.self) c.ruling-item.is c.ruling.ensures) rest));
      next = omega (arith, c.loop-ruling.invariant.next);
    }

pub returns : goal.returns
returns c =
    c.loop-ruling.invariant.left c.loop-ruling.self (subst (λ (rs : List Ruling). Finds (rulings_said c.loop-ruling.transaction rs) c.loop-ruling.self c.loop-ruling.self)
    (sym (drop_all c.loop-ruling.ruling-index c.args.rulings.now (omega (arith, c.loop-ruling-test.false)))) (none_said c.loop-ruling.self))
