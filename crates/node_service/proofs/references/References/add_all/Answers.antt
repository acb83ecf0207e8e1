-- One after another.
use Rattle.std.proofs.Common.{◌≡◌, ◌∷◌, ◌++◌, [], List, refl, length, sym, ap, ◌∙◌, append_assoc, append-nil, arith}
use Rattle.std.specs.Vec.Iter.{into_iter_items}
use Rattle.kept_logs.specs.References.{Reference}
use Rattle.node_service.proofs.references.References.add_all.Goals as goal

nothing_left : (l : List Reference) → length l ≡ 0 → l ≡ []
nothing_left [] h = refl
nothing_left (x ∷ xs) h = absurd (omega arith)

pub loop-one-preserved : goal.loop-one-preserved
loop-one-preserved c =
    let at = c.loop-one in
    let x = c.in-Some.one in
    let rest = into_iter_items c.next.new.self in
    let steps : into_iter_items at.one-iterator ≡ x ∷ rest = c.in-Some.ensures.steps.0 in
    record {
      all = ap (λ (xs : List Reference). xs ++ rest) c.in_ok-add.ensures ∙ (append_assoc at.self (x ∷ []) rest ∙ (ap (λ (xs : List Reference). at.self ++ xs) (sym steps) ∙ at.invariant.all));
      left =
          let was = at.invariant.left in
          let gone = c.in-Some.ensures.steps.1 in
          let short = ap length steps in
          omega arith;
    }

pub returns : goal.returns
returns c =
    let at = c.loop-one in
    let none = c.in-None.ensures.steps in
    let empty : into_iter_items at.one-iterator ≡ [] = nothing_left _ (sym at.invariant.left ∙ none.0) in
    sym (append-nil at.self) ∙ (ap (λ (xs : List Reference). at.self ++ xs) (sym empty) ∙ (at.invariant.all ∙ ap (λ (xs : List Reference). c.args.self.now ++ xs) c.into_iter-one-iterator.ensures.into_iter_gives.0))
