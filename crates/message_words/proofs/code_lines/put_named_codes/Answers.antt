use Rattle.std.proofs.Common.{◌+◌, List, codes, drop, get_or, sym, subst, arith}
use Rattle.std.proofs.lemmas.List.{append-nil, drop_more, drop_all}
use Rattle.claim_profile.specs.declared.reject.Code.{Code}
use Rattle.message_words.specs.Facts.{named_code, named_codes}
use Rattle.message_words.specs.Written.{Takes}
use Rattle.message_words.proofs.Written.{both}
use Rattle.message_words.proofs.code_lines.put_named_codes.Goals as goal

pub loop-code-preserved : goal.loop-code-preserved
loop-code-preserved c = λ n rest.
    let i = c.loop-code.code-index in
    let all : List Code = c.args.rejects.now in
    c.loop-code.invariant n (subst (λ (cs : List Code). Takes (named_codes c.loop-code.front.now cs) c.loop-code.out n) (sym (drop_more all i c.code-item.result (omega (arith, c.loop-code-test.true))))
    (both (named_code c.loop-code.front.now (get_or all i c.code-item.result)) (named_codes (codes "; ") (drop (i + 1) all)) c.loop-code.out c.put_named_code.new.out n
    (subst (λ (x : Code). Takes (named_code c.loop-code.front.now x) c.loop-code.out c.put_named_code.new.out) c.code-item.is c.put_named_code.ensures) rest))

pub returns : goal.returns
returns c =
    c.loop-code.invariant c.loop-code.out (subst (λ (cs : List Code). Takes (named_codes c.loop-code.front.now cs) c.loop-code.out c.loop-code.out)
    (sym (drop_all c.loop-code.code-index c.args.rejects.now (omega (arith, c.loop-code-test.false)))) (λ e. (e, sym (append-nil c.loop-code.out.bytes.items))))
