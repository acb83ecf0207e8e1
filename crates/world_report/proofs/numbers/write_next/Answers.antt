-- Where the last digit is no nine, it alone is another in the next number.
use Rattle.std.proofs.Common.{◌≡◌, ℕ, ◌+◌, ◌%◌, ◌<◌, length, drop, set, ap, ◌∙◌, arith}
use Rattle.world_report.proofs.NextDigits.{low_digit, next_text}
use Rattle.world_report.proofs.numbers.write_next.Goals as goal

pub returns-then-last-lt57-clause-written : goal.returns-then-last-lt57-clause-written
returns-then-last-lt57-clause-written c =
    let text = c.args.text.now in
    let long : length c.args.text.now ≡ 45 = omega arith in
    let digit = low_digit text c.args.start c.args.number 0 long c.requires.within (omega (arith, c.requires.some)) c.requires.written in
    let low : c.args.number % 10 < 9 = omega (arith, digit, c.if-last-lt57.true) in
    ap (λ (d : ℕ). drop c.args.start (set text 44 (d + 1))) digit ∙ next_text text c.args.start c.args.number long c.requires.within c.requires.some low c.requires.written
