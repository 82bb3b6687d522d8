use Rattle.std.proofs.Common.{◌≡◌, ◌==◌, length, ◌∙◌, rules, tests}
use Rattle.std.proofs.lemmas.Fn.{always_returns_same}
use Rattle.std.proofs.lemmas.List.{take_rest}
use Rattle.wheels.proofs.Newlines.{first_line}
use Rattle.wheels.proofs.lines.LinesIterator.next.Goals as goal

pub returns-clause-steps : goal.returns-clause-steps
returns-clause-steps c =
    let text = c.args.self.now.rest.now in
    let piece = c.in_ok-line.line.now in
    let cut = c.in_ok-line.ensures.steps in
    let test = always_returns_same _ (λ a r. r ≡ (a.0.now == 10)) _ (λ a r q k. search (rules, tests)) in
    let line = rw c.split_inclusive.ensures.rest at (first_line _ piece _ cut.1.0 cut.0 cut.1.1 (cut.1.2 (λ b. b == 10) test).1) in
    (c.without_end.ensures ∙ line.0, take_rest text (length piece) ∙ line.1)
