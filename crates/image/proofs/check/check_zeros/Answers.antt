use Rattle.std.proofs.Common.{◌≡◌, ◌-◌, eqb, not, length, take, drop, sym, ap, ◌∙◌, rules, tests}
use Rattle.std.specs.List.{position_from}
use Rattle.std.proofs.lemmas.Iterator.{YieldsList-from_slice}
use Rattle.std.proofs.lemmas.Iterator.Adapters.{position_from-zero}
use Rattle.std.proofs.lemmas.Iterator.Search.{position_from_yields_List}
use Rattle.std.proofs.lemmas.List.{take_rest}
use Rattle.image.proofs.Checking.{non_zero_found}
use Rattle.image.proofs.check.check_zeros.Goals as goal
use Rattle.image.proofs.check.check_zeros.Goals.{After-position}

found : (c : goal.After-position) → c.position.result ≡ position_from (λ b. not (eqb b 0)) 0 (drop c.args.place c.args.image.now)
found c =
    let bs = take (length c.args.image.now - c.args.place) (drop c.args.place c.args.image.now) in
    position_from_yields_List (λ b. not (eqb b 0)) c.position.new.self c.position.new.predicate c.position.result c.position.ensures.ran (YieldsList-from_slice bs c.iter.ensures.rest) (λ x b q k. search (rules, tests))
    ∙ position_from-zero (λ b. not (eqb b 0)) bs ∙ ap (position_from (λ b. not (eqb b 0)) 0) (take_rest c.args.image.now c.args.place)

pub returns-in-Some : goal.returns-in-Some
returns-in-Some c = non_zero_found c.args.place (drop c.args.place c.args.image.now) _ (sym (found (goal.at.returns-in-Some c).After-position) ∙ c.in-Some.is)

pub returns-in-None : goal.returns-in-None
returns-in-None c = non_zero_found c.args.place (drop c.args.place c.args.image.now) _ (sym (found (goal.at.returns-in-None c).After-position) ∙ c.in-None.is)
