use Rattle.std.proofs.Common.{◌≡◌, Bool, true, ◌&&◌, ltb, length, sym, ap, ◌∙◌, rules, tests, arith}
use Rattle.std.proofs.lemmas.Bool.{lt-ltb}
use Rattle.std.proofs.lemmas.Iterator.{YieldsList-from_slice}
use Rattle.std.proofs.lemmas.Iterator.Search.{all_from_yields_List}
use Rattle.std.specs.Char.{is_ascii_digit}
use Rattle.std.specs.Str.{all_ascii_digits}
use Rattle.wheels.proofs.numbers.is_numeral.Goals as goal

pub returns-then-not-is_empty : goal.returns-then-not-is_empty
returns-then-not-is_empty c =
    let all = all_from_yields_List is_ascii_digit _ _ c.all.result c.all.ensures.ran (YieldsList-from_slice c.args.word.now cc) (λ x b q k. search (rules, tests)) in
    let some : ltb 0 (length c.args.word.now) ≡ true = lt-ltb _ _ (grind (arith, c.if-not-is_empty.true)) in
    all ∙ sym (ap (λ (b : Bool). b && all_ascii_digits c.args.word.now) some)
