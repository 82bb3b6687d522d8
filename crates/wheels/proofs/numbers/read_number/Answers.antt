use Rattle.std.proofs.Common.{◌≡◌, ℕ, ◌^◌, ◌<◌, Bool, true, false, ltb, List, length, Ok, Err, Result, sym, refl, ap, ◌∙◌, ltb-true, rules, tests}
use Rattle.std.specs.Result.{MatchResult, OkIff}
use Rattle.std.specs.Str.Parse.{digits_value, ParsesUnsigned}
use Rattle.std.specs.Str.{all_ascii_digits}
use Rattle.std.proofs.lemmas.Bool.{and_parts, lt-ltb}
use Rattle.std.proofs.lemmas.Str.Parse.{IsNumeralModel, numerals_by_value, tells_all_ascii_digits, parse_digits}
use Rattle.wheels.specs.declared.fault.Problem.{Problem}
use Rattle.wheels.specs.declared.fault.Problem.TheVariants.{TooLarge}
use Rattle.wheels.specs.Readings.{is_numeral, number_reading}
use Rattle.wheels.proofs.numbers.read_number.Goals as goal

own : IsNumeralModel (λ ds. all_ascii_digits ds ≡ true) (digits_value 10)
own = numerals_by_value _ tells_all_ascii_digits

-- of a numeral, `parse` reads the number or says that it has more than 64 bits
reading : {E : Type 0} (word : List ℕ) (r : Result ℕ E) (m : Result ℕ Problem) → is_numeral word ≡ true → ParsesUnsigned 64 10 word r
    → MatchResult r (λ n. m ≡ Ok n) (λ _. m ≡ Err TooLarge) → m ≡ number_reading word
reading {E} word r m numeral reads is = by (ltb value (2 ^ 64)) refl r (parse_digits own 64 word r reads parts.1) is
  where
    value : ℕ
    value = digits_value 10 word

    parts : (ltb 0 (length word) ≡ true) × (all_ascii_digits word ≡ true)
    parts = and_parts _ _ numeral

    by : (b : Bool) → ltb value (2 ^ 64) ≡ b → (r : Result ℕ E) → OkIff r ((0 < length word) × (value < 2 ^ 64)) value → MatchResult r (λ n. m ≡ Ok n) (λ _. m ≡ Err TooLarge) → m ≡ number_reading word
    by b small (Ok n) p is = is ∙ (let large : ltb value (2 ^ 64) ≡ true = lt-ltb _ _ p.0.1 in ap Ok p.1 ∙ sym (simp (numeral, large)))
    by true small (Err e) p is = absurd (p (ltb-true _ _ parts.0, ltb-true _ _ small))
    by false large (Err e) p is = is ∙ sym (simp (numeral, large))

pub returns : goal.returns
returns c =
    reading c.args.word.now c.parse.result c.map_err.result (sym c.if-not-is_numeral.ensures) c.parse.ensures.value.0 (search (rules, tests))
