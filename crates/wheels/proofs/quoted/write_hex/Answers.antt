use Rattle.std.proofs.Common.{◌≡◌, ℕ, ◌/◌, ◌%◌, ◌<◌, true, List, [], ◌∷◌, ◌++◌, refl, ap, ◌∙◌, arith}
use lib.Utf8.{encode}
use Rattle.std.specs.Fmt.{digit_glyph}
use Rattle.std.proofs.Output.{has_written_append, has_written_of_eq}
use Rattle.std.proofs.lemmas.Str.Ascii.{encode_ascii}
use Rattle.std.proofs.lemmas.Bool.Decides.{nat_tests}
use Rattle.wheels.proofs.quoted.write_hex.Goals as goal

-- a hexadecimal digit is one byte
digit_text : (x d : ℕ) → d < 16 → x ≡ digit_glyph true d → encode x ≡ digit_glyph true d ∷ []
digit_text x d h e = ap encode e ∙ encode_ascii (digit_glyph true d) (grind (arith, nat_tests))

pub returns : goal.returns
returns g c plain ok =
    let took = g.W.Write.write_str_gives in
    let byte = c.args.byte in
    let mark = c.in_ok-write_char.ensures.writes plain refl in
    let high = c.in_ok-write_char-2.ensures.writes mark.plain refl in
    let low = c.write_char-3.ensures.writes high.plain ok in
    let h : byte / 16 < 16 = omega arith in
    let l : byte % 16 < 16 = omega arith in
    has_written_of_eq took c.args.f.now _ _ c.write_char-3.new.self
    (ap (λ (t : List ℕ). t ++ encode c.hex_digit.result ++ encode c.hex_digit-2.result) (encode_ascii 37 (omega arith))
    ∙ ap (λ (t : List ℕ). 37 ∷ (t ++ encode c.hex_digit-2.result)) (digit_text c.hex_digit.result (byte / 16) h c.hex_digit.ensures)
    ∙ ap (λ (t : List ℕ). 37 ∷ digit_glyph true (byte / 16) ∷ t) (digit_text c.hex_digit-2.result (byte % 16) l c.hex_digit-2.ensures))
    (has_written_append took c.args.f.now _ c.write_char-2.new.self _ c.write_char-3.new.self
    (has_written_append took c.args.f.now _ c.write_char.new.self _ c.write_char-2.new.self mark high) low)
