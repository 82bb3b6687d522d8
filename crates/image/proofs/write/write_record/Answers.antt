use Rattle.std.proofs.Common.{◌≡◌, ◌/◌, ◌%◌, [], ◌∷◌, ◌++◌, ap, ◌∙◌, arith}
use Rattle.image.specs.Format.{field, two_bytes, eight_bytes}
use Rattle.image.proofs.write.write_record.Goals as goal

pub returns : goal.returns
returns c =
    let p = c.args.added.now.partition in
    let top : p / 256 % 256 ≡ p / 256 = omega arith in
    let e1 : c.write_field.new.part ≡ field 1 (two_bytes p) = c.write_field.ensures ∙ ap (field 1) (c.to_be_bytes.ensures ∙ ap (λ t. t ∷ p % 256 ∷ []) top) in
    let e3 : c.write_field-3.new.part ≡ field 3 (eight_bytes c.args.added.now.number) = c.write_field-3.ensures ∙ ap (field 3) c.to_be_bytes-2.ensures in
    (λ i. e1 i ++ (c.write_field-2.ensures i ++ e3 i))
