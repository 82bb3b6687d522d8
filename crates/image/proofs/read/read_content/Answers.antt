use Rattle.std.proofs.Common.{◌*◌, ◌≡◌, ◌+◌, ◌≤◌, true, false, length, take, drop, sym, ap, ◌∙◌, subst, rules}
use Rattle.std.specs.Option.{MatchOption, ok_or}
use Rattle.std.proofs.lemmas.List.{length-drop, take_rest}
use Rattle.names.specs.Names.{class}
use Rattle.image.specs.Promises.{Says, ContentRead}
use Rattle.image.specs.Reading.{content_length, content_fits, length_fits, failed}
use Rattle.image.specs.declared.fault.FieldCheck.TheVariants.{Content}
use Rattle.image.specs.Tags.{tag_number}
use Rattle.image.proofs.Fields.{content_read}
use Rattle.image.proofs.read.read_content.Goals as goal

pub returns : goal.returns
returns c =
    let bs = c.args.bytes.now in
    let tag = c.args.tag in
    let t = tag_number tag in
    let long : (c.from.result * 256 + c.from-2.result) ≡ content_length bs = search rules in
    let fits : length_fits t (content_length bs) ≡ true = ap (length_fits t) (sym long) ∙ sym c.if-not-allows.ensures in
    let room : 3 + content_length bs ≤ length bs = search (rules, length-drop) in
    let part = ap (take (c.from.result * 256 + c.from-2.result)) (take_rest bs 3) ∙ ap (λ n. take n (drop 3 bs)) long in
    let said = subst (λ l. MatchOption c.field.result (content_fits class t l ≡ false) (λ f. (content_fits class t l ≡ true) × Says f tag l)) part c.field.ensures in
    let last : c.fault-2.result ≡ failed Content c.args.place = search rules in
    subst (λ r. ContentRead class r tag c.args.place bs) (sym (c.ok_or.ensures.value ∙ ap (ok_or c.field.result) last)) (content_read tag c.args.place bs c.field.result fits room said)
