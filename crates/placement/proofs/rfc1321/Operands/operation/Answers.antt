use Rattle.std.proofs.Common.{ℕ, ◌≡◌, ◌+◌, ◌*◌, ◌-◌, List, get_or, refl, ap, ◌∙◌, arith}
use Rattle.placement.specs.Rfc1321.{sine, sines, word, operation}
use Rattle.placement.proofs.Operations.{listed, operation_is}
use Rattle.placement.proofs.rfc1321.Operands.operation.Goals as goal

pub mix-next-requires : goal.mix-next-requires
mix-next-requires g c =
    let l = listed g.R.Round.NUMBER c.args.n _ _ g.met.R.Round.counted c.requires refl refl in
    (omega (arith, c.shift_amount.ensures, l.4, l.5), omega (arith, c.shift_amount.ensures, l.4, l.6))

pub returns : goal.returns
returns g c =
    let r = g.met.R.Round in
    let x = c.args.self.now.x.now in
    let n = c.args.n in
    let number = g.R.Round.NUMBER in
    let i = 16 * number + n + 1 in
    let l = listed number n c.WORDS.result _ r.counted c.requires (c.WORDS.ensures ∙ r.words) refl in
    let place : 16 * c.NUMBER.result + n ≡ i - 1 = omega (arith, c.NUMBER.ensures) in
    let t : get_or c.args.self.now.t.now.values (16 * c.NUMBER.result + n) 0 ≡ sine i =
    ap (λ (s : List ℕ). get_or s (16 * c.NUMBER.result + n) 0) c.args.self.now.t.now.listed ∙ ap (λ (k : ℕ). get_or sines k 0) place in
    operation_is x i number (c.words.inside.a, c.words.inside.b, c.words.inside.c, c.words.inside.d) (omega arith) c.auxiliary-f.ensures
    (c.word-x.ensures ∙ ap (word x) l.2) t c.shift_amount.ensures c.mix-next.ensures
    ∙ ap (operation x i) c.words.view_is
