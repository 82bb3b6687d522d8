use Rattle.std.proofs.Common.{◌≡◌, ℕ, min, List, ◌++◌, length, drop, take, replicate, ap, ◌∙◌, sym, arith}
use Rattle.std.proofs.lemmas.List.{drop-replicate, length-take, take_all, take_min}
use Rattle.names.specs.Shortening.{padded}
use Rattle.names.proofs.padding.padded.Goals as goal

pad : (xs ys : List ℕ) (n : ℕ) → xs ≡ ys → n ≡ length ys → xs ++ drop n (replicate 32 0) ≡ padded ys
pad xs ys n e l = rw (e, l, drop-replicate)

pub returns-clause-value : goal.returns-clause-value
returns-clause-value c =
    let name = c.args.name.now in
    let n : c.min-len.result ≡ min 32 (length name) = omega (arith, c.min-len.ensures) in
    pad _ (take 32 name) c.min-len.result (c.copy_from_slice.ensures.after ∙ ap (λ k. take k name) n ∙ take_min 32 name) (n ∙ sym (length-take 32 name))

pub returns-clause-short : goal.returns-clause-short
returns-clause-short c h = returns-clause-value c ∙ ap padded (take_all 32 c.args.name.now h)
