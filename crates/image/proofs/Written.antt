-- What the writers leave in a slice of which they write a part.
use Rattle.std.proofs.Common.{◌≡◌, ℕ, ◌+◌, ◌-◌, ◌≤◌, List, ◌++◌, take, drop, replicate, ap, ◌∙◌, arith}
use borrow.Rule.Slice.PartMut.{put_mid}
use Rattle.std.proofs.lemmas.List.{drop-drop}
use Rattle.std.proofs.lemmas.Slice.{between_is}

-- after a write to `s[a..e]`
pub mid_put : (old ys : List ℕ) (a e : ℕ) → a ≤ e → put_mid a (e - a) old ys ≡ take a old ++ (ys ++ drop e old)
mid_put old ys a e h = let s : a + (e - a) ≡ e = omega arith in ap (λ l. take a old ++ (ys ++ l)) (drop-drop (e - a) a old ∙ ap (λ k. drop k old) s)

pub remove_put : (old ys : List ℕ) (at len gap : ℕ) → at ≤ len → ys ≡ drop gap (take (len - at) (drop at old)) ++ replicate gap 0 → put_mid at (len - at) old ys ≡ take at old ++ ((drop gap (drop at (take len old)) ++ replicate gap 0) ++ drop len old)
remove_put old ys at len gap h e = mid_put old ys at len h ∙ ap (λ l. take at old ++ (l ++ drop len old)) (e ∙ ap (λ l. drop gap l ++ replicate gap 0) (between_is old at len))
