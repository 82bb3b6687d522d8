use Rattle.std.proofs.Common.{◌≡◌, ℕ, List, [], ◌++◌, length, take, drop, replicate, refl, ap, ◌∙◌, zero-add, arith}
use Rattle.std.proofs.lemmas.List.{length-take-le}
use Rattle.names.specs.Names.{class}
use Rattle.image.specs.Format.{encoded}
use Rattle.image.specs.declared.packed.PackedImage.{PackedImage}
use Rattle.image.specs.Held.{held, all_bytes}
use Rattle.image.proofs.Changes.{Changed, held_packed, encoded_fits, image_cleared}
use Rattle.image.proofs.packed_store.PackedImageStore.clear.Goals as goal

-- what was wiped comes first, so that it says up to where
wiped : (s : PackedImage) (part : List ℕ) (u : ℕ) → part ≡ replicate (length (take u (all_bytes s))) 0 → u ≡ length (encoded (held class s)) → Changed s.len (all_bytes s) (part ++ drop u (all_bytes s)) []
wiped s part u is end =
    let image = all_bytes s in
    let fits = encoded_fits image s.len s.within (held class s) (held_packed s) in
    let whole : length (take u image) ≡ u = omega (arith, length-take-le u image (omega (arith, fits, end, s.within))) in
    image_cleared image s.len s.within (held class s) (held_packed s) _ u end (ap (λ l. l ++ drop u image) (is ∙ ap (λ n. replicate n 0) whole))

pub invariant_of-self : goal.invariant_of-self
invariant_of-self c =
    let k = (wiped c.args.self.now _ _ c.wipe.ensures (omega (arith, c.end_from-end.ensures ∙ zero-add _))).image in
    record { within = k.within; few = c.args.self.now.few; filled = k.filled }

pub returns : goal.returns
returns c =
    let k = wiped c.args.self.now _ _ c.wipe.ensures (omega (arith, c.end_from-end.ensures ∙ zero-add _)) in
    record { empties = k.image.lists; within = record { keeps = refl; beyond = k.beyond; lends = refl } }
