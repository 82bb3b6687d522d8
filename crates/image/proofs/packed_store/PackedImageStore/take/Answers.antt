use Rattle.std.proofs.Common.{◌≡◌, ◌-◌, true, ◌++◌, length, take, drop, replicate, sym, refl, ap, ◌∙◌, subst, arith}
use borrow.Rule.Slice.PartMut.{put_mid}
use Rattle.std.specs.List.Sorted.{IsPermutation}
use Rattle.std.proofs.lemmas.List.Sorted.{IsPermutation-refl}
use Rattle.names.specs.Names.{class}
use Rattle.store.specs.Entries.{holds, without}
use Rattle.image.specs.Format.{encoded, weight}
use Rattle.image.specs.Held.{own_bytes, held, all_bytes}
use Rattle.image.proofs.Changes.{Changed, held_packed, encoded_fits, place_fits, end_from, image_removed}
use Rattle.image.proofs.LawfulLists.{found_is}
use Rattle.image.proofs.Written.{remove_put}
use Rattle.image.proofs.packed_store.PackedImageStore.take.Goals as goal
use Rattle.image.proofs.packed_store.PackedImageStore.take.Goals.{In-Ok, After-end_from-end, After-close_up}

there : (c : goal.In-Ok) → holds (held class c.args.self.now) c.args.partition c.args.name.now ≡ true
there c = found_is (held class c.args.self.now) _ _ _ c.in-Ok.ensures.2

end : (c : goal.After-end_from-end) → c.end_from-end.result ≡ length (encoded (held class c.args.self.now))
end c =
    let s = c.args.self.now in
    c.end_from-end.ensures ∙ end_from (own_bytes s) (held class s) (held_packed s) c.args.partition c.args.name.now c.in-Ok.held.place c.in-Ok.ensures.0

pub end_from-end-requires : goal.end_from-end-requires
end_from-end-requires c =
    let s = c.args.self.now in
    let es = held class s in
    omega (arith, place_fits es c.args.partition c.args.name.now (there (goal.at.end_from-end-requires c).In-Ok), encoded_fits (all_bytes s) s.len s.within es (held_packed s), c.in-Ok.ensures.0)

pub slice_bounds-close_up-end : goal.slice_bounds-close_up-end
slice_bounds-close_up-end c =
    let s = c.args.self.now in
    let es = held class s in
    omega (arith, encoded_fits (all_bytes s) s.len s.within es (held_packed s), end (goal.at.slice_bounds-close_up-end c).After-end_from-end, s.within)

pub close_up-requires : goal.close_up-requires
close_up-requires c =
    let s = c.args.self.now in
    let es = held class s in
    omega (arith, place_fits es c.args.partition c.args.name.now (there (goal.at.close_up-requires c).In-Ok), end (goal.at.close_up-requires c).After-end_from-end, c.in-Ok.ensures.0, c.in-Ok.ensures.1)

after : (c : goal.After-close_up) → Changed c.args.self.now.len (all_bytes c.args.self.now) (put_mid c.in-Ok.held.place (c.end_from-end.result - c.in-Ok.held.place) (all_bytes c.args.self.now) c.close_up.new.part) (without (held class c.args.self.now) c.args.partition c.args.name.now)
after c =
    let s = c.args.self.now in
    let image = all_bytes s in
    let es = held class s in
    let p = c.args.partition in
    let n = c.args.name.now in
    let at = c.in-Ok.held.place in
    let u = c.end_from-end.result in
    let g : c.in-Ok.held.length ≡ weight (length n) = c.in-Ok.ensures.1 in
    let end : u ≡ length (encoded es) = c.end_from-end.ensures ∙ end_from (own_bytes s) es (held_packed s) p n at c.in-Ok.ensures.0 in
    image_removed image s.len s.within es (held_packed s) p n _ at c.in-Ok.ensures.0 (found_is es p n _ c.in-Ok.ensures.2) u end
    (remove_put image c.close_up.new.part at u c.in-Ok.held.length (omega (arith, c.end_from-end.ensures)) c.close_up.ensures ∙ ap (λ g. take at image ++ ((drop g (drop at (take u image)) ++ replicate g 0) ++ drop u image)) g)

pub invariant_of-self : goal.invariant_of-self
invariant_of-self c =
    let k = (after (goal.at.invariant_of-self c).After-close_up).image in
    record { within = k.within; few = c.args.self.now.few; filled = k.filled }

pub returns : goal.returns
returns c =
    let es = without (held class c.args.self.now) c.args.partition c.args.name.now in
    let k = after (goal.at.returns c).After-close_up in
    record {
      gives = sym c.in-Ok.ensures.2;
      order = k.image.lists;
      leaves = subst (IsPermutation es) (sym k.image.lists) (IsPermutation-refl es);
      within = record { keeps = refl; beyond = k.beyond; lends = refl };
    }
