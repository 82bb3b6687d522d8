use Rattle.std.proofs.Common.{◌≡◌, ◌+◌, ◌-◌, ◌/◌, ◌%◌, ◌≤◌, true, false, [], ◌∷◌, ◌++◌, take, drop, set, sym, refl, ap, ◌∙◌, subst, arith}
use borrow.Rule.Slice.PartMut.{put_mid}
use Rattle.std.specs.List.Sorted.{IsPermutation}
use Rattle.names.specs.Names.{class}
use Rattle.store.specs.Entries.{holds, index, without, entry_of}
use Rattle.store.proofs.AnswerFacts.{move_absent, move_taken, move_moved}
use Rattle.store.proofs.KeyFacts.{leaves_set}
use Rattle.store.proofs.SoundFacts.{holds_key, key_other}
use Rattle.image.specs.Held.{held, all_bytes, passed}
use Rattle.image.proofs.Changes.{Changed, held_packed, encoded_fits, place_fits, image_passed}
use Rattle.image.proofs.LawfulLists.{found_is, found_not, sought_is, sought_not, index_in}
use Rattle.image.specs.Format.{field}
use Rattle.image.proofs.Written.{mid_put}
use Rattle.image.proofs.packed_store.PackedImageStore.relocate.Goals as goal
use Rattle.image.proofs.packed_store.PackedImageStore.relocate.Goals.{In-Ok, Else-is_ok, After-write_field}

pub returns-in_default-clause-gives : goal.returns-in_default-clause-gives
returns-in_default-clause-gives c =
    let es = held class c.args.self.now in
    sym (move_absent es c.args.from c.args.to c.args.name.now (found_not es _ _ c.in_default.ensures.1))

there : (c : goal.In-Ok) → holds (held class c.args.self.now) c.args.from c.args.name.now ≡ true
there c = found_is (held class c.args.self.now) _ _ _ c.in-Ok.ensures.2

pub returns-then-is_ok-clause-gives : goal.returns-then-is_ok-clause-gives
returns-then-is_ok-clause-gives c =
    let es = held class c.args.self.now in
    sym (move_taken es c.args.from c.args.to c.args.name.now (there (goal.at.returns-then-is_ok-clause-gives c).In-Ok) (omega arith) (sought_is c.look-2.result es _ _ c.look-2.ensures (sym c.if-is_ok.ensures.value)))

free : (c : goal.Else-is_ok) → holds (held class c.args.self.now) c.args.to c.args.name.now ≡ false
free c = sought_not c.look-2.result (held class c.args.self.now) _ _ c.look-2.ensures (sym c.if-is_ok.ensures.value)

room : (c : goal.In-Ok) → c.in-Ok.held.place + 5 ≤ c.args.self.now.len
room c =
    let s = c.args.self.now in
    let es = held class s in
    omega (arith, place_fits es c.args.from c.args.name.now (there c), encoded_fits (all_bytes s) s.len s.within es (held_packed s), c.in-Ok.ensures.0)

pub overflow_add-held : goal.overflow_add-held
overflow_add-held c = omega (arith, room (goal.at.overflow_add-held c).In-Ok, c.args.self.now.few)

pub slice_bounds-write_field-end : goal.slice_bounds-write_field-end
slice_bounds-write_field-end c = omega (arith, room (goal.at.slice_bounds-write_field-end c).In-Ok, c.args.self.now.within)

after : (c : goal.After-write_field) → Changed c.args.self.now.len (all_bytes c.args.self.now) (put_mid c.in-Ok.held.place (c.in-Ok.held.place + 5 - c.in-Ok.held.place) (all_bytes c.args.self.now) c.write_field.new.part) (set (held class c.args.self.now) (index (held class c.args.self.now) c.args.from c.args.name.now) (passed (held class c.args.self.now) c.args.from c.args.to c.args.name.now))
after c =
    let s = c.args.self.now in
    let es = held class s in
    let image = all_bytes s in
    let p = c.args.from in
    let q = c.args.to in
    let n = c.args.name.now in
    let at = c.in-Ok.held.place in
    let t = found_is es p n _ c.in-Ok.ensures.2 in
    let top : q / 256 % 256 ≡ q / 256 = omega arith in
    image_passed image s.len s.within es (held_packed s) p q n _ at c.in-Ok.ensures.0 t (sought_not c.look-2.result es _ _ c.look-2.ensures (sym c.if-is_ok.ensures.value))
    (key_other class p q n (holds_key class es p n s.filled.keys t) (omega arith))
    (mid_put image c.write_field.new.part at (at + 5) (omega arith) ∙ ap (λ l. take at image ++ (l ++ drop (at + 5) image)) (c.write_field.ensures ∙ ap (field 1) (c.to_be_bytes.ensures ∙ ap (λ t. t ∷ q % 256 ∷ []) top)))

pub invariant_of-self : goal.invariant_of-self
invariant_of-self c =
    let k = (after (goal.at.invariant_of-self c).After-write_field).image in
    record { within = k.within; few = c.args.self.now.few; filled = k.filled }

pub returns : goal.returns
returns c =
    let es = held class c.args.self.now in
    let p = c.args.from in
    let q = c.args.to in
    let n = c.args.name.now in
    let t = there (goal.at.returns c).In-Ok in
    let k = after (goal.at.returns c).After-write_field in
    let new = passed es p q n in
    record {
      gives = sym (move_moved es p q n t (omega arith) (free (goal.at.returns c).Else-is_ok));
      order = k.image.lists;
      leaves = subst (IsPermutation (new ∷ without es p n)) (sym k.image.lists) (leaves_set es p n (entry_of p n 0) (index_in es p n t) new);
      within = record { keeps = refl; beyond = k.beyond; lends = refl };
    }
