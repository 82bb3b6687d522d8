use Rattle.std.proofs.Common.{◌≤◌, [], ◌∷◌, ◌++◌, ◌+◌, ◌-◌, take, drop, sym, refl, ◌∙◌, subst, arith}
use borrow.Rule.Slice.PartMut.{put_mid}
use Rattle.std.specs.List.Sorted.{IsPermutation}
use Rattle.std.proofs.lemmas.Bool.{lt-ltb}
use Rattle.names.specs.Names.{class}
use Rattle.store.specs.Entries.{entry_of}
use Rattle.store.proofs.AnswerFacts.{put_present, put_full, put_added}
use Rattle.store.proofs.Shuffles.{perm_push, shuffled_from}
use Rattle.image.specs.Held.{held, room_of, all_bytes}
use Rattle.image.specs.Lawful.{used_encoded}
use Rattle.image.proofs.Changes.{Changed, held_packed, encoded_fits, image_put}
use Rattle.image.proofs.LawfulLists.{found_is, found_not, lawful_push, packed_lawful}
use Rattle.image.proofs.Written.{mid_put}
use Rattle.image.proofs.packed_store.PackedImageStore.put.Goals as goal
use Rattle.image.proofs.packed_store.PackedImageStore.put.Goals.{In-Err, After-write_record}

pub returns-in_default-clause-gives : goal.returns-in_default-clause-gives
returns-in_default-clause-gives c =
    let es = held class c.args.self.now in
    sym (put_present class (room_of c.args.self.now) es c.args.partition c.args.name.now (sym c.if-not-is_key.ensures) (found_is es _ _ _ c.in_default.ensures.2))

-- no entry has the key, so the place is where the records end, which is within the store's part
end : (c : goal.In-Err) → c.in-Err.end ≤ c.args.self.now.len
end c = let s = c.args.self.now in omega (arith, c.in-Err.ensures.0, encoded_fits (all_bytes s) s.len s.within (held class s) (held_packed s))

pub returns-then-self-end-clause-gives : goal.returns-then-self-end-clause-gives
returns-then-self-end-clause-gives c =
    let s = c.args.self.now in
    let es = held class s in
    sym (put_full class (room_of s) es c.args.partition c.args.name.now (sym c.if-not-is_key.ensures) (found_not es _ _ c.in-Err.ensures.1) (omega (arith, end (goal.at.returns-then-self-end-clause-gives c).In-Err, c.in-Err.ensures.0, used_encoded es, c.length-length.ensures, c.if-self-end.true)))

after : (c : goal.After-write_record) → Changed c.args.self.now.len (all_bytes c.args.self.now) (put_mid c.in-Err.end (c.in-Err.end + c.length-length.result - c.in-Err.end) (all_bytes c.args.self.now) c.write_record.new.part) (held class c.args.self.now ++ entry_of c.args.partition c.args.name.now c.args.number ∷ [])
after c =
    let s = c.args.self.now in
    let es = held class s in
    let image = all_bytes s in
    let at = c.in-Err.end in
    let new = entry_of c.args.partition c.args.name.now c.args.number in
    image_put image s.len s.within es (held_packed s) new _ at c.in-Err.ensures.0
    (lawful_push es new (record { key = sym c.if-not-is_key.ensures; number = lt-ltb _ _ c.ranges.number.fits; alone = found_not es _ _ c.in-Err.ensures.1; rest = packed_lawful _ es (held_packed s) }))
    (omega (arith, encoded_fits image s.len s.within es (held_packed s), c.in-Err.ensures.0, c.length-length.ensures, c.if-self-end.false))
    (mid_put image c.write_record.new.part at (at + c.length-length.result) (omega arith) ∙ (λ i. take at image ++ (c.write_record.ensures i ++ drop (at + c.length-length.ensures i) image)))

pub invariant_of-self : goal.invariant_of-self
invariant_of-self c =
    let k = (after (goal.at.invariant_of-self c).After-write_record).image in
    record { within = k.within; few = c.args.self.now.few; filled = k.filled }

pub returns : goal.returns
returns c =
    let s = c.args.self.now in
    let es = held class s in
    let new = entry_of c.args.partition c.args.name.now c.args.number in
    let k = after (goal.at.returns c).After-write_record in
    record {
      gives = sym (put_added class (room_of s) es c.args.partition c.args.name.now (sym c.if-not-is_key.ensures) (found_not es _ _ c.in-Err.ensures.1) (omega (arith, end (goal.at.returns c).In-Err, c.in-Err.ensures.0, used_encoded es, c.length-length.ensures, c.if-self-end.false)));
      order = k.image.lists;
      leaves = subst (IsPermutation (new ∷ es)) (sym k.image.lists) (shuffled_from (perm_push new es));
      within = record { keeps = refl; beyond = k.beyond; lends = refl };
    }
