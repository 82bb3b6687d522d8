-- The bytes of a packed image before and after a change.
use Rattle.std.proofs.Common.{◌≡◌, ℕ, suc, ◌+◌, ◌-◌, ◌≤◌, Bool, true, false, cond, ◌||◌, List, [], ◌∷◌, ◌++◌, length, take, drop, set, replicate, Some, Option, sym, refl, ap, ◌∙◌, subst, ⊎_elim, append_assoc, arith, take-add}
use Rattle.std.specs.List.{list_all}
use Rattle.std.proofs.lemmas.List.{length-drop, length-append, length-replicate, length-take-le, take_at, drop_at, drop-drop, drop-replicate, replicate-append-replicate, take-take, take-append-drop, drop-append-le, flat_map_more}
use Rattle.std.proofs.lemmas.Slice.{between_is}
use Rattle.std.proofs.lemmas.Bool.{cond-true, cond-false, and_parts, or_parts, cases_Bool, false≢true}
use Rattle.names.specs.Names.{class}
use Rattle.store.specs.Calls.{number_in}
use Rattle.store.specs.Entries.{Entry, entry_of, has_key, found, holds, without, index, is_key, sound}
use Rattle.store.proofs.KeyFacts.{key_true}
use Rattle.image.specs.Format.{weight, field, two_bytes, record_bytes, encoded, number_fits, Packed}
use Rattle.image.specs.Filled.{IsFilled}
use Rattle.image.specs.Held.{own_bytes, held, passed}
use Rattle.image.specs.Lawful.{length_record}
use Rattle.image.specs.Reading.{listed, place_of}
use Rattle.image.specs.declared.packed.PackedImage.{PackedImage}
use Rattle.image.proofs.Images.{packed_lists, listed_encoded}
use Rattle.image.proofs.LawfulLists.{Lawful, lawful_back, lawful_without, lawful_set, packed_lawful}

-- an image of len bytes at the front of bytes, with these entries
pub record Image (len : ℕ) (bytes : List ℕ) (es : List Entry) : Type 0 where
  pub within : len ≤ length bytes
  pub filled : IsFilled len (take len bytes)
  pub lists : listed class (take len bytes) ≡ es

pub packed_from : (bs : List ℕ) (es : List Entry) (free : ℕ) → bs ≡ encoded es ++ replicate free 0 → Lawful es → Packed class bs es
packed_from bs es free s l = record { free = free; shape = s; keys = l.keys; numbers = l.numbers }

pub image_from : (len : ℕ) (bytes : List ℕ) (es : List Entry) → len ≤ length bytes → Packed class (take len bytes) es → Image len bytes es
image_from len bytes es w h =
    let bs = take len bytes in
    let is = packed_lists bs es h in
    let l = ap length h.shape ∙ length-append (encoded es) (replicate h.free 0) in
    let free : h.free ≡ len - length (encoded es) = omega (arith, l, length-replicate {A = ℕ} h.free 0, length-take-le len bytes w) in
    record {
      within = w;
      filled = record {
        shape = subst (λ fs. bs ≡ encoded fs ++ replicate (len - length (encoded fs)) 0) (sym is) (h.shape ∙ ap (λ k. encoded es ++ replicate k 0) free);
        keys = ap (sound class) is ∙ h.keys;
        numbers = ap (list_all number_fits) is ∙ h.numbers;
      };
      lists = is;
    }

-- the invariant of the struct says it
pub held_packed : (s : PackedImage) → Packed class (own_bytes s) (held class s)
held_packed s = record { free = s.len - length (encoded (held class s)); shape = s.filled.shape; keys = s.filled.keys; numbers = s.filled.numbers }

-- parts of lists that are joined
take_past : (xs ys : List ℕ) (w b : ℕ) → length xs ≡ w → take (w + b) (xs ++ ys) ≡ xs ++ take b ys
take_past xs ys w b l = take-add w b (xs ++ ys) ∙ (λ i. take_at xs ys w l i ++ take b (drop_at xs ys w l i))

drop_past : (xs ys : List ℕ) (w b : ℕ) → length xs ≡ w → drop (w + b) (xs ++ ys) ≡ drop b ys
drop_past xs ys w b l = sym (drop-drop b w (xs ++ ys)) ∙ ap (drop b) (drop_at xs ys w l)

-- where the record of a key begins
pub place_none : (es : List Entry) (p : ℕ) (n : List ℕ) → holds es p n ≡ false → place_of es p n ≡ length (encoded es)
place_none [] p n h = refl
place_none (e ∷ es) p n h =
    let q = or_parts (has_key p n e) (holds es p n) h in
    let i = place_none es p n q.1 in
    let l = length-append (record_bytes e) (encoded es) in
    cond-false (has_key p n e) 0 _ q.0 ∙ omega (arith, length_record e)

-- a key that is there is the first entry's, or one of the others'
by_key : {X : Type 0} (p : ℕ) (n : List ℕ) (e : Entry) (es : List Entry) → holds (e ∷ es) p n ≡ true → (has_key p n e ≡ true → X) → (has_key p n e ≡ false → holds es p n ≡ true → X) → X
by_key p n e es h here there = ⊎_elim here (λ k. there k (sym (ap (λ b. b || holds es p n) k) ∙ h)) (cases_Bool (has_key p n e))

pub place_fits : (es : List Entry) (p : ℕ) (n : List ℕ) → holds es p n ≡ true → place_of es p n + weight (length n) ≤ length (encoded es)
place_fits [] p n h = absurd (false≢true h)
place_fits (e ∷ es) p n h =
    let l : length (record_bytes e ++ encoded es) ≡ weight (length e.name) + length (encoded es) = length-append (record_bytes e) (encoded es) ∙ ap (λ k. k + length (encoded es)) (length_record e) in
    by_key p n e es h
    (λ k.
    let b : place_of (e ∷ es) p n ≡ 0 = cond-true (has_key p n e) 0 _ k in
    let m : length n ≡ length e.name = ap length (key_true p n e k).1 in
    omega arith)
    (λ k more.
    let b : place_of (e ∷ es) p n ≡ weight (length e.name) + place_of es p n = cond-false (has_key p n e) 0 _ k in
    let i = place_fits es p n more in
    omega arith)

-- the records from the one of a key on
encoded_append : (xs ys : List Entry) → encoded (xs ++ ys) ≡ encoded xs ++ encoded ys
encoded_append [] ys = refl
encoded_append (x ∷ xs) ys = ap (λ l. record_bytes x ++ l) (encoded_append xs ys) ∙ sym (append_assoc (record_bytes x) (encoded xs) (encoded ys))

record Split (es : List Entry) (k : ℕ) : Type 0 where
  front : List Entry
  back : List Entry
  whole : es ≡ front ++ back
  place : k ≡ length (encoded front)

split_at : (es : List Entry) (p : ℕ) (n : List ℕ) → Split es (place_of es p n)
split_at [] p n = record { front = []; back = []; whole = refl; place = refl }
split_at (e ∷ es) p n = by (has_key p n e) (split_at es p n)
  where
    by : (b : Bool) → Split es (place_of es p n) → Split (e ∷ es) (cond b 0 (weight (length e.name) + place_of es p n))
    by true s = record { front = []; back = e ∷ es; whole = refl; place = refl }
    by false s = record { front = e ∷ s.front; back = s.back; whole = ap (λ l. e ∷ l) s.whole; place = omega (arith, s.place, length-append (record_bytes e) (encoded s.front), length_record e) }

pub end_from : (bs : List ℕ) (es : List Entry) → Packed class bs es → (p : ℕ) (n : List ℕ) (k : ℕ) → k ≡ place_of es p n → k + length (encoded (listed class (drop k bs))) ≡ length (encoded es)
end_from bs es h p n k e =
    let s = split_at es p n in
    let zeros : List ℕ = replicate h.free 0 in
    let rest : drop k bs ≡ encoded s.back ++ zeros = ap (drop k) (h.shape ∙ ap (λ l. encoded l ++ zeros) s.whole ∙ ap (λ l. l ++ zeros) (encoded_append s.front s.back) ∙ append_assoc (encoded s.front) (encoded s.back) zeros) ∙ drop_at (encoded s.front) (encoded s.back ++ zeros) k (sym (e ∙ s.place)) in
    let is : listed class (drop k bs) ≡ s.back = ap (listed class) rest ∙ listed_encoded s.back h.free (lawful_back s.front s.back (subst Lawful s.whole (packed_lawful bs es h))) in
    omega (arith, e, s.place, ap (λ l. length (encoded l)) is, ap (λ l. length (encoded l)) s.whole, ap length (encoded_append s.front s.back), length-append (encoded s.front) (encoded s.back))

-- what is left where the g bytes at k go
abbrev cut : ℕ → ℕ → List ℕ → List ℕ
cut k g xs = take k xs ++ drop g (drop k xs)

cut_past : (xs ys : List ℕ) (w b g : ℕ) → length xs ≡ w → cut (w + b) g (xs ++ ys) ≡ xs ++ cut b g ys
cut_past xs ys w b g l = (λ i. take_past xs ys w b l i ++ drop g (drop_past xs ys w b l i)) ∙ append_assoc xs (take b ys) (drop g (drop b ys))

cut_encoded : (es : List Entry) (p : ℕ) (n r : List ℕ) → holds es p n ≡ true → cut (place_of es p n) (weight (length n)) (encoded es ++ r) ≡ encoded (without es p n) ++ r
cut_encoded [] p n r h = absurd (false≢true h)
cut_encoded (e ∷ es) p n r h =
    let x = (record_bytes e ++ encoded es) ++ r in
    let y = encoded es ++ r in
    let g = weight (length n) in
    let w = weight (length e.name) in
    let s : x ≡ record_bytes e ++ y = append_assoc (record_bytes e) (encoded es) r in
    by_key p n e es h
    (λ k.
    let long : length (record_bytes e) ≡ g = length_record e ∙ ap (λ m. weight (length m)) (sym (key_true p n e k).1) in
    ap (λ b. cut b g x) (cond-true (has_key p n e) 0 (w + place_of es p n) k) ∙ ap (drop g) s ∙ drop_at (record_bytes e) y g long ∙ ap (λ l. encoded l ++ r) (sym (cond-true (has_key p n e) es (e ∷ without es p n) k)))
    (λ k more.
    ap (λ b. cut b g x) (cond-false (has_key p n e) 0 (w + place_of es p n) k) ∙ ap (cut (w + place_of es p n) g) s ∙ cut_past (record_bytes e) y w (place_of es p n) g (length_record e) ∙ ap (λ l. record_bytes e ++ l) (cut_encoded es p n r more) ∙ sym (append_assoc (record_bytes e) (encoded (without es p n)) r) ∙ ap (λ l. encoded l ++ r) (sym (cond-false (has_key p n e) es (e ∷ without es p n) k)))

-- the five bytes at k become the field of partition q
abbrev pasted : ℕ → ℕ → List ℕ → List ℕ
pasted k q xs = take k xs ++ (field 1 (two_bytes q) ++ drop 5 (drop k xs))

pasted_past : (xs ys : List ℕ) (w b q : ℕ) → length xs ≡ w → pasted (w + b) q (xs ++ ys) ≡ xs ++ pasted b q ys
pasted_past xs ys w b q l = (λ i. take_past xs ys w b l i ++ (field 1 (two_bytes q) ++ drop 5 (drop_past xs ys w b l i))) ∙ append_assoc xs (take b ys) (field 1 (two_bytes q) ++ drop 5 (drop b ys))

pasted_encoded : (es : List Entry) (p q : ℕ) (n r : List ℕ) → holds es p n ≡ true → pasted (place_of es p n) q (encoded es ++ r) ≡ encoded (set es (index es p n) (passed es p q n)) ++ r
pasted_encoded [] p q n r h = absurd (false≢true h)
pasted_encoded (e ∷ es) p q n r h =
    let x = (record_bytes e ++ encoded es) ++ r in
    let y = encoded es ++ r in
    let w = weight (length e.name) in
    let s : x ≡ record_bytes e ++ y = append_assoc (record_bytes e) (encoded es) r in
    let last = λ (o : Option ℕ) (i : ℕ). encoded (set (e ∷ es) i (entry_of q n (number_in o))) ++ r in
    by_key p n e es h
    (λ k.
    let f : found (e ∷ es) p n ≡ Some e.number = cond-true (has_key p n e) (Some e.number) (found es p n) k in
    let i : index (e ∷ es) p n ≡ 0 = cond-true (has_key p n e) 0 (suc (index es p n)) k in
    ap (λ b. pasted b q x) (cond-true (has_key p n e) 0 (w + place_of es p n) k) ∙ ap (λ m. encoded (entry_of q m e.number ∷ es) ++ r) (sym (key_true p n e k).1) ∙ (λ j. last (sym f j) (sym i j)))
    (λ k more.
    let f : found (e ∷ es) p n ≡ found es p n = cond-false (has_key p n e) (Some e.number) (found es p n) k in
    let i : index (e ∷ es) p n ≡ suc (index es p n) = cond-false (has_key p n e) 0 (suc (index es p n)) k in
    ap (λ b. pasted b q x) (cond-false (has_key p n e) 0 (w + place_of es p n) k) ∙ ap (pasted (w + place_of es p n) q) s ∙ pasted_past (record_bytes e) y w (place_of es p n) q (length_record e) ∙ ap (λ l. record_bytes e ++ l) (pasted_encoded es p q n r more) ∙ sym (append_assoc (record_bytes e) (encoded (set es (index es p n) (passed es p q n))) r) ∙ (λ j. last (sym f j) (sym i j)))

number_found : (es : List Entry) (p q : ℕ) (n : List ℕ) → holds es p n ≡ true → list_all number_fits es ≡ true → number_fits (passed es p q n) ≡ true
number_found [] p q n h a = absurd (false≢true h)
number_found (e ∷ es) p q n h a =
    let b = and_parts (number_fits e) (list_all number_fits es) a in
    by_key p n e es h
    (λ k. ap (λ (o : Option ℕ). number_fits (entry_of q n (number_in o))) (cond-true (has_key p n e) (Some e.number) (found es p n) k) ∙ b.0)
    (λ k more. ap (λ (o : Option ℕ). number_fits (entry_of q n (number_in o))) (cond-false (has_key p n e) (Some e.number) (found es p n) k) ∙ number_found es p q n more b.1)

-- a write of w bytes at k: the store's part, its length, and what lies behind
module _ (image new f : List ℕ) (len k w : ℕ) (within : len ≤ length image) (long : length f ≡ w) (fits : k + w ≤ len) (is : new ≡ take k image ++ (f ++ drop (k + w) image)) where
  front_long : length (take k image) ≡ k
  front_long = length-take-le k image (omega arith)

  put_length : length new ≡ length image
  put_length = ap length is ∙ omega (arith, length-append (take k image) (f ++ drop (k + w) image), length-append f (drop (k + w) image), length-drop (k + w) image, front_long)

  put_front : take len new ≡ take k (take len image) ++ (f ++ drop w (drop k (take len image)))
  put_front =
      let rest = len - (k + w) in
      let split : len ≡ k + (w + rest) = omega arith in
      let front : take k image ≡ take k (take len image) = sym (take-take k len image (omega arith)) in
      let back : take rest (drop (k + w) image) ≡ drop w (drop k (take len image)) = between_is image (k + w) len ∙ sym (drop-drop w k (take len image)) in
      ap (take len) is ∙ ap (λ m. take m (take k image ++ (f ++ drop (k + w) image))) split ∙ take_past (take k image) (f ++ drop (k + w) image) k (w + rest) front_long ∙ ap (λ l. take k image ++ l) (take_past f (drop (k + w) image) w rest long) ∙ (λ i. front i ++ (f ++ back i))

  pub put_beyond : drop len new ≡ drop len image
  put_beyond =
      let rest = len - (k + w) in
      let split : len ≡ k + (w + rest) = omega arith in
      let join : k + w + rest ≡ len = omega arith in
      ap (drop len) is ∙ ap (λ m. drop m (take k image ++ (f ++ drop (k + w) image))) split ∙ drop_past (take k image) (f ++ drop (k + w) image) k (w + rest) front_long ∙ drop_past f (drop (k + w) image) w rest long ∙ drop-drop rest (k + w) image ∙ ap (λ m. drop m image) join

-- after a change: the image, and the bytes behind it as they were
pub record Changed (len : ℕ) (old new : List ℕ) (es : List Entry) : Type 0 where
  pub image : Image len new es
  pub beyond : drop len new ≡ drop len old

module _ (image : List ℕ) (len : ℕ) (within : len ≤ length image) (es : List Entry) (h : Packed class (take len image) es) where
  long : length (take len image) ≡ len
  long = length-take-le len image within

  pub encoded_fits : length (encoded es) + h.free ≡ len
  encoded_fits = omega (arith, ap length h.shape, length-append (encoded es) (replicate h.free 0), length-replicate {A = ℕ} h.free 0, long)

  -- where the records end, zeros follow
  front_end : take (length (encoded es)) image ≡ encoded es
  front_end = let all = encoded_fits in sym (take-take (length (encoded es)) len image (omega arith)) ∙ ap (take (length (encoded es))) h.shape ∙ take_at (encoded es) (replicate h.free 0) (length (encoded es)) refl

  back_end : drop (length (encoded es)) image ≡ replicate h.free 0 ++ drop len image
  back_end =
      ap (drop (length (encoded es))) (sym (take-append-drop len image) ∙ ap (λ l. l ++ drop len image) h.shape ∙ append_assoc (encoded es) (replicate h.free 0) (drop len image))
      ∙ drop_at (encoded es) (replicate h.free 0 ++ drop len image) (length (encoded es)) refl

  -- an entry comes: its record behind the others
  pub image_put : (e : Entry) (new : List ℕ) (k : ℕ) → k ≡ length (encoded es) → Lawful (es ++ e ∷ []) → k + weight (length e.name) ≤ len → new ≡ take k image ++ (record_bytes e ++ drop (k + weight (length e.name)) image) → Changed len image new (es ++ e ∷ [])
  image_put e new k at good room is =
      let w = weight (length e.name) in
      let l = put_length image new (record_bytes e) len k w within (length_record e) room is in
      let front : take k (take len image) ≡ encoded es = ap (take k) h.shape ∙ take_at (encoded es) (replicate h.free 0) k (sym at) in
      let back : drop w (drop k (take len image)) ≡ replicate (h.free - w) 0 = ap (λ l. drop w (drop k l)) h.shape ∙ ap (drop w) (drop_at (encoded es) (replicate h.free 0) k (sym at)) ∙ drop-replicate w h.free 0 in
      record {
        image = image_from len new (es ++ e ∷ []) (omega arith) (packed_from (take len new) (es ++ e ∷ []) (h.free - w)
            (put_front image new (record_bytes e) len k w within (length_record e) room is ∙ (λ i. front i ++ (record_bytes e ++ back i)) ∙ sym (append_assoc (encoded es) (record_bytes e) (replicate (h.free - w) 0)) ∙ ap (λ l. l ++ replicate (h.free - w) 0) (flat_map_more record_bytes [] es e))
            good);
        beyond = put_beyond image new (record_bytes e) len k w within (length_record e) room is;
      }

  -- an entry goes to partition q: the field of its partition
  pub image_passed : (p q : ℕ) (n new : List ℕ) (k : ℕ) → k ≡ place_of es p n → holds es p n ≡ true → holds es q n ≡ false → is_key class q n ≡ true → new ≡ take k image ++ (field 1 (two_bytes q) ++ drop (k + 5) image) → Changed len image new (set es (index es p n) (passed es p q n))
  image_passed p q n new k e there free good is =
      let fits = place_fits es p n there in
      let all = encoded_fits in
      let room : k + 5 ≤ len = omega arith in
      let l = put_length image new (field 1 (two_bytes q)) len k 5 within refl room is in
      let es' = set es (index es p n) (passed es p q n) in
      record {
        image = image_from len new es' (omega arith) (packed_from (take len new) es' h.free
            (put_front image new (field 1 (two_bytes q)) len k 5 within refl room is ∙ ap (λ j. pasted j q (take len image)) e ∙ ap (pasted (place_of es p n) q) h.shape ∙ pasted_encoded es p q n (replicate h.free 0) there)
            (lawful_set es p n there (passed es p q n) good (number_found es p q n there h.numbers) free (packed_lawful (take len image) es h)));
        beyond = put_beyond image new (field 1 (two_bytes q)) len k 5 within refl room is;
      }

  -- an entry goes: the records behind it close up
  module _ (p : ℕ) (n new : List ℕ) (k : ℕ) (e : k ≡ place_of es p n) (there : holds es p n ≡ true) (u : ℕ) (end : u ≡ length (encoded es)) (is : new ≡ take k image ++ ((drop (weight (length n)) (drop k (take u image)) ++ replicate (weight (length n)) 0) ++ drop u image)) where
    abbrev g : ℕ
    g = weight (length n)

    abbrev part : List ℕ
    part = drop g (drop k (take len image)) ++ replicate g 0

    abbrev kept : List ℕ
    kept = drop g (drop k (encoded es))

    abbrev zeros : List ℕ
    zeros = replicate h.free 0

    -- the zeros behind the records may close up too
    swapped : replicate g 0 ++ zeros ≡ zeros ++ replicate g 0
    swapped =
        let s : g + h.free ≡ h.free + g = omega arith in
        replicate-append-replicate g h.free 0 ∙ ap (λ m. replicate m 0) s ∙ sym (replicate-append-replicate h.free g 0)

    whole_part : (kept ++ replicate g 0) ++ (zeros ++ drop len image) ≡ part ++ drop len image
    whole_part =
        let fits = place_fits es p n there in
        let short : g ≤ length (drop k (encoded es)) = omega (arith, e, length-drop k (encoded es)) in
        let more : drop g (drop k (take len image)) ≡ kept ++ zeros = ap (λ l. drop g (drop k l)) h.shape ∙ ap (drop g) (drop-append-le k (encoded es) zeros (omega arith)) ∙ drop-append-le g (drop k (encoded es)) zeros short in
        sym (append_assoc (kept ++ replicate g 0) zeros (drop len image))
        ∙ ap (λ l. l ++ drop len image) (append_assoc kept (replicate g 0) zeros ∙ ap (λ l. kept ++ l) swapped ∙ sym (append_assoc kept zeros (replicate g 0)) ∙ ap (λ l. l ++ replicate g 0) (sym more))

    all : new ≡ take k image ++ (part ++ drop len image)
    all =
        is ∙ ap (λ j. take k image ++ ((drop g (drop k (take j image)) ++ replicate g 0) ++ drop j image)) end
        ∙ (λ i. take k image ++ ((drop g (drop k (front_end i)) ++ replicate g 0) ++ back_end i)) ∙ ap (λ l. take k image ++ l) whole_part

    room : k + g ≤ len
    room = let fits = place_fits es p n there in let all = encoded_fits in omega arith

    front_part : length (take k image ++ part) ≡ len
    front_part = let r = room in omega (arith, length-append (take k image) part, length-take-le k image (omega arith), length-append (drop g (drop k (take len image))) (replicate g 0), length-replicate {A = ℕ} g 0, length-drop g (drop k (take len image)), length-drop k (take len image), long)

    joined : new ≡ (take k image ++ part) ++ drop len image
    joined = all ∙ sym (append_assoc (take k image) part (drop len image))

    pub image_removed : Changed len image new (without es p n)
    image_removed =
        let r = room in
        let l : length new ≡ length image = ap length joined ∙ omega (arith, length-append (take k image ++ part) (drop len image), front_part, length-drop len image) in
        let front : take len new ≡ cut k g (take len image) ++ replicate g 0 = ap (take len) joined ∙ take_at (take k image ++ part) (drop len image) len front_part ∙ sym (append_assoc (take k image) (drop g (drop k (take len image))) (replicate g 0)) ∙ ap (λ l. (l ++ drop g (drop k (take len image))) ++ replicate g 0) (sym (take-take k len image (omega arith))) in
        record {
          image = image_from len new (without es p n) (omega arith) (packed_from (take len new) (without es p n) (h.free + g)
              (front ∙ ap (λ j. cut j g (take len image) ++ replicate g 0) e ∙ ap (λ l. cut (place_of es p n) g l ++ replicate g 0) h.shape ∙ ap (λ l. l ++ replicate g 0) (cut_encoded es p n (replicate h.free 0) there) ∙ append_assoc (encoded (without es p n)) (replicate h.free 0) (replicate g 0) ∙ ap (λ l. encoded (without es p n) ++ l) (replicate-append-replicate h.free g 0))
              (lawful_without es p n there (packed_lawful (take len image) es h)));
          beyond = ap (drop len) joined ∙ drop_at (take k image ++ part) (drop len image) len front_part;
        }

  -- every entry goes
  pub image_cleared : (new : List ℕ) (u : ℕ) → u ≡ length (encoded es) → new ≡ replicate u 0 ++ drop u image → Changed len image new []
  image_cleared new u end is =
      let fits = encoded_fits in
      let sum : length (encoded es) + h.free ≡ len = fits in
      let all : new ≡ replicate len 0 ++ drop len image =
      is ∙ ap (λ j. replicate j 0 ++ drop j image) end ∙ ap (λ l. replicate (length (encoded es)) 0 ++ l) back_end
      ∙ sym (append_assoc (replicate (length (encoded es)) 0) (replicate h.free 0) (drop len image)) ∙ ap (λ l. l ++ drop len image) (replicate-append-replicate (length (encoded es)) h.free 0 ∙ ap (λ m. replicate m 0) sum) in
      let l : length new ≡ length image = ap length all ∙ omega (arith, length-append (replicate len 0) (drop len image), length-replicate {A = ℕ} len 0, length-drop len image) in
      record {
        image = image_from len new [] (omega arith) (packed_from (take len new) [] len (ap (take len) all ∙ take_at (replicate len 0) (drop len image) len (length-replicate {A = ℕ} len 0)) (record { keys = refl; numbers = refl }));
        beyond = ap (drop len) all ∙ drop_at (replicate len 0) (drop len image) len (length-replicate {A = ℕ} len 0);
      }
