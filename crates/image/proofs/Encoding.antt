-- One record: what is read of what is written, and the other way round.
use Rattle.std.proofs.Common.{◌≡◌, ℕ, ◌+◌, ◌/◌, ◌%◌, ◌^◌, ◌<◌, ◌≤◌, true, leb, List, [], ◌∷◌, ◌++◌, length, get_or, take, drop, Some, None, Option, sym, refl, ap, ◌∙◌, subst, ⊎_elim, append_assoc, arith}
use Rattle.std.proofs.lemmas.List.{take-append-drop, drop-drop, length-take-le, length-drop, length-append, take_at, drop_at, get_or-take, get_or-drop, get_or_past}
use Rattle.std.proofs.lemmas.Bool.{cases_lt, le-leb, leb-true, ltb-true, lt-ltb, eqb-true, and_parts, and_from}
use Rattle.std.proofs.lemmas.Nat.{from_be_bytes-to_be_bytes_8, be_bytes_8}
use Rattle.std.specs.Option.{option_or}
use Rattle.names.specs.Names.{class, is_short}
use Rattle.store.specs.Entries.{Entry, is_key}
use Rattle.image.specs.Format.{field, eight_bytes, record_bytes, number_fits, weight}
use Rattle.image.specs.Reading.{content_length, content, from_two, from_eight, fault_at, record_fault, read_entry, name_field, number_field, next_record}
use Rattle.image.proofs.Fields.{Good, good_from, good_fault}
use Rattle.std.proofs.lemmas.Option.{none-some}

-- the record of an entry and what follows it, byte by byte
abbrev pub spelled : Entry → List ℕ → List ℕ
spelled e rest = 1 ∷ 0 ∷ 2 ∷ e.partition / 256 ∷ e.partition % 256 ∷ 2 ∷ length e.name / 256 ∷ length e.name % 256 ∷ (e.name ++ (3 ∷ 0 ∷ 8 ∷ (eight_bytes e.number ++ rest)))

pub record_spelled : (e : Entry) (rest : List ℕ) → record_bytes e ++ rest ≡ spelled e rest
record_spelled e rest = ap (λ l. 1 ∷ 0 ∷ 2 ∷ e.partition / 256 ∷ e.partition % 256 ∷ 2 ∷ length e.name / 256 ∷ length e.name % 256 ∷ l) (append_assoc e.name (field 3 (eight_bytes e.number)) rest)

first_none : {X : Type 0} (a b : Option X) → option_or a b ≡ None → (a ≡ None) × (b ≡ None)
first_none None b h = (refl, h)
first_none (Some x) b h = absurd (none-some x (sym h))

-- the three fields of a record are without a fault
pub record Whole (bs : List ℕ) : Type 0 where
  pub partition : Good 1 bs
  pub name : Good 2 (name_field bs)
  pub number : Good 3 (number_field bs)

pub whole_fault : (place : ℕ) (bs : List ℕ) → Whole bs → record_fault class place bs ≡ None
whole_fault place bs w =
    let a = good_fault 1 place bs w.partition in
    let b = good_fault 2 (place + 5) (name_field bs) w.name in
    let c = good_fault 3 (place + 8 + content_length (name_field bs)) (number_field bs) w.number in
    rw (a, b, c)

pub whole_from : (place : ℕ) (bs : List ℕ) → record_fault class place bs ≡ None → Whole bs
whole_from place bs h =
    let a = first_none (fault_at class 1 place bs) _ h in
    let b = first_none (fault_at class 2 (place + 5) (name_field bs)) _ a.1 in
    record { partition = good_from 1 place bs a.0; name = good_from 2 (place + 5) (name_field bs) b.0; number = good_from 3 (place + 8 + content_length (name_field bs)) (number_field bs) b.1 }

pub same_entry : (d e : Entry) → d.partition ≡ e.partition → d.name ≡ e.name → d.number ≡ e.number → d ≡ e
same_entry d e a b c = λ i. record { partition = a i; name = b i; number = c i }

module _ (e : Entry) (rest : List ℕ) where
  length_spelled : content_length (name_field (spelled e rest)) ≡ length e.name
  length_spelled = omega arith

  name_spelled : content (name_field (spelled e rest)) ≡ e.name
  name_spelled = take_at e.name (3 ∷ 0 ∷ 8 ∷ (eight_bytes e.number ++ rest)) (content_length (name_field (spelled e rest))) (sym length_spelled)

  number_spelled : number_field (spelled e rest) ≡ 3 ∷ 0 ∷ 8 ∷ (eight_bytes e.number ++ rest)
  number_spelled = sym (drop-drop (content_length (name_field (spelled e rest))) 8 (spelled e rest)) ∙ drop_at e.name (3 ∷ 0 ∷ 8 ∷ (eight_bytes e.number ++ rest)) (content_length (name_field (spelled e rest))) (sym length_spelled)

  pub rest_spelled : next_record (spelled e rest) ≡ rest
  rest_spelled =
      let n = content_length (name_field (spelled e rest)) in
      let s : weight n ≡ 8 + n + 11 = omega arith in
      ap (λ k. drop k (spelled e rest)) s ∙ sym (drop-drop 11 (8 + n) (spelled e rest)) ∙ ap (drop 11) number_spelled

  pub whole_spelled : is_key class e.partition e.name ≡ true → Whole (spelled e rest)
  whole_spelled k =
      let p = and_parts (leb e.partition 511) (is_short class e.name) k in
      let small : e.partition ≤ 511 = leb-true _ _ p.0 in
      let n = and_parts _ _ (and_parts _ _ p.1).0 in
      let some : 1 ≤ length e.name = leb-true _ _ n.0 in
      let few : length e.name ≤ 32 = leb-true _ _ n.1 in
      let s = length_spelled in
      record {
        partition = record { tag = refl; fits = refl; room = omega arith; passes = le-leb _ _ (omega arith) };
        name = record {
          tag = refl;
          fits = and_from _ _ (le-leb 1 (content_length (name_field (spelled e rest))) (omega arith)) (le-leb (content_length (name_field (spelled e rest))) 32 (omega arith));
          room = omega (arith, length-append e.name (3 ∷ 0 ∷ 8 ∷ (eight_bytes e.number ++ rest)));
          passes = ap (is_short class) name_spelled ∙ p.1;
        };
        number = subst (Good 3) (sym number_spelled) (record { tag = refl; fits = refl; room = omega arith; passes = refl });
      }

  pub entry_spelled : number_fits e ≡ true → read_entry (spelled e rest) ≡ e
  entry_spelled h =
      let a : from_two (content (spelled e rest)) ≡ e.partition = omega arith in
      let b = name_spelled in
      let small : e.number < 2 ^ 64 = ltb-true _ _ h in
      let c : from_eight (content (number_field (spelled e rest))) ≡ e.number = ap (λ l. from_eight (content l)) number_spelled ∙ from_be_bytes-to_be_bytes_8 e.number small in
      same_entry _ _ a b c

pub long3 : (bs : List ℕ) → 3 ≤ length bs → get_or bs 0 0 ∷ get_or bs 1 0 ∷ get_or bs 2 0 ∷ drop 3 bs ≡ bs
long3 [] h = absurd (omega arith)
long3 (a ∷ []) h = absurd (omega arith)
long3 (a ∷ b ∷ []) h = absurd (omega arith)
long3 (a ∷ b ∷ c ∷ bs) h = refl

pub long8 : (bs : List ℕ) → 8 ≤ length bs → get_or bs 0 0 ∷ get_or bs 1 0 ∷ get_or bs 2 0 ∷ get_or bs 3 0 ∷ get_or bs 4 0 ∷ get_or bs 5 0 ∷ get_or bs 6 0 ∷ get_or bs 7 0 ∷ drop 8 bs ≡ bs
long8 [] h = absurd (omega arith)
long8 (a ∷ []) h = absurd (omega arith)
long8 (a ∷ b ∷ []) h = absurd (omega arith)
long8 (a ∷ b ∷ c ∷ []) h = absurd (omega arith)
long8 (a ∷ b ∷ c ∷ d ∷ []) h = absurd (omega arith)
long8 (a ∷ b ∷ c ∷ d ∷ e ∷ []) h = absurd (omega arith)
long8 (a ∷ b ∷ c ∷ d ∷ e ∷ f ∷ []) h = absurd (omega arith)
long8 (a ∷ b ∷ c ∷ d ∷ e ∷ f ∷ g ∷ []) h = absurd (omega arith)
long8 (a ∷ b ∷ c ∷ d ∷ e ∷ f ∷ g ∷ h ∷ bs) l = refl

eight_below : (c : List ℕ) → ((i : ℕ) → get_or c i 0 < 256) → from_eight c < 2 ^ 64
eight_below c small = omega (arith, small 0, small 1, small 2, small 3, small 4, small 5, small 6, small 7)

-- what an entry without fault says, encoded again, is what stands there
module _ (bs : List ℕ) (w : Whole bs) (bytes : (i : ℕ) → get_or bs i 0 < 256) where
  name_size : (1 ≤ content_length (name_field bs)) × (content_length (name_field bs) ≤ 32)
  name_size = let p = and_parts _ _ w.name.fits in (leb-true _ _ p.0, leb-true _ _ p.1)

  number_long : content (number_field bs) ≡ take 8 (drop 3 (number_field bs))
  number_long = ap (λ k. take k (drop 3 (number_field bs))) (eqb-true _ _ w.number.fits)

  number_eight : length (content (number_field bs)) ≡ 8
  number_eight =
      let long : content_length (number_field bs) ≡ 8 = eqb-true _ _ w.number.fits in
      ap length number_long ∙ length-take-le 8 (drop 3 (number_field bs)) (omega (arith, length-drop 3 (number_field bs), w.number.room))

  number_small : (i : ℕ) → get_or (content (number_field bs)) i 0 < 256
  number_small i =
      let nb = number_field bs in
      let n = content_length (name_field bs) in
      ⊎_elim
      (λ below.
      subst (λ x. x < 256)
      (sym (ap (λ l. get_or l i 0) number_long ∙ get_or-take 8 (drop 3 nb) i 0 below ∙ get_or-drop 3 nb i 0 ∙ get_or-drop (8 + n) bs (3 + i) 0))
      (bytes (8 + n + (3 + i))))
      (λ above. omega (arith, get_or_past (content nb) i 0 (omega (arith, number_eight))))
      (cases_lt i 8)

  -- the number's field and what follows
  third : 3 ∷ 0 ∷ 8 ∷ (eight_bytes (from_eight (content (number_field bs))) ++ drop (weight (content_length (name_field bs))) bs) ≡ number_field bs
  third =
      let nb = number_field bs in
      let n = content_length (name_field bs) in
      let long : content_length nb ≡ 8 = eqb-true _ _ w.number.fits in
      let room : 11 ≤ length nb = omega (arith, w.number.room) in
      let t0 : get_or nb 0 0 ≡ 3 = w.number.tag in
      let t1 : get_or nb 1 0 ≡ 0 = omega arith in
      let t2 : get_or nb 2 0 ≡ 8 = omega arith in
      let e : eight_bytes (from_eight (content nb)) ≡ take 8 (drop 3 nb) = be_bytes_8 (content nb) (from_eight (content nb)) number_eight number_small refl ∙ number_long in
      let s : weight n ≡ 8 + n + 11 = omega arith in
      let r : drop (weight n) bs ≡ drop 8 (drop 3 nb) = ap (λ k. drop k bs) s ∙ sym (drop-drop 11 (8 + n) bs) ∙ sym (drop-drop 8 3 nb) in
      let tail : eight_bytes (from_eight (content nb)) ++ drop (weight n) bs ≡ drop 3 nb = (λ i. e i ++ r i) ∙ take-append-drop 8 (drop 3 nb) in
      (λ i. sym t0 i ∷ sym t1 i ∷ sym t2 i ∷ tail i) ∙ long3 nb (omega arith)

  pub spelled_back : spelled (read_entry bs) (next_record bs) ≡ bs
  spelled_back =
      let n = content_length (name_field bs) in
      let long : content_length bs ≡ 2 = eqb-true _ _ w.partition.fits in
      let room : 5 ≤ length bs = omega (arith, w.partition.room) in
      let nroom : 3 + n ≤ length (name_field bs) = w.name.room in
      let all : 8 ≤ length bs = omega (arith, length-drop 5 bs) in
      let t0 : get_or bs 0 0 ≡ 1 = w.partition.tag in
      let t1 : get_or bs 1 0 ≡ 0 = omega arith in
      let t2 : get_or bs 2 0 ≡ 2 = omega arith in
      let b3 : get_or (content bs) 0 0 ≡ get_or bs 3 0 = get_or-take (content_length bs) (drop 3 bs) 0 0 (omega arith) ∙ get_or-drop 3 bs 0 0 in
      let b4 : get_or (content bs) 1 0 ≡ get_or bs 4 0 = get_or-take (content_length bs) (drop 3 bs) 1 0 (omega arith) ∙ get_or-drop 3 bs 1 0 in
      let low = bytes 4 in
      let p3 : from_two (content bs) / 256 ≡ get_or bs 3 0 = omega arith in
      let p4 : from_two (content bs) % 256 ≡ get_or bs 4 0 = omega arith in
      let t5 : get_or bs 5 0 ≡ 2 = sym (get_or-drop 5 bs 0 0) ∙ w.name.tag in
      let d6 : get_or (name_field bs) 1 0 ≡ get_or bs 6 0 = get_or-drop 5 bs 1 0 in
      let d7 : get_or (name_field bs) 2 0 ≡ get_or bs 7 0 = get_or-drop 5 bs 2 0 in
      let ln : length (content (name_field bs)) ≡ n = length-take-le n (drop 3 (name_field bs)) (omega (arith, length-drop 3 (name_field bs))) in
      let few = name_size in
      let p6 : length (content (name_field bs)) / 256 ≡ get_or bs 6 0 = omega arith in
      let p7 : length (content (name_field bs)) % 256 ≡ get_or bs 7 0 = omega arith in
      let tail : content (name_field bs) ++ (3 ∷ 0 ∷ 8 ∷ (eight_bytes (from_eight (content (number_field bs))) ++ drop (weight n) bs)) ≡ drop 8 bs =
      (λ i. take n (drop-drop 3 5 bs i) ++ (third ∙ sym (drop-drop n 8 bs)) i) ∙ take-append-drop n (drop 8 bs) in
      (λ i. sym t0 i ∷ sym t1 i ∷ sym t2 i ∷ p3 i ∷ p4 i ∷ sym t5 i ∷ p6 i ∷ p7 i ∷ tail i) ∙ long8 bs all

  pub key_read : is_key class (read_entry bs).partition (read_entry bs).name ≡ true
  key_read = and_from _ _ w.partition.passes w.name.passes

  pub number_read : number_fits (read_entry bs) ≡ true
  number_read = lt-ltb _ _ (eight_below (content (number_field bs)) number_small)
