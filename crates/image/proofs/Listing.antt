-- The entries that are listed of bytes, record by record.
use Rattle.std.proofs.Common.{◌≡◌, ℕ, zero, suc, ◌+◌, ◌≤◌, false, cond, leb, List, [], ◌∷◌, length, drop, is_some, Some, None, sym, refl, ap, ◌∙◌, ⊎_elim, arith}
use Rattle.std.proofs.lemmas.Iterator.{YieldsList}
use Rattle.std.proofs.lemmas.Iterator.Consumers.{YieldsList-from_shown, YieldsList-at}
use Rattle.std.proofs.lemmas.List.{length-drop, length-append}
use Rattle.std.proofs.lemmas.Bool.{and_left, lt-leb, eqb-true}
use Rattle.names.specs.Names.{class}
use Rattle.store.specs.Entries.{Entry}
use Rattle.image.specs.Format.{weight, record_bytes, encoded}
use Rattle.image.specs.Lawful.{length_record}
use Rattle.image.specs.Promises.{entry_in, FirstEntry, entries_left, StepsOver}
use Rattle.image.specs.Reading.{content_length, has_tag, record_fault, read_entry, name_field, number_field, next_record, listed_by, listed}
use Rattle.image.specs.declared.fault.RecordFault.TheVariants.{Tag}
use Rattle.image.specs.declared.records.Records.{Records}
use Rattle.image.proofs.Fields.{length_content, option_cases}
use Rattle.image.proofs.Encoding.{Whole, whole_from, whole_fault}

not_one : (bs : List ℕ) (place : ℕ) → has_tag 1 bs ≡ false → record_fault class place bs ≡ Some (Tag place)
not_one bs place h = rw h

pub listed_none : (turns : ℕ) (bs : List ℕ) → has_tag 1 bs ≡ false → listed_by class turns bs ≡ []
listed_none zero bs h = refl
listed_none (suc t) bs h = let a = not_one bs 0 h in rw a

pub listed_step : (t : ℕ) (bs : List ℕ) → Whole bs → listed_by class (suc t) bs ≡ read_entry bs ∷ listed_by class t (next_record bs)
listed_step t bs w = let a = whole_fault 0 bs w in rw a

-- more turns than bytes list the same
none_left : (bs : List ℕ) → length bs ≤ 0 → has_tag 1 bs ≡ false
none_left bs h = and_left (leb 1 (length bs)) _ (lt-leb 1 (length bs) (omega arith))

pub listed_enough : (t u : ℕ) (bs : List ℕ) → length bs ≤ t → length bs ≤ u → listed_by class t bs ≡ listed_by class u bs
listed_enough zero zero bs h k = refl
listed_enough zero (suc u) bs h k = sym (listed_none (suc u) bs (none_left bs h))
listed_enough (suc t) zero bs h k = listed_none (suc t) bs (none_left bs k)
listed_enough (suc t) (suc u) bs h k =
    let l = length-drop (weight (content_length (name_field bs))) bs in
    ap (λ (es : List Entry). cond (is_some (record_fault class 0 bs)) [] (read_entry bs ∷ es)) (listed_enough t u (next_record bs) (omega arith) (omega arith))

module _ (bs : List ℕ) (w : Whole bs) where
  -- a whole record lies in the bytes
  pub whole_fits : weight (content_length (name_field bs)) ≤ length bs
  whole_fits =
      let n = content_length (name_field bs) in
      let long : content_length (number_field bs) ≡ 8 = eqb-true _ _ w.number.fits in
      let r : 3 + content_length (number_field bs) ≤ length (number_field bs) = w.number.room in
      omega (arith, length-drop (8 + n) bs)

  pub name_long : length (read_entry bs).name ≡ content_length (name_field bs)
  name_long = length_content 2 (name_field bs) w.name

  by_turns : (k : ℕ) → k ≡ length bs → listed_by class k bs ≡ read_entry bs ∷ listed class (next_record bs)
  by_turns zero h = absurd (omega (arith, whole_fits))
  by_turns (suc t) h =
      let l = length-drop (weight (content_length (name_field bs))) bs in
      listed_step t bs w ∙ ap (λ (es : List Entry). read_entry bs ∷ es) (listed_enough t (length (next_record bs)) (next_record bs) (omega arith) (omega arith))

  pub listed_more : listed class bs ≡ read_entry bs ∷ listed class (next_record bs)
  listed_more = by_turns (length bs) refl

pub first_entry : (bs : List ℕ) (e : Entry) (place : ℕ) → record_fault class place bs ≡ None → e ≡ read_entry bs → FirstEntry class bs e (drop (weight (length e.name)) bs)
first_entry bs e place fine is =
    let w = whole_from place bs fine in
    let long : content_length (name_field bs) ≡ length e.name = sym (ap (λ (d : Entry). length d.name) is ∙ name_long bs w) in
    (listed_more bs w ∙ (λ i. sym is i ∷ listed class (drop (weight (long i)) bs)), refl, omega (arith, whole_fits bs w, length-drop (weight (length e.name)) bs))

-- the records that are listed lie in the bytes
encoded_by : (t : ℕ) (bs : List ℕ) → length (encoded (listed_by class t bs)) ≤ length bs
encoded_by zero bs = omega arith
encoded_by (suc t) bs =
    ⊎_elim
    (λ fine.
    let w = whole_from 0 bs fine in
    let e = read_entry bs in
    let es = listed_by class t (next_record bs) in
    let l : length (encoded (listed_by class (suc t) bs)) ≡ weight (length e.name) + length (encoded es) = ap (λ l. length (encoded l)) (listed_step t bs w) ∙ length-append (record_bytes e) (encoded es) ∙ ap (λ k. k + length (encoded es)) (length_record e) in
    omega (arith, l, name_long bs w, whole_fits bs w, encoded_by t (next_record bs), length-drop (weight (content_length (name_field bs))) bs))
    (λ bad. let b = bad.1 in let l : listed_by class (suc t) bs ≡ [] = rw b refl in omega (arith, ap (λ l. length (encoded l)) l))
    (option_cases (record_fault class 0 bs))

pub encoded_within : (bs : List ℕ) → length (encoded (listed class bs)) ≤ length bs
encoded_within bs = encoded_by (length bs) bs

-- what the records of an image yield
pub records_yield : (records : Records) (image : List ℕ) → records.rest.now ≡ image → YieldsList StepsOver entry_in records (listed class image)
records_yield records image h =
    YieldsList-at {t = record { rest = record records.rest { now = image } }} (λ i. record { rest = record records.rest { now = h i } })
    (YieldsList-from_shown StepsOver entry_in entries_left (λ s t g. ap length g.0.0) (λ s x t g. g.0) (record { rest = record records.rest { now = image } }))
