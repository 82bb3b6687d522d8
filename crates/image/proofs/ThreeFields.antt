-- The three fields of a record, as they are read from parts of an image.
use Rattle.std.proofs.Common.{◌≡◌, ℕ, ◌+◌, ◌-◌, List, length, take, drop, Some, None, sym, ap, ◌∙◌, subst, arith}
use Rattle.std.proofs.lemmas.List.{take_rest, drop-drop}
use Rattle.names.specs.Names.{class}
use Rattle.store.specs.Entries.{Entry}
use Rattle.image.specs.Reading.{content_length, content, from_two, from_eight, fault_at, record_fault, read_entry, name_field, number_field}
use Rattle.image.specs.declared.fault.RecordFault.{RecordFault}
use Rattle.image.proofs.Fields.{good_from, length_content}

module _ (bs : List ℕ) (place : ℕ) (f : RecordFault) where
  pub second_bad : fault_at class 1 place bs ≡ None → fault_at class 2 (place + 5) (name_field bs) ≡ Some f → record_fault class place bs ≡ Some f
  second_bad a h = rw (a, h)

  pub third_bad : fault_at class 1 place bs ≡ None → fault_at class 2 (place + 5) (name_field bs) ≡ None → fault_at class 3 (place + 8 + content_length (name_field bs)) (number_field bs) ≡ Some f → record_fault class place bs ≡ Some f
  third_bad a b h = rw (a, b, h)

pub all_fine : (bs : List ℕ) (place : ℕ) → fault_at class 1 place bs ≡ None → fault_at class 2 (place + 5) (name_field bs) ≡ None → fault_at class 3 (place + 8 + content_length (name_field bs)) (number_field bs) ≡ None → record_fault class place bs ≡ None
all_fine bs place a b h = rw (a, b, h)

-- parts of an image, as the checker reads them
pub name_part : (image : List ℕ) (place : ℕ) → take (length image - (place + 5)) (drop (place + 5) image) ≡ name_field (drop place image)
name_part image place = take_rest image (place + 5) ∙ sym (drop-drop 5 place image)

pub number_part : (image : List ℕ) (place n : ℕ) → n ≡ content_length (name_field (drop place image)) → take (length image - (place + 8 + n)) (drop (place + 8 + n) image) ≡ number_field (drop place image)
number_part image place n h =
    let s : place + 8 + n ≡ place + (8 + content_length (name_field (drop place image))) = omega arith in
    take_rest image (place + 8 + n) ∙ ap (λ k. drop k image) s ∙ sym (drop-drop (8 + content_length (name_field (drop place image))) place image)

-- the three readings at `&image[place..]`, `&image[place + 5..]` and `&image[at..]`
module _ (image : List ℕ) (place : ℕ) where
  module _ (one : fault_at class 1 place (take (length image - place) (drop place image)) ≡ None) where
    one_fine : fault_at class 1 place (drop place image) ≡ None
    one_fine = subst (λ b. fault_at class 1 place b ≡ None) (take_rest image place) one

    pub record_second : (f : RecordFault) → fault_at class 2 (place + 5) (take (length image - (place + 5)) (drop (place + 5) image)) ≡ Some f → record_fault class place (drop place image) ≡ Some f
    record_second f h = second_bad (drop place image) place f one_fine (subst (λ b. fault_at class 2 (place + 5) b ≡ Some f) (name_part image place) h)

    module _ (name : List ℕ) (second : fault_at class 2 (place + 5) (take (length image - (place + 5)) (drop (place + 5) image)) ≡ None) (is : name ≡ content (take (length image - (place + 5)) (drop (place + 5) image))) where
      two_fine : fault_at class 2 (place + 5) (name_field (drop place image)) ≡ None
      two_fine = subst (λ b. fault_at class 2 (place + 5) b ≡ None) (name_part image place) second

      name_is : name ≡ content (name_field (drop place image))
      name_is = is ∙ ap content (name_part image place)

      long : length name ≡ content_length (name_field (drop place image))
      long = ap length name_is ∙ length_content 2 (name_field (drop place image)) (good_from 2 (place + 5) (name_field (drop place image)) two_fine)

      there : take (length image - (place + 8 + length name)) (drop (place + 8 + length name) image) ≡ number_field (drop place image)
      there = number_part image place (length name) long

      pub record_third : (f : RecordFault) → fault_at class 3 (place + 8 + length name) (take (length image - (place + 8 + length name)) (drop (place + 8 + length name) image)) ≡ Some f → record_fault class place (drop place image) ≡ Some f
      record_third f h = third_bad (drop place image) place f one_fine two_fine (subst (λ n. fault_at class 3 (place + 8 + n) (number_field (drop place image)) ≡ Some f) long (subst (λ b. fault_at class 3 (place + 8 + length name) b ≡ Some f) there h))

      pub record_fine : fault_at class 3 (place + 8 + length name) (take (length image - (place + 8 + length name)) (drop (place + 8 + length name) image)) ≡ None → record_fault class place (drop place image) ≡ None
      record_fine h = all_fine (drop place image) place one_fine two_fine (subst (λ n. fault_at class 3 (place + 8 + n) (number_field (drop place image)) ≡ None) long (subst (λ b. fault_at class 3 (place + 8 + length name) b ≡ None) there h))

      pub record_entry : (p n : ℕ) → p ≡ from_two (content (take (length image - place) (drop place image))) → n ≡ from_eight (content (take (length image - (place + 8 + length name)) (drop (place + 8 + length name) image))) → ◌≡◌ {A = Entry} (record { partition = p; name = name; number = n }) (read_entry (drop place image))
      record_entry p n a b =
          let x : p ≡ from_two (content (drop place image)) = a ∙ ap (λ l. from_two (content l)) (take_rest image place) in
          let y : n ≡ from_eight (content (number_field (drop place image))) = b ∙ ap (λ l. from_eight (content l)) there in
          let z = name_is in
          cc
