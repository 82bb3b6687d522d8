-- The walk from record to record that looks for the first fault.
use Rattle.std.proofs.Common.{◌≡◌, ℕ, zero, suc, ◌+◌, ◌<◌, ◌≤◌, Bool, true, false, not, eqb, leb, List, [], ◌∷◌, ◌++◌, length, get_or, take, drop, is_some, Some, None, Option, Ok, Err, sym, refl, ap, ◌∙◌, subst, add-zero, arith, take-add}
use Rattle.std.proofs.lemmas.List.{length-drop, drop-drop, drop_all, append-nil, take_at, get_or-drop, flat_map_more}
use Rattle.std.proofs.lemmas.Bool.{cond-true, cond-false, or_from, or_left, or_right, not_from_true, not_from_false, le-leb, lt-leb, eq-eqb, ne_eqb}
use Rattle.std.specs.List.{position_from}
use Rattle.std.specs.Option.{option_map}
use Rattle.names.specs.Names.{class}
use Rattle.store.specs.Entries.{Entry, found, holds}
use Rattle.image.specs.Format.{weight, record_bytes, encoded}
use Rattle.image.specs.Lawful.{length_record}
use Rattle.image.specs.Reading.{content_length, record_fault, read_entry, name_field, next_record, ended, non_zero, listed, fault_from, fault}
use Rattle.image.specs.Theorems.{Checked}
use Rattle.image.specs.declared.fault.RecordFault.{RecordFault}
use Rattle.image.specs.declared.fault.ImageFault.{ImageFault}
use Rattle.image.specs.declared.fault.ImageFault.TheVariants.{Record, SecondEntry, NonZeroByte}
use Rattle.image.specs.declared.refusal.ImageRefusal.TheVariants.{Malformed}
use Rattle.std.proofs.lemmas.Option.{none-some}
use Rattle.image.proofs.Encoding.{Whole, whole_from, spelled, record_spelled, spelled_back, key_read, number_read}
use Rattle.image.proofs.FirstFault.{record_some, record_none, first_fault}
use Rattle.image.proofs.Images.{listed_back, fault_step, packed_listed, packed_fine, packed_lists}
use Rattle.image.proofs.LawfulLists.{Lawful, Front, lawful_push, found_holds}
use Rattle.image.proofs.Listing.{whole_fits, name_long}

-- whether the records end at a place
first_byte : (bs : List ℕ) (place : ℕ) → get_or (drop place bs) 0 0 ≡ get_or bs place 0
first_byte bs place = get_or-drop place bs 0 0 ∙ ap (λ k. get_or bs k 0) (add-zero place)

pub goes_on : (bs : List ℕ) (place : ℕ) → place < length bs → (get_or bs place 0 ≡ 0 → ⊥) → ended (drop place bs) ≡ false
goes_on bs place l h =
    or_from _ _ (not_from_true _ (le-leb 1 (length (drop place bs)) (omega (arith, length-drop place bs)))) (ne_eqb (get_or (drop place bs) 0 0) 0 (λ z. h (sym (first_byte bs place) ∙ z)))

pub ends_long : (bs : List ℕ) (place : ℕ) → length bs ≤ place → ended (drop place bs) ≡ true
ends_long bs place h = or_left (not (leb 1 (length (drop place bs)))) _ (not_from_false _ (lt-leb 1 (length (drop place bs)) (omega (arith, length-drop place bs))))

pub ends_zero : (bs : List ℕ) (place : ℕ) → get_or bs place 0 ≡ 0 → ended (drop place bs) ≡ true
ends_zero bs place h = or_right _ (eqb (get_or (drop place bs) 0 0) 0) (eq-eqb (get_or (drop place bs) 0 0) 0 (first_byte bs place ∙ h))

-- the first byte that is not zero, by its position
non_zero_from : (place n : ℕ) (bs : List ℕ) → non_zero (place + n) bs ≡ option_map (λ i. NonZeroByte (place + i)) (position_from (λ b. not (eqb b 0)) n bs)
non_zero_from place n [] = refl
non_zero_from place n (b ∷ bs) = let i = non_zero_from place (n + 1) bs in grind (arith, i)

pub non_zero_found : (place : ℕ) (bs : List ℕ) (r : Option ℕ) → position_from (λ b. not (eqb b 0)) 0 bs ≡ r → non_zero place bs ≡ option_map (λ i. NonZeroByte (place + i)) r
non_zero_found place bs r h = ap (λ k. non_zero k bs) (sym (add-zero place)) ∙ non_zero_from place 0 bs ∙ ap (option_map (λ i. NonZeroByte (place + i))) h

-- the bytes before a place are the records of the entries seen, and what is left has the fault
pub record Checking (bs : List ℕ) (place : ℕ) : Type 0 where
  pub turns : ℕ
  pub seen : List Entry
  pub enough : length bs ≤ place + turns
  pub within : place ≤ length bs
  pub done : take place bs ≡ encoded seen
  pub lawful : Lawful seen
  pub left : fault class bs ≡ fault_from class turns seen place (drop place bs)

module _ (bs : List ℕ) where
  pub check_start : Checking bs 0
  check_start = record { turns = length bs; seen = []; enough = omega arith; within = omega arith; done = refl; lawful = record { keys = refl; numbers = refl }; left = refl }

  module _ (place : ℕ) (s : Checking bs place) where
    last_turn : (turns : ℕ) → length bs ≤ place + turns → ended (drop place bs) ≡ true → fault_from class turns s.seen place (drop place bs) ≡ non_zero place (drop place bs)
    last_turn zero h e = sym (ap (non_zero place) (drop_all place bs (omega arith)))
    last_turn (suc t) h e = cond-true (ended (drop place bs)) _ _ e

    pub check_end : ended (drop place bs) ≡ true → fault class bs ≡ non_zero place (drop place bs)
    check_end e = s.left ∙ last_turn s.turns s.enough e

    module _ (goes : ended (drop place bs) ≡ false) (inside : place < length bs) where
      fault_turn : (f : RecordFault) (turns : ℕ) → length bs ≤ place + turns → record_fault class place (drop place bs) ≡ Some f → fault_from class turns s.seen place (drop place bs) ≡ Some (Record f)
      fault_turn f zero h e = absurd (omega arith)
      fault_turn f (suc t) h e = cond-false (ended (drop place bs)) _ _ goes ∙ record_some (record_fault class place (drop place bs)) _ f e

      pub check_fault : (f : RecordFault) → record_fault class place (drop place bs) ≡ Some f → fault class bs ≡ Some (Record f)
      check_fault f e = s.left ∙ fault_turn f s.turns s.enough e

      -- a record without a fault, whose entry e is looked for among those before it
      module _ (fine : record_fault class place (drop place bs) ≡ None) (e : Entry) (is : e ≡ read_entry (drop place bs)) where
        whole : Whole (drop place bs)
        whole = whole_from place (drop place bs) fine

        seen_listed : listed class (take place bs) ≡ s.seen
        seen_listed =
            let w = encoded s.seen in
            ap (listed class) (s.done ∙ sym (append-nil w)) ∙ listed_back s.seen [] (length (w ++ [])) s.lawful refl (omega arith)

        looked : (b : Bool) → is_some (found (listed class (take place bs)) e.partition e.name) ≡ b → holds s.seen e.partition e.name ≡ b
        looked b h = sym (found_holds s.seen e.partition e.name) ∙ ap (λ l. is_some (found l e.partition e.name)) (sym seen_listed) ∙ h

        read : (b : Bool) → holds s.seen e.partition e.name ≡ b → holds s.seen (read_entry (drop place bs)).partition (read_entry (drop place bs)).name ≡ b
        read b h = ap (λ d. holds s.seen d.partition d.name) (sym is) ∙ h

        second_turn : (turns : ℕ) → length bs ≤ place + turns → holds s.seen (read_entry (drop place bs)).partition (read_entry (drop place bs)).name ≡ true → fault_from class turns s.seen place (drop place bs) ≡ Some (SecondEntry place)
        second_turn zero h k = absurd (omega arith)
        second_turn (suc t) h k = cond-false (ended (drop place bs)) _ _ goes ∙ record_none (record_fault class place (drop place bs)) _ fine ∙ cond-true (holds s.seen (read_entry (drop place bs)).partition (read_entry (drop place bs)).name) _ _ k

        pub check_second : is_some (found (listed class (take place bs)) e.partition e.name) ≡ true → fault class bs ≡ Some (SecondEntry place)
        check_second h = s.left ∙ second_turn s.turns s.enough (read true (looked true h))

        next_turn : (turns : ℕ) → length bs ≤ place + turns → holds s.seen (read_entry (drop place bs)).partition (read_entry (drop place bs)).name ≡ false → (t : ℕ) × (turns ≡ suc t) × (fault_from class turns s.seen place (drop place bs) ≡ fault_from class t (s.seen ++ read_entry (drop place bs) ∷ []) (place + weight (content_length (name_field (drop place bs)))) (next_record (drop place bs)))
        next_turn zero h k = absurd (omega arith)
        next_turn (suc t) h k = (t, refl, fault_step t s.seen place (drop place bs) goes fine k)

        long : length e.name ≡ content_length (name_field (drop place bs))
        long = ap (λ d. length d.name) is ∙ name_long (drop place bs) whole

        pub check_more : ((i : ℕ) → get_or bs i 0 < 256) → is_some (found (listed class (take place bs)) e.partition e.name) ≡ false → Checking bs (place + weight (length e.name))
        check_more small h =
            let k = looked false h in
            let x = next_turn s.turns s.enough (read false k) in
            let after = next_record (drop place bs) in
            let w = weight (length e.name) in
            let rest : after ≡ drop (place + w) bs = drop-drop (weight (content_length (name_field (drop place bs)))) place bs ∙ ap (λ k. drop (place + weight k) bs) (sym long) in
            let here : (i : ℕ) → get_or (drop place bs) i 0 < 256 = λ i. subst (λ x. x < 256) (sym (get_or-drop place bs i 0)) (small (place + i)) in
            let all : record_bytes e ++ after ≡ drop place bs = record_spelled e after ∙ ap (λ d. spelled d after) is ∙ spelled_back (drop place bs) whole here in
            let front : take w (drop place bs) ≡ record_bytes e = ap (take w) (sym all) ∙ take_at (record_bytes e) after w (length_record e) in
            let seen = s.seen in
            record {
              turns = x.0;
              seen = seen ++ e ∷ [];
              enough = omega (arith, s.enough, x.1);
              within = omega (arith, long, whole_fits (drop place bs) whole, length-drop place bs);
              done = take-add place w bs ∙ (λ i. s.done i ++ front i) ∙ flat_map_more record_bytes [] seen e;
              lawful = lawful_push seen e (subst (λ d. Front d seen) (sym is) (record { key = key_read (drop place bs) whole here; number = number_read (drop place bs) whole here; alone = read false k; rest = s.lawful }));
              left = s.left ∙ x.2 ∙ (λ i. fault_from class x.0 (seen ++ sym is i ∷ []) (place + weight (sym long i)) (rest i));
            }

-- what the answer of a check says
module _ (bs : List ℕ) (small : (i : ℕ) → get_or bs i 0 < 256) (few : length bs ≤ 65536) where
  pub checked_fine : fault class bs ≡ None → Checked class (Ok tt) bs
  checked_fine h = (few, packed_listed bs small h, λ es p. sym (packed_lists bs es p))

  pub checked_fault : (f : ImageFault) → fault class bs ≡ Some f → Checked class (Err (Malformed f)) bs
  checked_fault f h = (few, (λ es p. none-some f (sym (packed_fine bs es p) ∙ h)), first_fault bs small f h)
