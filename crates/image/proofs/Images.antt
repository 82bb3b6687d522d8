-- Whole images: what is read of what is written, and the other way round.
use Rattle.std.proofs.Common.{◌≡◌, ℕ, zero, suc, ◌+◌, ◌<◌, ◌≤◌, Bool, true, false, cond, not, eqb, leb, List, [], ◌∷◌, ◌++◌, length, get_or, replicate, Some, None, Option, sym, refl, ap, ◌∙◌, subst, ⊎_elim, append_assoc, arith}
use Rattle.std.specs.Option.{option_map, option_or}
use Rattle.std.proofs.lemmas.List.{length-drop, length-append, get_or-drop, append-nil}
use Rattle.std.proofs.lemmas.Bool.{and_left, and_right, or_cases, or_from, not_from_true, le-leb, or_right, cases_Bool, eqb-true, ne_eqb, not-true, cond-true, cond-false}
use Rattle.names.specs.Names.{class}
use Rattle.store.specs.Entries.{Entry, holds}
use Rattle.image.specs.Format.{record_bytes, encoded, weight, Packed}
use Rattle.image.specs.Lawful.{length_record}
use Rattle.image.specs.Reading.{content_length, has_tag, record_fault, read_entry, name_field, next_record, listed_by, listed, non_zero, ended, fault_from, fault}
use Rattle.image.specs.declared.fault.RecordFault.{RecordFault}
use Rattle.image.specs.declared.fault.ImageFault.{ImageFault}
use Rattle.image.specs.declared.fault.ImageFault.TheVariants.{Record, SecondEntry, NonZeroByte}
use Rattle.image.proofs.Fields.{cond_none}
use Rattle.std.proofs.lemmas.Option.{none-some}
use Rattle.image.proofs.Encoding.{whole_from, whole_fault, spelled, record_spelled, whole_spelled, entry_spelled, rest_spelled, spelled_back, key_read, number_read}
use Rattle.image.proofs.LawfulLists.{Lawful, lawful_parts, lawful_push, lawful_at, holds_front}
use Rattle.image.proofs.Listing.{listed_none, listed_step}

-- the end of the records
zeros_from : (place : ℕ) (bs : List ℕ) → non_zero place bs ≡ None → bs ≡ replicate (length bs) 0
zeros_from place [] h = refl
zeros_from place (b ∷ bs) h =
    let p = cond_none (eqb b 0) (non_zero (place + 1) bs) (NonZeroByte place) h in
    let z : b ≡ 0 = eqb-true b 0 p.0 in
    let i = zeros_from (place + 1) bs p.1 in
    (λ j. z j ∷ i j)

zeros_fine : (place k : ℕ) → non_zero place (replicate k 0) ≡ None
zeros_fine place zero = refl
zeros_fine place (suc k) = zeros_fine (place + 1) k

not_tagged : (bs : List ℕ) → ended bs ≡ true → has_tag 1 bs ≡ false
not_tagged bs h =
    ⊎_elim (λ n. and_left (leb 1 (length bs)) _ (not-true _ n)) (λ z. let e : get_or bs 0 0 ≡ 0 = eqb-true _ _ z in and_right _ (eqb (get_or bs 0 0) 1) (ne_eqb (get_or bs 0 0) 1 (λ o. omega arith))) (or_cases (not (leb 1 (length bs))) (eqb (get_or bs 0 0) 0) h)

zeros_ended : (k : ℕ) → ended (replicate k 0) ≡ true
zeros_ended zero = refl
zeros_ended (suc k) = or_right (not (leb 1 (length (replicate (suc k) 0)))) _ refl

-- one record more
module _ (e : Entry) (es : List Entry) (rest : List ℕ) where
  spelled_all : (record_bytes e ++ encoded es) ++ rest ≡ spelled e (encoded es ++ rest)
  spelled_all = append_assoc (record_bytes e) (encoded es) rest ∙ record_spelled e (encoded es ++ rest)

  fewer : (turns : ℕ) → length ((record_bytes e ++ encoded es) ++ rest) ≤ suc turns → length (encoded es ++ rest) ≤ turns
  fewer turns l =
      let long = ap length (append_assoc (record_bytes e) (encoded es) rest) ∙ length-append (record_bytes e) (encoded es ++ rest) in
      omega (arith, length_record e)

-- what is written is listed again
pub listed_back : (es : List Entry) (rest : List ℕ) (turns : ℕ) → Lawful es → has_tag 1 rest ≡ false → length (encoded es ++ rest) ≤ turns → listed_by class turns (encoded es ++ rest) ≡ es
listed_back [] rest turns h t l = listed_none turns rest t
listed_back (e ∷ es) rest zero h t l = absurd (omega arith)
listed_back (e ∷ es) rest (suc turns) h t l =
    let r = encoded es ++ rest in
    let p = lawful_parts e es h in
    ap (listed_by class (suc turns)) (spelled_all e es rest) ∙ listed_step turns (spelled e r) (whole_spelled e r p.key) ∙ (λ i. entry_spelled e r p.number i ∷ listed_by class turns (rest_spelled e r i)) ∙ ap (λ l. e ∷ l) (listed_back es rest turns p.rest t (fewer e es rest turns l))

pub listed_encoded : (es : List Entry) (k : ℕ) → Lawful es → listed class (encoded es ++ replicate k 0) ≡ es
listed_encoded es k h = listed_back es (replicate k 0) (length (encoded es ++ replicate k 0)) h (not_tagged (replicate k 0) (zeros_ended k)) (omega arith)

-- an image without a fault is written
record_none : (o : Option RecordFault) (x : Option ImageFault) → option_or (option_map Record o) x ≡ None → (o ≡ None) × (x ≡ None)
record_none None x h = (refl, h)
record_none (Some f) x h = absurd (none-some _ (sym h))

second_none : {X : Type 0} (b : Bool) (x : X) (o : Option X) → cond b (Some x) o ≡ None → (b ≡ false) × (o ≡ None)
second_none true x o h = absurd (none-some x (sym h))
second_none false x o h = (refl, h)

-- bs stands behind the records of the entries seen, and has those of es and then zeros
record Sound (seen es : List Entry) (bs : List ℕ) : Type 0 where
  free : ℕ
  shape : bs ≡ encoded es ++ replicate free 0
  lawful : Lawful (seen ++ es)

sound_end : (turns : ℕ) (seen : List Entry) (place : ℕ) (bs : List ℕ) → Lawful seen → ended bs ≡ true → non_zero place bs ≡ None → Sound seen (listed_by class turns bs) bs
sound_end turns seen place bs a e h =
    subst (λ es. Sound seen es bs) (sym (listed_none turns bs (not_tagged bs e)))
    (record { free = length bs; shape = zeros_from place bs h; lawful = subst Lawful (sym (append-nil seen)) a })

sound_from : (turns : ℕ) (seen : List Entry) (place : ℕ) (bs : List ℕ) → length bs ≤ turns → ((i : ℕ) → get_or bs i 0 < 256) → Lawful seen → fault_from class turns seen place bs ≡ None → Sound seen (listed_by class turns bs) bs
sound_from zero seen place [] l small a h = record { free = 0; shape = refl; lawful = subst Lawful (sym (append-nil seen)) a }
sound_from zero seen place (b ∷ bs) l small a h = absurd (omega arith)
sound_from (suc turns) seen place bs l small a h =
    ⊎_elim
    (λ e. sound_end (suc turns) seen place bs a e (sym (cond-true (ended bs) (non_zero place bs) _ e) ∙ h))
    (λ e.
    let inside = record_none (record_fault class place bs) _ (sym (cond-false (ended bs) (non_zero place bs) _ e) ∙ h) in
    let w = whole_from place bs inside.0 in
    let x = read_entry bs in
    let new = second_none (holds seen x.partition x.name) (SecondEntry place) _ inside.1 in
    let n = weight (content_length (name_field bs)) in
    let less : length (next_record bs) ≤ turns = omega (arith, length-drop n bs) in
    let push = lawful_push seen x (record { key = key_read bs w small; number = number_read bs w small; alone = new.0; rest = a }) in
    let more = sound_from turns (seen ++ x ∷ []) (place + n) (next_record bs) less (λ i. subst (λ x. x < 256) (sym (get_or-drop n bs i 0)) (small (n + i))) push new.1 in
    subst (λ es. Sound seen es bs) (sym (listed_step turns bs w))
    (record {
      free = more.free;
      shape = sym (spelled_back bs w small) ∙ sym (record_spelled x (next_record bs)) ∙ ap (λ l. record_bytes x ++ l) more.shape ∙ sym (append_assoc (record_bytes x) (encoded (listed_by class turns (next_record bs))) (replicate more.free 0));
      lawful = subst Lawful (append_assoc seen (x ∷ []) (listed_by class turns (next_record bs))) more.lawful;
    }))
    (cases_Bool (ended bs))

pub packed_listed : (bs : List ℕ) → ((i : ℕ) → get_or bs i 0 < 256) → fault class bs ≡ None → Packed class bs (listed class bs)
packed_listed bs small h =
    let s = sound_from (length bs) [] 0 bs (omega arith) small (record { keys = refl; numbers = refl }) h in
    record { free = s.free; shape = s.shape; keys = s.lawful.keys; numbers = s.lawful.numbers }

-- what is written has no fault
spelled_goes : (e : Entry) (rest : List ℕ) → ended (spelled e rest) ≡ false
spelled_goes e rest = or_from _ _ (not_from_true _ (le-leb 1 (length (spelled e rest)) (omega arith))) refl

pub fault_step : (turns : ℕ) (seen : List Entry) (place : ℕ) (bs : List ℕ) → ended bs ≡ false → record_fault class place bs ≡ None → holds seen (read_entry bs).partition (read_entry bs).name ≡ false → fault_from class (suc turns) seen place bs ≡ fault_from class turns (seen ++ read_entry bs ∷ []) (place + weight (content_length (name_field bs))) (next_record bs)
fault_step turns seen place bs a b c =
    cond-false (ended bs) (non_zero place bs) _ a
    ∙ ap (λ o. option_or (option_map Record o) (cond (holds seen (read_entry bs).partition (read_entry bs).name) (Some (SecondEntry place)) (fault_from class turns (seen ++ read_entry bs ∷ []) (place + weight (content_length (name_field bs))) (next_record bs)))) b
    ∙ cond-false (holds seen (read_entry bs).partition (read_entry bs).name) (Some (SecondEntry place)) _ c

fault_back : (es seen : List Entry) (k place turns : ℕ) → Lawful (seen ++ es) → length (encoded es ++ replicate k 0) ≤ turns → fault_from class turns seen place (encoded es ++ replicate k 0) ≡ None
fault_back [] seen k place zero h l = refl
fault_back [] seen k place (suc turns) h l = cond-true (ended (replicate k 0)) _ _ (zeros_ended k) ∙ zeros_fine place k
fault_back (e ∷ es) seen k place zero h l = absurd (omega arith)
fault_back (e ∷ es) seen k place (suc turns) h l =
    let r = encoded es ++ replicate k 0 in
    let p = lawful_at seen e es h in
    let x = whole_fault place (spelled e r) (whole_spelled e r p.key) in
    let y : read_entry (spelled e r) ≡ e = entry_spelled e r p.number in
    let z : next_record (spelled e r) ≡ r = rest_spelled e r in
    let at = place + weight (content_length (name_field (spelled e r))) in
    let new : holds seen (read_entry (spelled e r)).partition (read_entry (spelled e r)).name ≡ false = ap (λ d. holds seen d.partition d.name) y ∙ holds_front seen es e.partition e.name p.alone in
    let more = fault_back es (seen ++ e ∷ []) k at turns (subst Lawful (sym (append_assoc seen (e ∷ []) es)) h) (fewer e es (replicate k 0) turns l) in
    ap (fault_from class (suc turns) seen place) (spelled_all e es (replicate k 0)) ∙ fault_step turns seen place (spelled e r) (spelled_goes e r) x new ∙ (λ i. fault_from class turns (seen ++ y i ∷ []) at (z i)) ∙ more

module _ (bs : List ℕ) (es : List Entry) (p : Packed class bs es) where
  lawful : Lawful es
  lawful = record { keys = p.keys; numbers = p.numbers }

  pub packed_fine : fault class bs ≡ None
  packed_fine = ap (fault class) p.shape ∙ fault_back es [] p.free 0 (length (encoded es ++ replicate p.free 0)) lawful (omega arith)

  pub packed_lists : listed class bs ≡ es
  packed_lists = ap (listed class) p.shape ∙ listed_encoded es p.free lawful
