-- The fault of an image is the first one.
use Rattle.std.proofs.Common.{◌≡◌, ℕ, zero, suc, ◌+◌, ◌<◌, ◌≤◌, cond, eqb, List, [], ◌∷◌, ◌++◌, length, get_or, Some, None, Option, sym, refl, ap, ◌∙◌, subst, ⊎_elim, append_assoc, add-zero, zero-add, arith}
use Rattle.std.specs.Option.{option_map, option_or}
use Rattle.std.proofs.lemmas.List.{length-drop, length-append, get_or-drop, append-nil}
use Rattle.std.proofs.lemmas.Bool.{cases_Bool, cond-true, cond-false}
use Rattle.names.specs.Names.{class}
use Rattle.store.specs.Entries.{Entry, holds}
use Rattle.image.specs.Format.{record_bytes, encoded, weight}
use Rattle.image.specs.Lawful.{length_record}
use Rattle.image.specs.Reading.{content_length, record_fault, read_entry, name_field, next_record, ended, non_zero, fault_from, fault}
use Rattle.image.specs.Theorems.{Wrong, First}
use Rattle.image.specs.declared.fault.RecordFault.{RecordFault}
use Rattle.image.specs.declared.fault.ImageFault.{ImageFault}
use Rattle.image.specs.declared.fault.ImageFault.TheVariants.{Record, SecondEntry, NonZeroByte}
use Rattle.image.proofs.Fields.{option_cases}
use Rattle.std.proofs.lemmas.Option.{none-some}
use Rattle.image.proofs.Encoding.{whole_from, record_spelled, spelled_back, key_read, number_read}
use Rattle.image.proofs.LawfulLists.{Lawful, lawful_push}
use Rattle.image.proofs.Listing.{name_long}

some_same : {X : Type 0} (x y : X) → Some x ≡ Some y → x ≡ y
some_same x y h = cc

non_zero_shape : (place : ℕ) (bs : List ℕ) (f : ImageFault) → non_zero place bs ≡ Some f → (p : ℕ) × (f ≡ NonZeroByte p)
non_zero_shape place [] f h = absurd (none-some f h)
non_zero_shape place (b ∷ bs) f h =
    ⊎_elim
    (λ k. non_zero_shape (place + 1) bs f (sym (cond-true (eqb b 0) (non_zero (place + 1) bs) (Some (NonZeroByte place)) k) ∙ h))
    (λ k. (place, some_same _ _ (sym h ∙ cond-false (eqb b 0) (non_zero (place + 1) bs) (Some (NonZeroByte place)) k)))
    (cases_Bool (eqb b 0))

pub record_some : (o : Option RecordFault) (x : Option ImageFault) (f : RecordFault) → o ≡ Some f → option_or (option_map Record o) x ≡ Some (Record f)
record_some o x f h = rw h

pub record_none : (o : Option RecordFault) (x : Option ImageFault) → o ≡ None → option_or (option_map Record o) x ≡ x
record_none o x h = rw h

-- behind the entries seen stand the records of more entries, and then what is wrong
record From (seen : List Entry) (place : ℕ) (bs : List ℕ) (f : ImageFault) : Type 0 where
  before : List Entry
  rest : List ℕ
  shape : bs ≡ encoded before ++ rest
  lawful : Lawful (seen ++ before)
  wrong : Wrong class f (place + length (encoded before)) (seen ++ before) rest

-- no record stands before the fault
at_once : (seen : List Entry) (place : ℕ) (bs : List ℕ) (f : ImageFault) → Lawful seen → Wrong class f place seen bs → From seen place bs f
at_once seen place bs f a w = record {
  before = [];
  rest = bs;
  shape = refl;
  lawful = subst Lawful (sym (append-nil seen)) a;
  wrong = subst (λ l. Wrong class f (place + 0) l bs) (sym (append-nil seen)) (subst (λ k. Wrong class f k seen bs) (sym (add-zero place)) w);
}

first_from : (turns : ℕ) (seen : List Entry) (place : ℕ) (bs : List ℕ) (f : ImageFault) → length bs ≤ turns → ((i : ℕ) → get_or bs i 0 < 256) → Lawful seen → fault_from class turns seen place bs ≡ Some f → From seen place bs f
first_from zero seen place bs f l small a h = absurd (none-some f h)
first_from (suc turns) seen place bs f l small a h =
    let e = read_entry bs in
    let n = weight (content_length (name_field bs)) in
    let x = cond (holds seen e.partition e.name) (Some (SecondEntry place)) (fault_from class turns (seen ++ e ∷ []) (place + n) (next_record bs)) in
    ⊎_elim
    (λ d.
    let z : non_zero place bs ≡ Some f = sym (cond-true (ended bs) (non_zero place bs) (option_or (option_map Record (record_fault class place bs)) x) d) ∙ h in
    let p = non_zero_shape place bs f z in
    at_once seen place bs f a (subst (λ g. Wrong class g place seen bs) (sym p.1) (d, z ∙ ap Some p.1)))
    (λ d.
    let i : option_or (option_map Record (record_fault class place bs)) x ≡ Some f = sym (cond-false (ended bs) (non_zero place bs) (option_or (option_map Record (record_fault class place bs)) x) d) ∙ h in
    ⊎_elim
    (λ fine.
    let y : x ≡ Some f = sym (record_none (record_fault class place bs) x fine) ∙ i in
    ⊎_elim
    (λ k.
    let s : f ≡ SecondEntry place = some_same _ _ (sym y ∙ cond-true (holds seen e.partition e.name) (Some (SecondEntry place)) _ k) in
    at_once seen place bs f a (subst (λ g. Wrong class g place seen bs) (sym s) (refl, d, fine, k)))
    (λ k.
    let w = whole_from place bs fine in
    let push = lawful_push seen e (record { key = key_read bs w small; number = number_read bs w small; alone = k; rest = a }) in
    let more = first_from turns (seen ++ e ∷ []) (place + n) (next_record bs) f (omega (arith, length-drop n bs)) (λ i. subst (λ x. x < 256) (sym (get_or-drop n bs i 0)) (small (n + i))) push (sym (cond-false (holds seen e.partition e.name) (Some (SecondEntry place)) _ k) ∙ y) in
    let same = append_assoc seen (e ∷ []) more.before in
    let long : place + n + length (encoded more.before) ≡ place + length (record_bytes e ++ encoded more.before) = omega (arith, length-append (record_bytes e) (encoded more.before), length_record e, name_long bs w) in
    record {
      before = e ∷ more.before;
      rest = more.rest;
      shape = sym (spelled_back bs w small) ∙ sym (record_spelled e (next_record bs)) ∙ ap (λ l. record_bytes e ++ l) more.shape ∙ sym (append_assoc (record_bytes e) (encoded more.before) more.rest);
      lawful = subst Lawful same more.lawful;
      wrong = subst (λ k. Wrong class f k (seen ++ e ∷ more.before) more.rest) long (subst (λ l. Wrong class f (place + n + length (encoded more.before)) l more.rest) same more.wrong);
    })
    (cases_Bool (holds seen e.partition e.name)))
    (λ r.
    let s : f ≡ Record r.0 = some_same _ _ (sym i ∙ record_some (record_fault class place bs) x r.0 r.1) in
    at_once seen place bs f a (subst (λ g. Wrong class g place seen bs) (sym s) (d, r.1)))
    (option_cases (record_fault class place bs)))
    (cases_Bool (ended bs))

pub first_fault : (bs : List ℕ) → ((i : ℕ) → get_or bs i 0 < 256) → (f : ImageFault) → fault class bs ≡ Some f → First class bs f
first_fault bs small f h =
    let x = first_from (length bs) [] 0 bs f (omega arith) small (record { keys = refl; numbers = refl }) h in
    record { before = x.before; rest = x.rest; shape = x.shape; keys = x.lawful.keys; numbers = x.lawful.numbers; wrong = subst (λ k. Wrong class f k x.before x.rest) (zero-add (length (encoded x.before))) x.wrong }
