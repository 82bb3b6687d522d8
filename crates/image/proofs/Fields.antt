-- One field: its checks, and what a field without a fault has.
use Rattle.std.proofs.Common.{sym, ◌≡◌, ℕ, ◌+◌, ◌≤◌, ◌⊎◌, inl, inr, Bool, true, false, cond, eqb, leb, List, length, get_or, drop, Some, None, Option, refl, arith}
use Rattle.std.specs.Option.{option_map, ok_or, MatchOption}
use Rattle.std.proofs.lemmas.List.{length-take-le, length-drop}
use Rattle.std.proofs.lemmas.Bool.{le-leb, leb-true, eq-eqb, eqb-true, and_parts}
use Rattle.names.specs.Names.{class}
use Rattle.std.proofs.lemmas.Option.{none-some}
use Rattle.image.specs.Reading.{content_length, content, length_fits, content_fits, failed, field_fault, has_tag, fault_at}
use Rattle.image.specs.Promises.{Says, ContentRead}
use Rattle.image.specs.Tags.{tag_number}
use Rattle.image.specs.declared.field.Field.{Field}
use Rattle.image.specs.declared.tag.Tag.{Tag}
use Rattle.image.specs.declared.fault.RecordFault.TheVariants.{Field as InField, Tag as NoTag}
use Rattle.image.specs.declared.fault.FieldCheck.TheVariants.{NoLength, Length, NoContent, Content}

pub option_cases : {X : Type 0} (o : Option X) → (o ≡ None) ⊎ ((x : X) × (o ≡ Some x))
option_cases None = inl refl
option_cases (Some x) = inr (x, refl)

pub cond_none : {X : Type 0} (b : Bool) (o : Option X) (x : X) → cond b o (Some x) ≡ None → (b ≡ true) × (o ≡ None)
cond_none true o x h = (refl, h)
cond_none false o x h = absurd (none-some x (sym h))

pub mapped_none : {X Y : Type 0} (f : X → Y) (o : Option X) → option_map f o ≡ None → o ≡ None
mapped_none f None h = refl
mapped_none f (Some x) h = absurd (none-some _ (sym h))

module _ (t place : ℕ) (bs : List ℕ) (fits : length_fits t (content_length bs) ≡ true) (room : 3 + content_length bs ≤ length bs) where
  pub field_fine : content_fits class t (content bs) ≡ true → field_fault class t place bs ≡ None
  field_fine h = let a : leb 3 (length bs) ≡ true = le-leb 3 (length bs) (omega arith) in let r : leb (3 + content_length bs) (length bs) ≡ true = le-leb (3 + content_length bs) (length bs) room in rw (a, fits, r, h)

  pub field_content : content_fits class t (content bs) ≡ false → field_fault class t place bs ≡ Some (failed Content place)
  field_content h = let a : leb 3 (length bs) ≡ true = le-leb 3 (length bs) (omega arith) in let r : leb (3 + content_length bs) (length bs) ≡ true = le-leb (3 + content_length bs) (length bs) room in rw (a, fits, r, h)

-- what was made of a content is what is read of the field
pub content_read : (tag : Tag) (place : ℕ) (bs : List ℕ) (o : Option Field) → length_fits (tag_number tag) (content_length bs) ≡ true → 3 + content_length bs ≤ length bs → MatchOption o (content_fits class (tag_number tag) (content bs) ≡ false) (λ f. (content_fits class (tag_number tag) (content bs) ≡ true) × Says f tag (content bs)) → ContentRead class (ok_or o (failed Content place)) tag place bs
content_read tag place bs None fits room h = field_content (tag_number tag) place bs fits room h
content_read tag place bs (Some f) fits room h = (field_fine (tag_number tag) place bs fits room h.0, h.1)

-- what a field without a fault has
pub record Good (t : ℕ) (bs : List ℕ) : Type 0 where
  pub tag : get_or bs 0 0 ≡ t
  pub fits : length_fits t (content_length bs) ≡ true
  pub room : 3 + content_length bs ≤ length bs
  pub passes : content_fits class t (content bs) ≡ true

pub good_from : (t place : ℕ) (bs : List ℕ) → fault_at class t place bs ≡ None → Good t bs
good_from t place bs h =
    let a = cond_none (has_tag t bs) (option_map InField (field_fault class t place bs)) (NoTag place) h in
    let b = cond_none (leb 3 (length bs)) _ (failed NoLength place) (mapped_none InField (field_fault class t place bs) a.1) in
    let c = cond_none (length_fits t (content_length bs)) _ (failed Length place) b.1 in
    let d = cond_none (leb (3 + content_length bs) (length bs)) _ (failed NoContent place) c.1 in
    let e = cond_none (content_fits class t (content bs)) None (failed Content place) d.1 in
    record {
      tag = eqb-true _ _ (and_parts _ _ a.0).1;
      fits = c.0;
      room = leb-true _ _ d.0;
      passes = e.0;
    }

pub good_fault : (t place : ℕ) (bs : List ℕ) → Good t bs → fault_at class t place bs ≡ None
good_fault t place bs g =
    let one : leb 1 (length bs) ≡ true = le-leb 1 (length bs) (omega (arith, g.room)) in
    let same : eqb (get_or bs 0 0) t ≡ true = eq-eqb (get_or bs 0 0) t g.tag in
    let f : field_fault class t place bs ≡ None = field_fine t place bs g.fits g.room g.passes in
    rw (one, same, f)

pub length_content : (t : ℕ) (bs : List ℕ) → Good t bs → length (content bs) ≡ content_length bs
length_content t bs g = length-take-le (content_length bs) (drop 3 bs) (omega (arith, length-drop 3 bs, g.room))
