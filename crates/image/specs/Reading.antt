-- How an image is read from its front, and its first fault.
use Rattle.std.specs.Prelude.{ℕ, zero, suc, ◌+◌, ◌*◌, Bool, true, cond, not, ◌&&◌, ◌||◌, List, [], ◌∷◌, ◌++◌, length, take, drop, is_some, Some, None, Option, ◌==◌, nat_le, slice_index}
use Rattle.std.specs.Option.{option_map, option_or}
use Rattle.names.specs.Names.{is_short}
use Rattle.names.specs.declared.byte_class.ByteClass.{ByteClass}
use Rattle.store.specs.Entries.{Entry, holds, has_key}
use Rattle.image.specs.Format.{weight}
use Rattle.image.specs.declared.fault.FieldFault.{FieldFault}
use Rattle.image.specs.declared.fault.FieldCheck.{FieldCheck}
use Rattle.image.specs.declared.fault.FieldCheck.TheVariants.{NoLength, Length, NoContent, Content}
use Rattle.image.specs.declared.fault.RecordFault.{RecordFault}
use Rattle.image.specs.declared.fault.RecordFault.TheVariants.{Field, Tag}
use Rattle.image.specs.declared.fault.ImageFault.{ImageFault}
use Rattle.image.specs.declared.fault.ImageFault.TheVariants.{Record, SecondEntry, NonZeroByte}

-- the length that the two length bytes of the field at the front of bs give
abbrev pub content_length : List ℕ → ℕ
content_length bs = slice_index bs 1 * 256 + slice_index bs 2

-- the content of the field at the front of bs
abbrev pub content : List ℕ → List ℕ
content bs = take (content_length bs) (drop 3 bs)

-- the number in two bytes, most significant first
abbrev pub from_two : List ℕ → ℕ
from_two c = slice_index c 0 * 256 + slice_index c 1

-- the number in eight bytes, most significant first
abbrev pub from_eight : List ℕ → ℕ
from_eight c =
    slice_index c 0 * 72057594037927936 + slice_index c 1 * 281474976710656 + slice_index c 2 * 1099511627776 + slice_index c 3 * 4294967296 + slice_index c 4 * 16777216 + slice_index c 5 * 65536 + slice_index c 6 * 256 + slice_index c 7

-- whether a field with this tag may have a content of n bytes: a partition 2, a name 1 to 32, a number 8
abbrev pub length_fits : ℕ → ℕ → Bool
length_fits tag n = cond (tag == 1) (n == 2) (cond (tag == 2) (nat_le 1 n && nat_le n 32) (n == 8))

-- whether a field with this tag may have this content: a partition is at most 511, a name is a short form
abbrev pub content_fits : (ℕ → ByteClass) → ℕ → List ℕ → Bool
content_fits cls tag c = cond (tag == 1) (nat_le (from_two c) 511) (cond (tag == 2) (is_short cls c) true)

-- a check that failed of the field whose tag stands at a place
abbrev pub failed : FieldCheck → ℕ → FieldFault
failed check place = record { check = check; place = place }

-- the first of a field's checks that fails after its tag: the length bytes fit, the length, the content fits, the content
abbrev pub field_fault : (ℕ → ByteClass) → ℕ → ℕ → List ℕ → Option FieldFault
field_fault cls tag place bs =
    cond (nat_le 3 (length bs))
    (cond (length_fits tag (content_length bs))
    (cond (nat_le (3 + content_length bs) (length bs)) (cond (content_fits cls tag (content bs)) None (Some (failed Content place))) (Some (failed NoContent place)))
    (Some (failed Length place)))
    (Some (failed NoLength place))

-- whether bs begins with this tag
abbrev pub has_tag : ℕ → List ℕ → Bool
has_tag tag bs = nat_le 1 (length bs) && slice_index bs 0 == tag

-- the first fault of the field with this tag that begins at a place
abbrev pub fault_at : (ℕ → ByteClass) → ℕ → ℕ → List ℕ → Option RecordFault
fault_at cls tag place bs = cond (has_tag tag bs) (option_map Field (field_fault cls tag place bs)) (Some (Tag place))

-- what follows the partition's field
abbrev pub name_field : List ℕ → List ℕ
name_field bs = drop 5 bs

-- what follows the name's field
abbrev pub number_field : List ℕ → List ℕ
number_field bs = drop (8 + content_length (name_field bs)) bs

-- the first fault of the record that begins at a place
abbrev pub record_fault : (ℕ → ByteClass) → ℕ → List ℕ → Option RecordFault
record_fault cls place bs =
    option_or (fault_at cls 1 place bs)
    (option_or (fault_at cls 2 (place + 5) (name_field bs)) (fault_at cls 3 (place + 8 + content_length (name_field bs)) (number_field bs)))

-- the entry that the record at the front of bs says
abbrev pub read_entry : List ℕ → Entry
read_entry bs = record { partition = from_two (content bs); name = content (name_field bs); number = from_eight (content (number_field bs)) }

-- what follows the record at the front of bs
abbrev pub next_record : List ℕ → List ℕ
next_record bs = drop (weight (content_length (name_field bs))) bs

-- the entries of the records that stand at the front of bs, in at most so many turns
abbrev pub listed_by : (ℕ → ByteClass) → ℕ → List ℕ → List Entry
listed_by cls zero bs = []
listed_by cls (suc turns) bs = cond (is_some (record_fault cls 0 bs)) [] (read_entry bs ∷ listed_by cls turns (next_record bs))

-- the entries of the records that stand at the front of bs, up to the first fault. A record has more than one byte, so as many turns as bytes are enough
abbrev pub listed : (ℕ → ByteClass) → List ℕ → List Entry
listed cls bs = listed_by cls (length bs) bs

-- whether the entries end here: a tag 0, or the end of the bytes
abbrev pub ended : List ℕ → Bool
ended bs = not (nat_le 1 (length bs)) || slice_index bs 0 == 0

-- the first byte that is not zero, where bs stands at a place
abbrev pub non_zero : ℕ → List ℕ → Option ImageFault
non_zero place [] = None
non_zero place (b ∷ bs) = cond (b == 0) (non_zero (place + 1) bs) (Some (NonZeroByte place))

-- the first fault of what stands at a place behind the records of the entries seen
abbrev pub fault_from : (ℕ → ByteClass) → ℕ → List Entry → ℕ → List ℕ → Option ImageFault
fault_from cls zero seen place bs = None
fault_from cls (suc turns) seen place bs =
    cond (ended bs) (non_zero place bs)
    (option_or (option_map Record (record_fault cls place bs))
    (cond (holds seen (read_entry bs).partition (read_entry bs).name) (Some (SecondEntry place))
    (fault_from cls turns (seen ++ read_entry bs ∷ []) (place + weight (content_length (name_field bs))) (next_record bs))))

-- the first fault of an image
abbrev pub fault : (ℕ → ByteClass) → List ℕ → Option ImageFault
fault cls bs = fault_from cls (length bs) [] 0 bs

-- where the record of the entry with a key begins, or where the records end
abbrev pub place_of : List Entry → ℕ → List ℕ → ℕ
place_of [] p n = 0
place_of (e ∷ es) p n = cond (has_key p n e) 0 (weight (length e.name) + place_of es p n)
