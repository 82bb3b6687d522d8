-- Faults and refusals of images: their numbers, values and words.
use Rattle.std.specs.Prelude.{ℕ, Bool, cond, List, ◌++◌, length, Some, None, Ok, Err, codes, Option, Result, ◌==◌, nat_le}
use Rattle.std.specs.Fmt.{decimal}
use Rattle.names.specs.declared.byte_class.ByteClass.{ByteClass}
use Rattle.image.specs.Reading.{fault}
use Rattle.image.specs.declared.fault.FieldCheck.{FieldCheck}
use Rattle.image.specs.declared.fault.FieldCheck.TheVariants.{NoLength, Length, NoContent, Content}
use Rattle.image.specs.declared.fault.RecordFault.TheVariants.{Field as InField, Tag}
use Rattle.image.specs.declared.fault.ImageFault.{ImageFault}
use Rattle.image.specs.declared.fault.ImageFault.TheVariants.{Record as InRecord, SecondEntry, NonZeroByte}
use Rattle.image.specs.declared.refusal.ImageRefusal.{ImageRefusal}
use Rattle.image.specs.declared.refusal.ImageRefusal.TheVariants.{TooLarge, Malformed}
use Rattle.image.specs.declared.layer.Layer.{Layer}
use Rattle.image.specs.declared.layer.Layer.TheVariants.{Field as FieldLayer, Record as RecordLayer, Image as ImageLayer}
use Rattle.image.specs.declared.cause.Cause.{Cause}
use Rattle.image.specs.declared.cause.Cause.TheVariants.{Tag as BadTag, NoLength as LacksLength, Length as BadLength, NoContent as LacksContent, Content as BadContent, SecondEntry as Second, NonZeroByte as NonZero}

-- the layer of a fault: the field for a field's checks behind its tag, the record for a tag, the image for the rest
abbrev pub layer_of : ImageFault → Layer
layer_of (InRecord (InField f)) = FieldLayer
layer_of (InRecord (Tag place)) = RecordLayer
layer_of (SecondEntry place) = ImageLayer
layer_of (NonZeroByte place) = ImageLayer

-- the cause that a field's check is
abbrev pub check_cause : FieldCheck → Cause
check_cause NoLength = LacksLength
check_cause Length = BadLength
check_cause NoContent = LacksContent
check_cause Content = BadContent

-- the check that failed
abbrev pub cause_of : ImageFault → Cause
cause_of (InRecord (InField f)) = check_cause f.check
cause_of (InRecord (Tag place)) = BadTag
cause_of (SecondEntry place) = Second
cause_of (NonZeroByte place) = NonZero

-- the place of a fault: the tag byte of its field, the first byte of the second entry, or the byte that is not zero
abbrev pub fault_place : ImageFault → ℕ
fault_place (InRecord (InField f)) = f.place
fault_place (InRecord (Tag place)) = place
fault_place (SecondEntry place) = place
fault_place (NonZeroByte place) = place

-- the layers in words and as numbers
abbrev pub layer_words : Layer → List ℕ
layer_words FieldLayer = codes "field"
layer_words RecordLayer = codes "record"
layer_words ImageLayer = codes "image"

abbrev pub layer_number : Layer → ℕ
layer_number FieldLayer = 1
layer_number RecordLayer = 2
layer_number ImageLayer = 3

-- the causes in words and as numbers
abbrev pub cause_words : Cause → List ℕ
cause_words BadTag = codes "tag"
cause_words LacksLength = codes "length does not fit"
cause_words BadLength = codes "length"
cause_words LacksContent = codes "content does not fit"
cause_words BadContent = codes "content"
cause_words Second = codes "second entry"
cause_words NonZero = codes "non-zero byte"

abbrev pub cause_number : Cause → ℕ
cause_number BadTag = 1
cause_number LacksLength = 2
cause_number BadLength = 3
cause_number LacksContent = 4
cause_number BadContent = 5
cause_number Second = 6
cause_number NonZero = 7

-- a fault in words: its layer, its cause and its place
abbrev pub fault_words : ImageFault → List ℕ
fault_words f = layer_words (layer_of f) ++ (codes ", " ++ (cause_words (cause_of f) ++ (codes ", at byte " ++ decimal (fault_place f))))

-- the number of a refusal
abbrev pub refusal_number : ImageRefusal → ℕ
refusal_number TooLarge = 33
refusal_number (Malformed f) = 34

-- a refusal in words: of a malformed image, its fault
abbrev pub refusal_words : ImageRefusal → List ℕ
refusal_words TooLarge = codes "it has more than 65,536 bytes"
refusal_words (Malformed f) = fault_words f

-- a malformed image's numbers: 34, and the layer, the cause and the place of its fault
abbrev pub malformed : ImageFault → ℕ × ℕ × ℕ × ℕ
malformed f = (34, layer_number (layer_of f), cause_number (cause_of f), fault_place f)

-- the answer of a check in numbers: 0, or 33, or 34 with its fault
abbrev pub image_answer : Result (Unit {0}) ImageRefusal → ℕ × ℕ × ℕ × ℕ
image_answer (Ok u) = (0, 0, 0, 0)
image_answer (Err TooLarge) = (33, 0, 0, 0)
image_answer (Err (Malformed f)) = malformed f

-- 0 where there is no fault, or 34 with the fault
abbrev pub fault_answer : Option ImageFault → ℕ × ℕ × ℕ × ℕ
fault_answer None = (0, 0, 0, 0)
fault_answer (Some f) = malformed f

-- what bytes are refused with: 33 where there are more than 65,536, else 34 with the first fault, else 0
abbrev pub image_refused : (ℕ → ByteClass) → List ℕ → ℕ × ℕ × ℕ × ℕ
image_refused cls bs = cond (nat_le (length bs) 65536) (fault_answer (fault cls bs)) (33, 0, 0, 0)

-- whether bytes are accepted as an image
abbrev pub accepted : (ℕ → ByteClass) → List ℕ → Bool
accepted cls bs = (image_refused cls bs).0 == 0
