-- What the check of an image says about it.
use Rattle.std.specs.Prelude.{◌≡◌, ℕ, ◌<◌, ◌≤◌, true, false, List, ◌++◌, length, Some, None, Ok, Err, Result}
use Rattle.std.specs.List.{list_all}
use Rattle.names.specs.declared.byte_class.ByteClass.{ByteClass}
use Rattle.store.specs.Entries.{Entry, holds, sound}
use Rattle.image.specs.Format.{encoded, number_fits, Packed}
use Rattle.image.specs.Reading.{listed, ended, record_fault, read_entry, non_zero}
use Rattle.image.specs.declared.fault.ImageFault.{ImageFault}
use Rattle.image.specs.declared.fault.ImageFault.TheVariants.{Record, SecondEntry, NonZeroByte}
use Rattle.image.specs.declared.refusal.ImageRefusal.{ImageRefusal}
use Rattle.image.specs.declared.refusal.ImageRefusal.TheVariants.{TooLarge, Malformed}

-- what is wrong with the bytes that stand at a place, behind the records of these entries
abbrev pub Wrong : (ℕ → ByteClass) → ImageFault → ℕ → List Entry → List ℕ → Type 0
Wrong cls (Record f) place es rest = (ended rest ≡ false) × (record_fault cls place rest ≡ Some f)
Wrong cls (SecondEntry p) place es rest = (p ≡ place) × (ended rest ≡ false) × (record_fault cls place rest ≡ None) × (holds es (read_entry rest).partition (read_entry rest).name ≡ true)
Wrong cls (NonZeroByte p) place es rest = (ended rest ≡ true) × (non_zero place rest ≡ Some (NonZeroByte p))

-- a fault is the first one: before it stand the records of entries with good keys, none of them twice
pub record First (cls : ℕ → ByteClass) (bs : List ℕ) (f : ImageFault) : Type 0 where
  pub before : List Entry
  pub rest : List ℕ
  pub shape : bs ≡ encoded before ++ rest
  pub keys : sound cls before ≡ true
  pub numbers : list_all number_fits before ≡ true
  pub wrong : Wrong cls f (length (encoded before)) before rest

-- what an answer says: an accepted image is that of the entries that are listed, and of no others; a refused one is too large, or is the image of no entries
abbrev pub Checked : (ℕ → ByteClass) → Result (Unit {0}) ImageRefusal → List ℕ → Type 0
Checked cls (Ok u) bs = (length bs ≤ 65536) × Packed cls bs (listed cls bs) × ((es : List Entry) → Packed cls bs es → es ≡ listed cls bs)
Checked cls (Err TooLarge) bs = 65536 < length bs
Checked cls (Err (Malformed f)) bs = (length bs ≤ 65536) × ((es : List Entry) → Packed cls bs es → ⊥) × First cls bs f
