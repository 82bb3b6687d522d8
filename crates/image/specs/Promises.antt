-- What the readers of fields and records promise of their answers, by case.
use Rattle.std.specs.Prelude.{◌≡◌, ℕ, ◌+◌, true, false, List, ◌∷◌, length, drop, Some, None, MatchOption, Ok, Err, Option, Result}
use Rattle.std.specs.Iterator.{YieldsFirstBy}
use Rattle.names.specs.Names.{class}
use Rattle.names.specs.declared.byte_class.ByteClass.{ByteClass}
use Rattle.store.specs.Entries.{Entry, found}
use Rattle.image.specs.Format.{weight, encoded}
use Rattle.image.specs.Reading.{content, from_two, from_eight, field_fault, has_tag, fault_at, record_fault, read_entry, listed, place_of}
use Rattle.image.specs.declared.fault.FieldFault.{FieldFault}
use Rattle.image.specs.declared.fault.RecordFault.{RecordFault}
use Rattle.image.specs.declared.fault.RecordFault.TheVariants.{Tag as NoTag}
use Rattle.image.specs.declared.field.Field.{Field}
use Rattle.image.specs.declared.field.Field.TheVariants.{Partition, Name, Number}
use Rattle.image.specs.declared.field.Record.{Record}
use Rattle.image.specs.declared.records.Records.{Records}
use Rattle.image.specs.declared.tag.Tag.{Tag}
use Rattle.image.specs.declared.tag.Tag.TheVariants.{Partition as InPartition, Name as InName, Number as InNumber}
use Rattle.image.specs.Tags.{tag_number}
use Rattle.image.specs.declared.search.Placed.{Placed}

-- what the content of a field with this tag says
abbrev pub Says : Field → Tag → List ℕ → Type 0
Says (Partition p) tag c = (tag ≡ InPartition) × (p ≡ from_two c)
Says (Name s) tag c = (tag ≡ InName) × (s.now ≡ c)
Says (Number n) tag c = (tag ≡ InNumber) × (n ≡ from_eight c)

-- the field with this tag whose other checks pass, or the first fault of them
abbrev pub ContentRead : (ℕ → ByteClass) → Result Field FieldFault → Tag → ℕ → List ℕ → Type 0
ContentRead cls (Ok f) tag place bs = (field_fault cls (tag_number tag) place bs ≡ None) × Says f tag (content bs)
ContentRead cls (Err f) tag place bs = field_fault cls (tag_number tag) place bs ≡ Some f

-- a tag that stands there, or the fault
abbrev pub TagRead : Result (Unit {0}) RecordFault → Tag → ℕ → List ℕ → Type 0
TagRead (Ok u) tag place bs = has_tag (tag_number tag) bs ≡ true
TagRead (Err f) tag place bs = (has_tag (tag_number tag) bs ≡ false) × (f ≡ NoTag place)

-- the field with this tag without a fault, or its fault
abbrev pub FieldRead : (ℕ → ByteClass) → Result Field RecordFault → Tag → ℕ → List ℕ → Type 0
FieldRead cls (Ok f) tag place bs = (fault_at cls (tag_number tag) place bs ≡ None) × Says f tag (content bs)
FieldRead cls (Err f) tag place bs = fault_at cls (tag_number tag) place bs ≡ Some f

-- the entry that a record says
abbrev pub entry_in : Record → Entry
entry_in r = record { partition = r.partition; name = r.name.now; number = r.number }

-- a record without a fault and what it says, or its fault
abbrev pub RecordRead : (ℕ → ByteClass) → Result Record RecordFault → ℕ → List ℕ → Type 0
RecordRead cls (Ok r) place bs = (record_fault cls place bs ≡ None) × (entry_in r ≡ read_entry bs)
RecordRead cls (Err f) place bs = record_fault cls place bs ≡ Some f

-- an answer that is Ok where there is no fault, and else says it
abbrev pub Tells : {E : Type 0} → Result (Unit {0}) E → Option E → Type 0
Tells (Ok u) o = o ≡ None
Tells (Err f) o = o ≡ Some f

-- e is the first entry that is listed of bs, and rest is what follows its record
abbrev pub FirstEntry : (ℕ → ByteClass) → List ℕ → Entry → List ℕ → Type 0
FirstEntry cls bs e rest = (listed cls bs ≡ e ∷ listed cls rest) × (rest ≡ drop (weight (length e.name)) bs) × (length bs ≡ weight (length e.name) + length rest)

-- the entries that records have left
abbrev pub entries_left : Records → List Entry
entries_left records = listed class records.rest.now

-- a step over records yields the first of the entries that they have left, and passes its record; where none is left, they stay as they were
abbrev pub StepsOver : Records → Option Record → Records → Type 0
StepsOver records r after =
    YieldsFirstBy entry_in entries_left records r after × MatchOption r (after ≡ records) (λ first. FirstEntry class records.rest.now (entry_in first) after.rest.now)

-- the record of an entry, or none where there is none
abbrev pub Shows : Option Record → Option Entry → Type 0
Shows None o = o ≡ None
Shows (Some r) o = o ≡ Some (entry_in r)

-- where the record of the entry under a key stands, or where the records end
abbrev pub Sought : Result Placed ℕ → List Entry → ℕ → List ℕ → Type 0
Sought (Ok s) es p n = (s.place ≡ place_of es p n) × (s.length ≡ weight (length n)) × (found es p n ≡ Some s.number)
Sought (Err end) es p n = (end ≡ length (encoded es)) × (found es p n ≡ None)
