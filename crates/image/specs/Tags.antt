-- The tags of a record's fields as numbers.
use Rattle.std.specs.Prelude.{ℕ}
use Rattle.image.specs.declared.tag.Tag.{Tag}
use Rattle.image.specs.declared.tag.Tag.TheVariants.{Partition, Name, Number}

-- the number of a tag
abbrev pub tag_number : Tag → ℕ
tag_number Partition = 1
tag_number Name = 2
tag_number Number = 3
