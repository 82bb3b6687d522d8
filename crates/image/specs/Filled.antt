-- Bytes that hold the records of the entries that are listed of them.
use Rattle.std.specs.Prelude.{◌≡◌, ℕ, ◌-◌, true, List, ◌++◌, length, replicate}
use Rattle.std.specs.List.{list_all}
use Rattle.names.specs.Names.{class}
use Rattle.store.specs.Entries.{sound}
use Rattle.image.specs.Format.{encoded, number_fits}
use Rattle.image.specs.Reading.{listed}

-- len bytes that hold the records of the entries that are listed of them, and then zeros. Every key is a good one, none comes twice, and every number fits
pub record IsFilled (len : ℕ) (bs : List ℕ) : Type 0 where
  pub shape : bs ≡ encoded (listed class bs) ++ replicate (len - length (encoded (listed class bs))) 0
  pub keys : sound class (listed class bs) ≡ true
  pub numbers : list_all number_fits (listed class bs) ≡ true
