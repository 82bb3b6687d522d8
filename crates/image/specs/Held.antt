-- What a packed image holds as a store.
use Rattle.std.specs.Prelude.{◌≡◌, ℕ, List, [], ◌∷◌, ◌++◌, take, drop, Some, None, Ok, Err, Option, Result, slice_set}
use Rattle.names.specs.declared.byte_class.ByteClass.{ByteClass}
use Rattle.store.specs.Calls.{number_in}
use Rattle.store.specs.Entries.{Entry, Room, entry_of, found, without, index}
use Rattle.store.specs.declared.answers.MoveError.{MoveError}
use Rattle.store.specs.declared.answers.PutError.{PutError}
use Rattle.image.specs.Format.{image_room}
use Rattle.image.specs.Reading.{listed}
use Rattle.image.specs.declared.packed.PackedImage.{PackedImage}

-- all of the caller's bytes
abbrev pub all_bytes : PackedImage → List ℕ
all_bytes s = s.image.now

-- the bytes that the store lies in
abbrev pub own_bytes : PackedImage → List ℕ
own_bytes s = take s.len (all_bytes s)

-- the entries whose records stand there
abbrev pub held : (ℕ → ByteClass) → PackedImage → List Entry
held cls s = listed cls (own_bytes s)

-- the capacity and the weights
abbrev pub room_of : PackedImage → Room
room_of s = image_room s.len

-- a call changes the store's own bytes alone: the capacity and the weights stay, so do the bytes behind, and the same bytes are lent
pub record ChangesWithin (s s' : PackedImage) : Type 0 where
  pub keeps : room_of s' ≡ room_of s
  pub beyond : drop s.len (all_bytes s') ≡ drop s.len (all_bytes s)
  pub lends : s'.image.ghost_name ≡ s.image.ghost_name

-- the entries after a put of e, in their order: a new one comes last
abbrev pub put_order : Result Unit PutError → List Entry → Entry → List Entry
put_order (Ok _) es e = es ++ e ∷ []
put_order (Err _) es e = es

-- the entries after a take, in their order: those behind the one that goes close up
abbrev pub take_order : Option ℕ → List Entry → ℕ → List ℕ → List Entry
take_order None es p n = es
take_order (Some k) es p n = without es p n

-- the entry under p and n, in partition q
abbrev pub passed : List Entry → ℕ → ℕ → List ℕ → Entry
passed es p q n = entry_of q n (number_in (found es p n))

-- the entries after a move from p to q, in their order: the one that goes stays in its place
abbrev pub move_order : Result Unit MoveError → List Entry → ℕ → ℕ → List ℕ → List Entry
move_order (Ok _) es p q n = slice_set es (index es p n) (passed es p q n)
move_order (Err _) es p q n = es
