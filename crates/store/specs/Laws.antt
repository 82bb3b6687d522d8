-- What holds of every store, by the definitions of its calls alone.
use Rattle.std.specs.Prelude.{◌≡◌, ℕ, ◌<◌, true, false, List, [], Some, None, Err}
use Rattle.std.specs.List.{slice_get}
use Rattle.names.specs.declared.byte_class.ByteClass.{ByteClass}
use Rattle.store.specs.Calls.{move_answer}
use Rattle.store.specs.Entries.{Entry, found, without, inside, is_key, sound}
use Rattle.store.specs.declared.answers.MoveError.TheVariants.{Absent}

-- what the calls but put answer under a key: nothing is found, taken or moved, from or to, and no entry is counted or listed above 511
pub record Unanswered (es : List Entry) (p : ℕ) (n : List ℕ) : Type 0 where
  pub finds : found es p n ≡ None
  pub takes : without es p n ≡ es
  pub moves_from : (q : ℕ) → move_answer es p q n ≡ Err Absent
  pub moves_to : (q : ℕ) → move_answer es q p n ≡ Err Absent
  pub lists : 511 < p → inside es p ≡ []

-- under a bad key the calls answer absent, and put answers bad key by its definition
abbrev pub BadKeysUnanswered : Type 0
BadKeysUnanswered =
    (cls : ℕ → ByteClass) (es : List Entry) (p : ℕ) (n : List ℕ) → sound cls es ≡ true → is_key cls p n ≡ false → Unanswered es p n

-- different k give different entries: no name is listed twice
abbrev pub ListedOnce : Type 0
ListedOnce =
    (cls : ℕ → ByteClass) (es : List Entry) (p j k : ℕ) (a b : Entry)
    → sound cls es ≡ true → slice_get (inside es p) j ≡ Some a → slice_get (inside es p) k ≡ Some b → a.name ≡ b.name → j ≡ k
