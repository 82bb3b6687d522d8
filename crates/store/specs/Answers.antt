-- Why a put or a move is refused, in words.
use Rattle.std.specs.Prelude.{ℕ, List, codes}
use Rattle.store.specs.declared.answers.MoveError.{MoveError}
use Rattle.store.specs.declared.answers.MoveError.TheVariants.{Absent, Present as Taken}
use Rattle.store.specs.declared.answers.PutError.{PutError}
use Rattle.store.specs.declared.answers.PutError.TheVariants.{Present, Full, BadKey}

-- why a put adds no entry
abbrev pub put_error_words : PutError → List ℕ
put_error_words Present = codes "the partition has the name already"
put_error_words Full = codes "the entry does not fit"
put_error_words BadKey = codes "the partition is above 511, or the name is no short form"

-- why a move passes no entry on
abbrev pub move_error_words : MoveError → List ℕ
move_error_words Absent = codes "there is no such entry or partition"
move_error_words Taken = codes "the other partition has the name already"
