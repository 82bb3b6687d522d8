-- Bytes that are printed in quotes or as one word.
use Rattle.std.specs.Prelude.{ℕ, Bool, List, ◌++◌, codes}
use Rattle.std.specs.List.{flat_map}
use Rattle.wheels.specs.Texts.{alphanumeric, byte_text, plain}

-- the text of bytes, where stands says which of them stand as themselves
abbrev pub escaped : (ℕ → Bool) → List ℕ → List ℕ
escaped stands bs = flat_map (λ b. byte_text (stands b) b) bs

-- bytes in quotes
abbrev pub quoted : List ℕ → List ℕ
quoted bs = codes "\"" ++ (escaped plain bs ++ codes "\"")

-- bytes as one word
abbrev pub one_word : List ℕ → List ℕ
one_word bs = escaped alphanumeric bs
