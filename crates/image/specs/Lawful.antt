-- A packed image keeps what a store promises of itself.
use Rattle.std.specs.Prelude.{◌≡◌, ℕ, ◌-◌, ◌≤◌, List, [], ◌∷◌, length, replicate, refl}
use Rattle.std.proofs.Common.{ap, ◌∙◌, arith}
use Rattle.std.proofs.lemmas.List.{length-append, length-take-le}
use Rattle.std.proofs.lemmas.List.Sums.{sum_by-cons}
use Rattle.names.specs.Names.{class}
use Rattle.store.specs.Entries.{Entry, used}
use Rattle.image.specs.Format.{record_bytes, encoded, weight, field, eight_bytes}
use Rattle.image.specs.Held.{held, room_of}
use Rattle.image.specs.declared.packed.PackedImage.{PackedImage}

pub length_record : (e : Entry) → length (record_bytes e) ≡ weight (length e.name)
length_record e = omega (arith, length-append e.name (field 3 (eight_bytes e.number)))

pub used_encoded : (es : List Entry) → used weight es ≡ length (encoded es)
used_encoded [] = refl
used_encoded (e ∷ es) =
    sum_by-cons (λ (e : Entry). weight (length e.name)) e es ∙ omega (arith, used_encoded es, length-append (record_bytes e) (encoded es), length_record e)

pub bounded : (s : PackedImage) → (room_of s).capacity ≤ 1048576
bounded s = omega (arith, s.few)

pub weighty : (s : PackedImage) (len : ℕ) → 1 ≤ (room_of s).weight len
weighty s len = omega arith

pub within : (s : PackedImage) → used (room_of s).weight (held class s) ≤ (room_of s).capacity
within s =
    let es = held class s in
    let l = ap length s.filled.shape ∙ length-append (encoded es) (replicate {A = ℕ} (s.len - length (encoded es)) 0) in
    omega (arith, used_encoded es, l, length-take-le s.len s.image.now s.within)
