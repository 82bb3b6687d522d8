use Rattle.std.proofs.Common.{◌≡◌, ℕ, Bool, take}
use Rattle.std.specs.Fmt.{IsPlainFormatter, HasWritten}
use Rattle.wheels.specs.Escapes.{escaped}
use Rattle.wheels.proofs.quoted.write_escaped.Given as goal

-- the bytes before this one were written
abbrev pub invariant-loop-byte : goal.invariant-loop-byte
invariant-loop-byte g l =
    (p : ℕ → Bool) → ((b : ℕ) (r : Bool) → goal.F-post g l.stands b r → r ≡ p b) → IsPlainFormatter l.initial.f
    → HasWritten g.W.Write.write_str_gives l.initial.f (escaped p (take l.byte-index l.bytes)) l.f
