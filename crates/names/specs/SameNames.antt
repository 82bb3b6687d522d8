-- What `==` says of two names.
use Rattle.std.specs.Prelude.{◌≡◌, length, take, Decides}
use Rattle.std.proofs.Common.{sym, ap, ap₂, ◌∙◌}
use Rattle.std.proofs.Math.Seq.{take-append_seam}
use Rattle.std.proofs.lemmas.Bool.Decides.{Decides-and, Decides-eqb}
use Rattle.std.proofs.lemmas.Slice.Eq.{bytes_eq-Decides}
use Rattle.names.specs.Shortening.{ShortForm, padded}
use Rattle.names.specs.contracts.short_name.ShortNamePartialEq.TheImpl.{ghosts}

-- `==` is true of two names exactly where their short forms are equal
pub same_names : (one other : ShortForm) → Decides (ghosts.eq one other) (one.bytes ≡ other.bytes)
same_names one other =
    let fields = Decides-and _ _ (bytes_eq-Decides (padded one.bytes) (padded other.bytes)) (Decides-eqb (length one.bytes) (length other.bytes)) in (
      λ e. sym (take-append_seam one.bytes _) ∙ ap₂ take (fields.0 e).1 (fields.0 e).0 ∙ take-append_seam other.bytes _,
      λ e. fields.1 (ap padded e, ap length e),
    )
