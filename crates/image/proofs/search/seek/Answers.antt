use Rattle.std.proofs.Common.{◌≡◌, ℕ, ◌+◌, List, ◌∷◌, length, ap, ◌∙◌, arith}
use Rattle.std.proofs.lemmas.List.{length-append}
use Rattle.names.specs.Names.{class}
use Rattle.store.specs.Entries.{Entry}
use Rattle.image.specs.Format.{weight, encoded, record_bytes}
use Rattle.image.specs.Lawful.{length_record}
use Rattle.image.specs.Promises.{entry_in}
use Rattle.image.specs.Reading.{listed}
use Rattle.image.proofs.Listing.{encoded_within}
use Rattle.image.proofs.search.seek.Goals as goal

-- the record passed, and those that are left
longer : (rest after : List ℕ) (e : Entry) → listed class rest ≡ e ∷ listed class after → length (encoded (listed class rest)) ≡ weight (length e.name) + length (encoded (listed class after))
longer rest after e h = ap (λ l. length (encoded l)) h ∙ length-append (record_bytes e) (encoded (listed class after)) ∙ ap (λ k. k + length (encoded (listed class after))) (length_record e)

pub overflow_add-place : goal.overflow_add-place
overflow_add-place c = omega (arith, c.loop-record.invariant.end, longer c.loop-record.record-iterator.rest.now c.next.new.self.rest.now (entry_in c.in-Some.record) c.in-Some.ensures.steps.0, c.length-length.ensures, encoded_within c.args.image.now)
