use Rattle.std.proofs.Common.{◌≡◌, ◌+◌, length}
use Rattle.names.specs.Names.{class}
use Rattle.store.specs.Entries.{found}
use Rattle.image.specs.Format.{encoded}
use Rattle.image.specs.Reading.{listed, place_of}
use Rattle.image.proofs.search.seek.Given as goal

-- what is left gives the answer
abbrev pub invariant-loop-record : goal.invariant-loop-record
invariant-loop-record l = record {
  place : l.place + place_of (listed class l.record-iterator.rest.now) l.partition l.name ≡ place_of (listed class l.image) l.partition l.name;
  number : found (listed class l.record-iterator.rest.now) l.partition l.name ≡ found (listed class l.image) l.partition l.name;
  end : l.place + length (encoded (listed class l.record-iterator.rest.now)) ≡ length (encoded (listed class l.image));
}
