use Rattle.std.proofs.Common.{◌≡◌, length, take, count_by}
use Rattle.names.specs.Names.{class, is_forbidden, short}
use Rattle.names.specs.Shortening.{padded}
use Rattle.names.proofs.short_name.shortening.kept_bytes.Given as goal

-- what the bytes read so far come to
abbrev pub invariant-loop-byte : goal.invariant-loop-byte
invariant-loop-byte l = record {
  allowed : count_by (is_forbidden class) (take l.byte-index l.name) ≡ 0;
  padded : l.bytes ≡ padded (short class (take l.byte-index l.name));
  counted : l.len ≡ length (short class (take l.byte-index l.name));
}
