-- Two digests of the RFC's test suite, computed from the definition.
use Rattle.std.proofs.Common.{◌≡◌, [], ◌∷◌, refl}
use Rattle.placement.specs.Rfc1321.{operations, block, blocks, padded, digest}

-- MD5 ("") = d41d8cd98f00b204e9800998ecf8427e
pub empty : digest [] ≡ 0xd4 ∷ 0x1d ∷ 0x8c ∷ 0xd9 ∷ 0x8f ∷ 0x00 ∷ 0xb2 ∷ 0x04 ∷ 0xe9 ∷ 0x80 ∷ 0x09 ∷ 0x98 ∷ 0xec ∷ 0xf8 ∷ 0x42 ∷ 0x7e ∷ []
unfolding operations block blocks padded digest
empty = refl

-- MD5 ("abc") = 900150983cd24fb0d6963f7d28e17f72
pub abc : digest (97 ∷ 98 ∷ 99 ∷ []) ≡ 0x90 ∷ 0x01 ∷ 0x50 ∷ 0x98 ∷ 0x3c ∷ 0xd2 ∷ 0x4f ∷ 0xb0 ∷ 0xd6 ∷ 0x96 ∷ 0x3f ∷ 0x7d ∷ 0x28 ∷ 0xe1 ∷ 0x7f ∷ 0x72 ∷ []
unfolding operations block blocks padded digest
abc = refl
