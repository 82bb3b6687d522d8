-- The MD5 message digest of a list of bytes, as RFC 1321 defines it.
use Rattle.std.specs.Prelude.{◌≡◌, ℕ, zero, suc, ◌+◌, ◌-◌, ◌*◌, ◌/◌, ◌%◌, ◌^◌, ◌<◌, ◌≤◌, List, [], ◌∷◌, ◌++◌, length, take, drop, replicate, bit_and, bit_or, bit_xor, slice_index}

-- ---- words of 32 bits

-- X + Y: the sum modulo 2^32
abbrev pub plus : ℕ → ℕ → ℕ
plus x y = (x + y) % 2 ^ 32

-- not(X): the complement, bit by bit
abbrev pub complement : ℕ → ℕ
complement x = (2 ^ 32 - 1) - x

-- X <<< s, for 0 < s < 32: the word rotated left by s bits
abbrev pub rotate_left : ℕ → ℕ → ℕ
rotate_left x s = bit_or ((x * 2 ^ s) % 2 ^ 32) (x / 2 ^ (32 - s))

-- word k of a block of bytes, the low-order byte first
abbrev pub word : List ℕ → ℕ → ℕ
word x k = slice_index x (4 * k) + slice_index x (4 * k + 1) * 256 + slice_index x (4 * k + 2) * 65536 + slice_index x (4 * k + 3) * 16777216

-- ---- the four auxiliary functions

-- F(X,Y,Z) = XY v not(X) Z
abbrev pub aux_f : ℕ → ℕ → ℕ → ℕ
aux_f x y z = bit_or (bit_and x y) (bit_and (complement x) z)

-- G(X,Y,Z) = XZ v Y not(Z)
abbrev pub aux_g : ℕ → ℕ → ℕ → ℕ
aux_g x y z = bit_or (bit_and x z) (bit_and y (complement z))

-- H(X,Y,Z) = X xor Y xor Z
abbrev pub aux_h : ℕ → ℕ → ℕ → ℕ
aux_h x y z = bit_xor (bit_xor x y) z

-- I(X,Y,Z) = Y xor (X v not(Z))
abbrev pub aux_i : ℕ → ℕ → ℕ → ℕ
aux_i x y z = bit_xor y (bit_or x (complement z))

-- F, G, H and I, counted from 0
abbrev pub auxiliary : ℕ → ℕ → ℕ → ℕ → ℕ
auxiliary zero = aux_f
auxiliary (suc zero) = aux_g
auxiliary (suc (suc zero)) = aux_h
auxiliary (suc (suc (suc n))) = aux_i

-- ---- the 64 operations, counted from 1; each round has 16 of them

-- the table T: the integer part of 4294967296 times abs(sin(i)), i in radians, from i = 1 on
abbrev pub sines : List ℕ
sines =
    0xd76aa478 ∷ 0xe8c7b756 ∷ 0x242070db ∷ 0xc1bdceee ∷
    0xf57c0faf ∷ 0x4787c62a ∷ 0xa8304613 ∷ 0xfd469501 ∷
    0x698098d8 ∷ 0x8b44f7af ∷ 0xffff5bb1 ∷ 0x895cd7be ∷
    0x6b901122 ∷ 0xfd987193 ∷ 0xa679438e ∷ 0x49b40821 ∷
    0xf61e2562 ∷ 0xc040b340 ∷ 0x265e5a51 ∷ 0xe9b6c7aa ∷
    0xd62f105d ∷ 0x02441453 ∷ 0xd8a1e681 ∷ 0xe7d3fbc8 ∷
    0x21e1cde6 ∷ 0xc33707d6 ∷ 0xf4d50d87 ∷ 0x455a14ed ∷
    0xa9e3e905 ∷ 0xfcefa3f8 ∷ 0x676f02d9 ∷ 0x8d2a4c8a ∷
    0xfffa3942 ∷ 0x8771f681 ∷ 0x6d9d6122 ∷ 0xfde5380c ∷
    0xa4beea44 ∷ 0x4bdecfa9 ∷ 0xf6bb4b60 ∷ 0xbebfbc70 ∷
    0x289b7ec6 ∷ 0xeaa127fa ∷ 0xd4ef3085 ∷ 0x04881d05 ∷
    0xd9d4d039 ∷ 0xe6db99e5 ∷ 0x1fa27cf8 ∷ 0xc4ac5665 ∷
    0xf4292244 ∷ 0x432aff97 ∷ 0xab9423a7 ∷ 0xfc93a039 ∷
    0x655b59c3 ∷ 0x8f0ccc92 ∷ 0xffeff47d ∷ 0x85845dd1 ∷
    0x6fa87e4f ∷ 0xfe2ce6e0 ∷ 0xa3014314 ∷ 0x4e0811a1 ∷
    0xf7537e82 ∷ 0xbd3af235 ∷ 0x2ad7d2bb ∷ 0xeb86d391 ∷ []

-- T[i]
abbrev pub sine : ℕ → ℕ
sine i = slice_index sines (i - 1)

-- the word numbers k of the operations, a line for each round
abbrev pub word_numbers : List ℕ
word_numbers =
    0 ∷ 1 ∷ 2 ∷ 3 ∷ 4 ∷ 5 ∷ 6 ∷ 7 ∷ 8 ∷ 9 ∷ 10 ∷ 11 ∷ 12 ∷ 13 ∷ 14 ∷ 15 ∷
    1 ∷ 6 ∷ 11 ∷ 0 ∷ 5 ∷ 10 ∷ 15 ∷ 4 ∷ 9 ∷ 14 ∷ 3 ∷ 8 ∷ 13 ∷ 2 ∷ 7 ∷ 12 ∷
    5 ∷ 8 ∷ 11 ∷ 14 ∷ 1 ∷ 4 ∷ 7 ∷ 10 ∷ 13 ∷ 0 ∷ 3 ∷ 6 ∷ 9 ∷ 12 ∷ 15 ∷ 2 ∷
    0 ∷ 7 ∷ 14 ∷ 5 ∷ 12 ∷ 3 ∷ 10 ∷ 1 ∷ 8 ∷ 15 ∷ 6 ∷ 13 ∷ 4 ∷ 11 ∷ 2 ∷ 9 ∷ []

-- the number k of the word that operation i adds
abbrev pub word_number : ℕ → ℕ
word_number i = slice_index word_numbers (i - 1)

-- the shift amounts s, a line for each round, which goes through its four again and again
abbrev pub shifts : List ℕ
shifts =
    7 ∷ 12 ∷ 17 ∷ 22 ∷
    5 ∷ 9 ∷ 14 ∷ 20 ∷
    4 ∷ 11 ∷ 16 ∷ 23 ∷
    6 ∷ 10 ∷ 15 ∷ 21 ∷ []

-- the number s of bits by which operation i rotates
abbrev pub shift : ℕ → ℕ
shift i = slice_index shifts ((i - 1) / 16 * 4 + (i - 1) % 4)

-- k and s are those of operation i, which is from 1 to 64
abbrev pub Listed : ℕ → ℕ → ℕ → Type 0
Listed k s i = (0 < i) × (i ≤ 64) × (k ≡ word_number i) × (k < 16) × (s ≡ shift i) × (0 < s) × (s < 32)

-- the four words A, B, C, D
abbrev pub Buffer : Type 0
Buffer = ℕ × ℕ × ℕ × ℕ

-- b + ((a + f + x + t) <<< s)
abbrev pub mixed : ℕ → ℕ → ℕ → ℕ → ℕ → ℕ → ℕ
mixed a b f x t s = plus b (rotate_left (plus (plus (plus a f) x) t) s)

-- what operation i makes of a: b + ((a + f + X[k] + T[i]) <<< s), with f for the value of its round's function
abbrev pub operated : List ℕ → ℕ → ℕ → ℕ → ℕ → ℕ
operated x i a b f = mixed a b f (word x (word_number i)) (sine i) (shift i)

-- operation i, [abcd k s i]; the words come out as d, a, b, c, the order in which the next operation takes them
abbrev pub operation : List ℕ → ℕ → Buffer → Buffer
operation x i w =
    (w.3, operated x i w.0 w.1 (auxiliary ((i - 1) / 16) w.1 w.2 w.3), w.1, w.2)

-- n operations on the block x, from operation i on
unfoldable pub operations : List ℕ → ℕ → ℕ → Buffer → Buffer
operations x i zero w = w
operations x i (suc n) w = operation x (i + n) (operations x i n w)

-- round r, from 1 to 4
abbrev pub round : List ℕ → ℕ → Buffer → Buffer
round x r w = operations x (16 * (r - 1) + 1) 16 w

-- ---- the message

-- each of the four words increased by what it was before the block
abbrev pub increased : Buffer → Buffer → Buffer
increased w r = (plus w.0 r.0, plus w.1 r.1, plus w.2 r.2, plus w.3 r.3)

-- the four words after a block of 64 bytes
unfoldable pub block : List ℕ → Buffer → Buffer
block x w = increased w (round x 4 (round x 3 (round x 2 (round x 1 w))))

-- the four words at the start
abbrev pub initial : Buffer
initial = (0x67452301, 0xefcdab89, 0x98badcfe, 0x10325476)

-- the four words after the first n blocks of m
unfoldable pub blocks : List ℕ → ℕ → Buffer
blocks m zero = initial
blocks m (suc n) = block (take 64 (drop (64 * n) m)) (blocks m n)

-- the n low-order bytes of a number, the lowest first
abbrev pub low_order : ℕ → ℕ → List ℕ
low_order zero x = []
low_order (suc n) x = (x % 256) ∷ low_order n (x / 256)

-- how many bytes 0 bring a message of n bytes and the byte after it to 56 bytes modulo 64, which is 448 bits modulo 512
abbrev pub zeros : ℕ → ℕ
zeros n = (56 + 64 - (n + 1) % 64) % 64

-- what is appended to a message of n bytes: a 1 bit, 0 bits, and in 8 bytes the number of its bits modulo 2^64
abbrev pub padding : ℕ → List ℕ
padding n = (128 ∷ replicate (zeros n) 0) ++ low_order 8 ((n * 8) % 2 ^ 64)

-- the padded message
unfoldable pub padded : List ℕ → List ℕ
padded m = m ++ padding (length m)

-- the bytes of A, B, C, D
abbrev pub output : Buffer → List ℕ
output w = low_order 4 w.0 ++ low_order 4 w.1 ++ low_order 4 w.2 ++ low_order 4 w.3

-- the message digest
unfoldable pub digest : List ℕ → List ℕ
digest m = output (blocks (padded m) (length (padded m) / 64))
