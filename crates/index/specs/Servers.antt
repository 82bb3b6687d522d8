-- Which server holds a partition, and which settings are accepted.
use Rattle.std.specs.Prelude.{ℕ, ◌*◌, ◌/◌, ◌%◌, Bool, cond, ◌&&◌, nat_le, nat_lt}

-- the server that holds p, where n first servers have m partitions each
abbrev pub holder : ℕ → ℕ → ℕ → ℕ
holder n m p = cond (nat_lt p (n * m)) (p % n) (p / m)

-- p is a partition number that has a server, where there are s servers now, with m partitions each
abbrev pub has_server : ℕ → ℕ → ℕ → Bool
has_server m s p = nat_lt p 512 && nat_lt p (s * m)

-- 1 to 32 first servers, 1 to 16 partitions each, a threshold of 1 to 8,000
abbrev pub accepted : ℕ → ℕ → ℕ → Bool
accepted n m threshold =
    (nat_le 1 n && nat_le n 32) && (nat_le 1 m && nat_le m 16) && (nat_le 1 threshold && nat_le threshold 8000)
