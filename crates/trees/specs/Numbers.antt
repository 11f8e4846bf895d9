-- Numbers in bytes, the low byte first.
use Rattle.std.specs.Prelude.{ℕ, ◌+◌, ◌*◌, ◌/◌, ◌%◌, List, [], ◌∷◌, slice_index}

-- two bytes
abbrev pub short_at : List ℕ → ℕ → ℕ
short_at bytes at = slice_index bytes at + 256 * slice_index bytes (at + 1)

-- four bytes
abbrev pub word_at : List ℕ → ℕ → ℕ
word_at bytes at = short_at bytes at + 65536 * short_at bytes (at + 2)

-- the bytes of a number; the last is a byte where the number fits
abbrev pub short_bytes : ℕ → List ℕ
short_bytes n = n % 256 ∷ n / 256 ∷ []

abbrev pub word_bytes : ℕ → List ℕ
word_bytes n = n % 256 ∷ n / 256 % 256 ∷ n / 65536 % 256 ∷ n / 65536 / 256 ∷ []
