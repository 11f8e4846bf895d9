-- What a leaf record says.
use Rattle.std.specs.Prelude.{◌≡◌, ℕ, zero, suc, ◌+◌, ◌*◌, ◌<◌, ◌≤◌, List, map, length, get_or, ℤ, pos, Some, slice_index, slice_index_or, unsigned_abs}
use Rattle.std.specs.Int.{w64}
use Rattle.std.proofs.Common.{to_z}
use Rattle.std.specs.List.{range_with_len}
use Rattle.measures.specs.Measure.{Measuring}
use Rattle.leaf.specs.declared.potentials.Potential.{Potential}
use Rattle.leaf.specs.Rule.{Leaf}

-- the number that so many bytes from an offset on write, the least part first
unfoldable pub little : List ℕ → ℕ → ℕ → ℕ
little bytes at zero = 0
little bytes at (suc size) = slice_index bytes at + 256 * little bytes (at + 1) size

-- the same of eight bytes in two's complement
abbrev pub amount : List ℕ → ℕ → ℤ
amount bytes at = to_z w64 (little bytes at 8)

-- so many numbers of eight bytes each
abbrev pub words : List ℕ → ℕ → ℕ → List ℕ
words bytes at size = map (λ k. little bytes (at + 8 * k) 8) (range_with_len 0 size)

-- the parts of a record for n customers: the letter L, the scale at 1, the van price at 3, the duals from 11 on,
-- then the count of the entries, and the entries
abbrev pub count_at : ℕ → ℕ
count_at n = 11 + 8 * n

abbrev pub entries_at : ℕ → ℕ
entries_at n = 13 + 8 * n

abbrev pub entry_size : ℕ → ℕ
entry_size w = 9 + 8 * w

abbrev pub entry_count : ℕ → List ℕ → ℕ
entry_count n bytes = little bytes (count_at n) 2

-- an entry: a place, a value, and the words of a corner
pub record EntryReads {S : Type 0} (μ : Measuring S) (n : ℕ) (bytes : List ℕ) (at : ℕ) (e : Potential S) : Type 0 where
  pub place_is : e.place ≡ slice_index bytes at
  pub customer : (1 ≤ e.place) × (e.place ≤ n)
  pub value_is : e.value ≡ amount bytes (at + 1)
  pub value_small : unsigned_abs e.value ≤ 1000000000000000
  pub corner_is : μ.read (words bytes (at + 9) μ.words) ≡ Some e.corner

-- the record says the leaf: it has the length that its count says, and every field is in its range
pub record Reads {S : Type 0} (μ : Measuring S) (n : ℕ) (bytes : List ℕ) (leaf : Leaf S) : Type 0 where
  pub letter : get_or bytes 0 0 ≡ 76
  pub long : length bytes ≡ entries_at n + entry_count n bytes * entry_size μ.words
  pub scale_is : leaf.scale ≡ little bytes 1 2
  pub scale_small : (1 ≤ leaf.scale) × (leaf.scale ≤ 1000)
  pub price_is : leaf.van_price ≡ amount bytes 3
  pub price_small : unsigned_abs leaf.van_price ≤ 1000000000000000
  pub duals_long : length leaf.duals ≡ n
  pub duals_are : (k : ℕ) → k < n → slice_index_or leaf.duals k (pos 0) ≡ amount bytes (11 + 8 * k)
  pub duals_small : (k : ℕ) → k < n → unsigned_abs (slice_index_or leaf.duals k (pos 0)) ≤ 1000000000000
  pub entries_long : length leaf.entries ≡ entry_count n bytes
  pub entries_are : (k : ℕ) (d : Potential S) → k < entry_count n bytes → EntryReads μ n bytes (entries_at n + entry_size μ.words * k) (slice_index_or leaf.entries k d)
