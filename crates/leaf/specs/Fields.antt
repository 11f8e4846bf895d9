-- The leaf that a record says, or the first fault of its fields.
use Rattle.std.specs.Prelude.{ℕ, zero, suc, ◌+◌, ◌*◌, Bool, cond, ◌&&◌, ◌||◌, List, [], ◌∷◌, length, ℤ, Some, None, Ok, Err, Option, Result, ◌==◌, nat_lt, slice_index, unsigned_abs}
use Rattle.measures.specs.Measure.{Measuring}
use Rattle.leaf.specs.declared.faults.LeafFault.{LeafFault}
use Rattle.leaf.specs.declared.faults.LeafFault.TheVariants.{Length, Field}
use Rattle.leaf.specs.declared.potentials.Potential.{Potential}
use Rattle.leaf.specs.Record.{little, amount, words, entries_at, entry_size, entry_count}
use Rattle.leaf.specs.Rule.{Leaf}

abbrev pub after : {X Y : Type 0} → Result X LeafFault → (X → Result Y LeafFault) → Result Y LeafFault
after (Err f) go = Err f
after (Ok x) go = go x

-- the value of a field at an offset, unless it is out of its range
abbrev pub ranged : {X : Type 0} → Bool → ℕ → X → Result X LeafFault
ranged out at x = cond out (Err (Field at)) (Ok x)

abbrev pub read_scale : List ℕ → ℕ → Result ℕ LeafFault
read_scale bytes at = ranged (nat_lt (little bytes at 2) 1 || nat_lt 1000 (little bytes at 2)) at (little bytes at 2)

abbrev pub read_amount : ℕ → List ℕ → ℕ → Result ℤ LeafFault
read_amount limit bytes at = ranged (nat_lt limit (unsigned_abs (amount bytes at))) at (amount bytes at)

abbrev pub read_place : ℕ → List ℕ → ℕ → Result ℕ LeafFault
read_place n bytes at = ranged (nat_lt (slice_index bytes at) 1 || nat_lt n (slice_index bytes at)) at (slice_index bytes at)

abbrev pub read_corner : {S : Type 0} → Option S → ℕ → Result S LeafFault
read_corner None at = Err (Field at)
read_corner (Some s) at = Ok s

abbrev pub read_entry : {S : Type 0} → Measuring S → ℕ → List ℕ → ℕ → Result (Potential S) LeafFault
read_entry μ n bytes at =
    after (read_place n bytes at) λ place.
    after (read_amount 1000000000000000 bytes (at + 1)) λ value.
    after (read_corner (μ.read (words bytes (at + 9) μ.words)) (at + 9)) λ corner.
    Ok (record { place = place; value = value; corner = corner })

-- so many fields of one kind, each of so many bytes
abbrev pub read_each : {X : Type 0} → (ℕ → Result X LeafFault) → ℕ → ℕ → ℕ → Result (List X) LeafFault
read_each read at size zero = Ok []
read_each read at size (suc more) = after (read at) λ x. after (read_each read (at + size) size more) λ xs. Ok (x ∷ xs)

-- a record of the letter L and of the length that its count says
abbrev pub well_sized : ℕ → ℕ → List ℕ → Bool
well_sized w n bytes = slice_index bytes 0 == 76 && length bytes == entries_at n + entry_count n bytes * entry_size w

abbrev pub read_fields : {S : Type 0} → Measuring S → ℕ → List ℕ → Result (Leaf S) LeafFault
read_fields μ n bytes =
    after (read_scale bytes 1) λ scale.
    after (read_amount 1000000000000000 bytes 3) λ price.
    after (read_each (read_amount 1000000000000 bytes) 11 8 n) λ duals.
    after (read_each (read_entry μ n bytes) (entries_at n) (entry_size μ.words) (entry_count n bytes)) λ entries.
    Ok (record { scale = scale; van_price = price; duals = duals; entries = entries })

abbrev pub read_leaf : {S : Type 0} → Measuring S → ℕ → List ℕ → Result (Leaf S) LeafFault
read_leaf μ n bytes = cond (well_sized μ.words n bytes) (read_fields μ n bytes) (Err Length)
