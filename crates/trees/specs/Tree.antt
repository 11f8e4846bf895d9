-- The answer due to a tree file: its head, or the first fault in the order of the rules.
use Rattle.std.specs.Prelude.{ℕ, zero, suc, ◌+◌, ◌*◌, Bool, cond, not, ◌&&◌, ◌||◌, List, [], ◌∷◌, length, take, drop, Some, None, Ok, Err, Option, Result, ◌==◌, nat_le, nat_lt, slice_index}
use Rattle.std.specs.Str.{bytes_eq}
use Rattle.trees.specs.declared.faults.TreeFault.{TreeFault}
use Rattle.trees.specs.declared.faults.TreeFault.TheVariants.{Mark, Head, Pair}
use Rattle.trees.specs.declared.kind.Kind.{Kind}
use Rattle.trees.specs.declared.head.TreeHead.{TreeHead}
use Rattle.trees.specs.declared.records.Record.{Record}
use Rattle.trees.specs.Kinds.{kind_of}
use Rattle.trees.specs.Numbers.{short_at, word_at}

-- the letters VRPC
abbrev pub mark : List ℕ
mark = 86 ∷ 82 ∷ 80 ∷ 67 ∷ []

abbrev pub after : {X Y : Type 0} → Result X TreeFault → (X → Result Y TreeFault) → Result Y TreeFault
after (Err f) go = Err f
after (Ok x) go = go x

abbrev pub kinded : List ℕ → ℕ → Option Kind → Result TreeHead TreeFault
kinded bytes n None = Err (Head 4)
kinded bytes n (Some kind) =
    cond (not (slice_index bytes 5 == n)) (Err (Head 5))
    (cond (short_at bytes 6 == 0 || nat_lt 2000 (short_at bytes 6)) (Err (Head 6)) (Ok (record { kind = kind; count = short_at bytes 6 })))

-- the mark, the kind, the number of customers and the count of records
abbrev pub head_answer : List ℕ → ℕ → Result TreeHead TreeFault
head_answer bytes n = cond (nat_lt (length bytes) 8 || not (bytes_eq (take 4 bytes) mark)) (Err Mark) (kinded bytes n (kind_of (slice_index bytes 4)))

-- what the directory's pair k says
abbrev pub offset_of : List ℕ → ℕ → ℕ
offset_of bytes k = word_at bytes (8 + 8 * k)

abbrev pub size_of : List ℕ → ℕ → ℕ
size_of bytes k = word_at bytes (8 + 8 * k + 4)

-- the pair is whole, follows the end of the record before and has a byte or more; the last ends the file
abbrev pub pair_fits : List ℕ → ℕ → ℕ → Bool → Bool
pair_fits bytes k from last =
    nat_le (8 + 8 * k + 8) (length bytes) && (offset_of bytes k == from && (nat_lt 0 (size_of bytes k) && (not last || from + size_of bytes k == length bytes)))

-- where record k ends
abbrev pub pair_answer : List ℕ → ℕ → ℕ → Bool → Result ℕ TreeFault
pair_answer bytes k from last = cond (pair_fits bytes k from last) (Ok (from + size_of bytes k)) (Err (Pair (8 + 8 * k)))

-- so many pairs from pair k on, the record before them ended at `from`
abbrev pub pairs_answer : List ℕ → ℕ → ℕ → ℕ → Result (Unit {0}) TreeFault
pairs_answer bytes k from zero = Ok tt
pairs_answer bytes k from (suc more) = after (pair_answer bytes k from (more == 0)) λ end. pairs_answer bytes (k + 1) end more

abbrev pub tree_answer : List ℕ → ℕ → Result TreeHead TreeFault
tree_answer bytes n = after (head_answer bytes n) λ h. after (pairs_answer bytes 0 (8 + 8 * h.count) h.count) λ _. Ok h

abbrev pub as_found : Option Record → Option (ℕ × List ℕ)
as_found None = None
as_found (Some r) = Some (r.offset, r.bytes.now)

-- the offset and the bytes of record k, where the directory has pair k and its part lies within the file
abbrev pub record_answer : List ℕ → ℕ → Option (ℕ × List ℕ)
record_answer bytes k =
    cond (nat_lt k (short_at bytes 6) && (nat_le (8 + 8 * k + 8) (length bytes) && nat_le (offset_of bytes k + size_of bytes k) (length bytes)))
    (Some (offset_of bytes k, take (size_of bytes k) (drop (offset_of bytes k) bytes))) None
