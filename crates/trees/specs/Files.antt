-- A file is granted exactly when it is the one of a tree's records, each found by its pair.
use Rattle.std.specs.Prelude.{◌≡◌, ℕ, ◌+◌, ◌*◌, ◌<◌, ◌≤◌, List, [], ◌∷◌, ◌++◌, length, take, Some, Ok, Result, slice_index_or}
use Rattle.std.specs.List.{flat_map, AllByRecursion}
use Rattle.trees.specs.declared.faults.TreeFault.{TreeFault}
use Rattle.trees.specs.declared.kind.Kind.{Kind}
use Rattle.trees.specs.declared.kind.Kind.TheVariants.{Time, Load, TimeLoad}
use Rattle.trees.specs.declared.head.TreeHead.{TreeHead}
use Rattle.trees.specs.Numbers.{short_bytes, word_bytes}
use Rattle.trees.specs.Tree.{mark, record_answer}

abbrev pub kind_byte : Kind → ℕ
kind_byte Time = 1
kind_byte Load = 2
kind_byte TimeLoad = 3

-- the mark, the kind, the number of customers and the count of records
abbrev pub head_bytes : Kind → ℕ → ℕ → List ℕ
head_bytes kind n count = mark ++ (kind_byte kind ∷ n ∷ short_bytes count)

-- the pairs of records that stand one after another from an offset on
abbrev pub directory : ℕ → List (List ℕ) → List ℕ
directory from [] = []
directory from (r ∷ rs) = word_bytes from ++ (word_bytes (length r) ++ directory (from + length r) rs)

-- the records' bytes one after another
abbrev pub contents : List (List ℕ) → List ℕ
contents = flat_map (λ r. r)

-- the whole file
abbrev pub tree_bytes : Kind → ℕ → List (List ℕ) → List ℕ
tree_bytes kind n rs = head_bytes kind n (length rs) ++ (directory (8 + 8 * length rs) rs ++ contents rs)

-- 1 to 2,000 records, each with a byte or more
pub record Records (rs : List (List ℕ)) : Type 0 where
  pub some : 1 ≤ length rs
  pub most : length rs ≤ 2000
  pub filled : AllByRecursion (λ r. 1 ≤ length r) rs

-- the offset of record k
abbrev pub start_of : List (List ℕ) → ℕ → ℕ
start_of rs k = 8 + 8 * length rs + length (contents (take k rs))

-- pair k answers record k, for each of the records
abbrev pub Found : List ℕ → List (List ℕ) → Type 0
Found bytes rs = (k : ℕ) → k < length rs → record_answer bytes k ≡ Some (start_of rs k, slice_index_or rs k [])

-- a record with a byte or more, within the file
abbrev pub Recorded : List ℕ → ℕ → Type 0
Recorded bytes k = (start : ℕ) × (part : List ℕ) × (record_answer bytes k ≡ Some (start, part)) × (1 ≤ length part) × (start + length part ≤ length bytes)

-- the answers are the heads of the files of records, and those alone
pub record ReadsTree (bytes : List ℕ) (n : ℕ) (r : Result TreeHead TreeFault) : Type 0 where
  pub tree_is_granted : (kind : Kind) (rs : List (List ℕ)) → Records rs → bytes ≡ tree_bytes kind n rs → (r ≡ Ok (record { kind = kind; count = length rs })) × Found bytes rs
  pub granted_is_tree : (h : TreeHead) → r ≡ Ok h → (rs : List (List ℕ)) × Records rs × (length rs ≡ h.count) × (bytes ≡ tree_bytes h.kind n rs) × Found bytes rs
  pub granted_has_records : (h : TreeHead) → r ≡ Ok h → (k : ℕ) → k < h.count → Recorded bytes k
