-- Records that stand in a file one after another, as their directory says.
use Rattle.std.proofs.Common.{◌≡◌, ℕ, zero, suc, ◌+◌, ◌*◌, ◌<◌, ◌≤◌, Bool, true, not, ◌||◌, eqb, List, [], ◌∷◌, ◌++◌, length, get_or, take, drop, Ok, refl, ap, ◌∙◌, arith}
use Rattle.std.specs.List.{AllByRecursion}
use Rattle.std.proofs.lemmas.List.{append_assoc, length-append, take_at, drop_at}
use Rattle.std.proofs.lemmas.Bool.{cond-true, and_from, or_left, eq-eqb, ne_eqb, lt-ltb, le-leb, not_from_false}
use Rattle.trees.specs.Numbers.{word_bytes}
use Rattle.trees.specs.Tree.{after, offset_of, size_of, pair_answer, pairs_answer}
use Rattle.trees.specs.Files.{directory, contents}
use Rattle.trees.proofs.Bytes.{word_there}

-- record r stands at an offset, and pair k says so
pub record Stands (bytes : List ℕ) (k start : ℕ) (r : List ℕ) : Type 0 where
  pub whole : 8 + 8 * k + 8 ≤ length bytes
  pub offset : offset_of bytes k ≡ start
  pub size : size_of bytes k ≡ length r
  pub within : start + length r ≤ length bytes
  pub part : take (length r) (drop start bytes) ≡ r

-- the pairs from k on are those of the records, which stand from an offset on and end the file
pub record Left (bytes : List ℕ) (k from : ℕ) (rs : List (List ℕ)) : Type 0 where
  pub front : List ℕ
  pub mid : List ℕ
  pub is : bytes ≡ front ++ (directory from rs ++ (mid ++ contents rs))
  pub place : length front ≡ 8 + 8 * k
  pub starts : from ≡ length front + (8 * length rs + length mid)

pub length_directory : (from : ℕ) (rs : List (List ℕ)) → length (directory from rs) ≡ 8 * length rs
length_directory from [] = refl
length_directory from (r ∷ rs) = let e = length_directory (from + length r) rs in omega arith

-- after the last record the file ends
pub left_ends : (bytes : List ℕ) (k from : ℕ) → Left bytes k from [] → from ≡ length bytes
left_ends bytes k from s = omega (arith, simp length-append at (ap length s.is))

pub left_more : (bytes : List ℕ) (k from : ℕ) (r : List ℕ) (rs : List (List ℕ)) → Left bytes k from (r ∷ rs) → Left bytes (k + 1) (from + length r) rs
left_more bytes k from r rs s = record {
  front = s.front ++ (word_bytes from ++ word_bytes (length r));
  mid = s.mid ++ r;
  is = s.is ∙ simp append_assoc;
  place = simp length-append (omega arith);
  starts = simp length-append (omega arith);
}

pub left_first : (bytes : List ℕ) (k from : ℕ) (r : List ℕ) (rs : List (List ℕ)) → Left bytes k from (r ∷ rs) → Stands bytes k from r
left_first bytes k from r rs s =
    let next = directory (from + length r) rs in
    let tail = s.mid ++ (r ++ contents rs) in
    let before = s.front ++ (directory from (r ∷ rs) ++ s.mid) in
    let second : bytes ≡ (s.front ++ word_bytes from) ++ (word_bytes (length r) ++ (next ++ tail)) = s.is ∙ simp append_assoc in
    let third : bytes ≡ before ++ (r ++ contents rs) = s.is ∙ simp append_assoc in
    let till : length before ≡ from = simp length-append (omega (arith, length_directory (from + length r) rs)) in
    let all : length bytes ≡ length before + (length r + length (contents rs)) = ap length third ∙ simp length-append in
    record {
      whole = omega arith;
      offset = ap (λ b. offset_of b k) s.is ∙ word_there s.front ((word_bytes (length r) ++ next) ++ tail) from (8 + 8 * k) s.place;
      size = ap (λ b. size_of b k) second ∙ word_there (s.front ++ word_bytes from) (next ++ tail) (length r) (8 + 8 * k + 4) (simp length-append (omega arith));
      within = omega arith;
      part = ap (λ b. take (length r) (drop from b)) third ∙ ap (take (length r)) (drop_at before (r ++ contents rs) from till) ∙ take_at r (contents rs) (length r) refl;
    }

-- the j-th of the records
pub left_at : (bytes : List ℕ) (k from : ℕ) (rs : List (List ℕ)) (j : ℕ) → Left bytes k from rs → j < length rs → Stands bytes (k + j) (from + length (contents (take j rs))) (get_or rs j [])
left_at bytes k from [] j s h = absurd (omega arith)
left_at bytes k from (r ∷ rs) zero s h =
    let ek : k + 0 ≡ k = omega arith in
    let ef : from + 0 ≡ from = omega arith in
    rw (ek, ef) (left_first bytes k from r rs s)
left_at bytes k from (r ∷ rs) (suc j) s h =
    let ek : k + suc j ≡ k + 1 + j = omega arith in
    let ef : from + length (r ++ contents (take j rs)) ≡ from + length r + length (contents (take j rs)) = simp length-append (omega arith) in
    rw (ek, ef) (left_at bytes (k + 1) (from + length r) rs j (left_more bytes k from r rs s) (omega arith))

-- a pair that stands is granted, and is the last where no record is left
pair_granted : (bytes : List ℕ) (k from : ℕ) (r : List ℕ) (last : Bool) → Stands bytes k from r → 1 ≤ length r → (not last || eqb (from + size_of bytes k) (length bytes)) ≡ true → pair_answer bytes k from last ≡ Ok (from + length r)
pair_granted bytes k from r last s some ends =
    cond-true _ _ _ (and_from _ _ (le-leb _ _ s.whole) (and_from _ _ (eq-eqb _ _ s.offset) (and_from _ _ (lt-ltb 0 (size_of bytes k) (omega (arith, s.size))) ends)))
    ∙ ap (λ n. Ok (from + n)) s.size

-- the last record ends the file
last_ends : (bytes : List ℕ) (k from : ℕ) (r : List ℕ) (rs : List (List ℕ)) → size_of bytes k ≡ length r → Left bytes (k + 1) (from + length r) rs → (not (eqb (length rs) 0) || eqb (from + size_of bytes k) (length bytes)) ≡ true
last_ends bytes k from r [] size left = eq-eqb (from + size_of bytes k) (length bytes) (ap (λ n. from + n) size ∙ left_ends bytes (k + 1) (from + length r) left)
last_ends bytes k from r (x ∷ rs) size left = or_left (not (eqb (length (x ∷ rs)) 0)) _ (not_from_false _ (ne_eqb (length (x ∷ rs)) 0 (λ e. omega arith)))

pub pairs_granted : (bytes : List ℕ) (k from : ℕ) (rs : List (List ℕ)) → Left bytes k from rs → AllByRecursion (λ r. 1 ≤ length r) rs → pairs_answer bytes k from (length rs) ≡ Ok tt
pairs_granted bytes k from [] s all = refl
pairs_granted bytes k from (r ∷ rs) s all =
    let first = left_first bytes k from r rs s in
    let rest = left_more bytes k from r rs s in
    ap (λ x. after x λ end. pairs_answer bytes (k + 1) end (length rs)) (pair_granted bytes k from r (eqb (length rs) 0) first all.0 (last_ends bytes k from r rs first.size rest))
    ∙ pairs_granted bytes (k + 1) (from + length r) rs rest all.1
