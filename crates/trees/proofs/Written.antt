-- The file of a tree's records is granted, and each record is found by its pair.
use Rattle.std.proofs.Common.{◌≡◌, ℕ, ◌+◌, ◌*◌, ◌<◌, ◌≤◌, List, [], ◌∷◌, ◌++◌, length, get_or, take, drop, Some, Ok, refl, ap, ◌∙◌, arith}
use Rattle.std.proofs.lemmas.Bool.{cond-true, cond-false, and_from, or_from, eq-eqb, ne_eqb, lt-ltb, le-ltb, le-leb, not_from_true}
use Rattle.trees.specs.declared.kind.Kind.{Kind}
use Rattle.trees.specs.declared.kind.Kind.TheVariants.{Time, Load, TimeLoad}
use Rattle.trees.specs.Numbers.{short_at}
use Rattle.trees.specs.Kinds.{kind_of}
use Rattle.trees.specs.Tree.{mark, after, kinded, head_answer, pairs_answer, tree_answer, offset_of, size_of, record_answer}
use Rattle.trees.specs.Files.{kind_byte, head_bytes, directory, contents, tree_bytes, Records, start_of, Found}
use Rattle.trees.proofs.Bytes.{short_there}
use Rattle.trees.proofs.Stand.{Stands, Left, left_at, pairs_granted}

kind_back : (kind : Kind) → kind_of (kind_byte kind) ≡ Some kind
kind_back Time = refl
kind_back Load = refl
kind_back TimeLoad = refl

count_there : (kind : Kind) (n count : ℕ) (rest : List ℕ) → short_at (head_bytes kind n count ++ rest) 6 ≡ count
count_there kind n count rest = short_there (mark ++ (kind_byte kind ∷ n ∷ [])) rest count 6 refl

head_granted : (kind : Kind) (n count : ℕ) (rest : List ℕ) → 1 ≤ count → count ≤ 2000 → head_answer (head_bytes kind n count ++ rest) n ≡ Ok (record { kind = kind; count = count })
head_granted kind n count rest some most =
    let bytes = head_bytes kind n count ++ rest in
    let e = count_there kind n count rest in
    cond-false _ _ _ (or_from _ _ (le-ltb (length bytes) 8 (omega arith)) refl)
    ∙ ap (kinded bytes n) (kind_back kind)
    ∙ cond-false _ _ _ (not_from_true _ (eq-eqb n n refl))
    ∙ cond-false _ _ _ (or_from _ _ (ne_eqb (short_at bytes 6) 0 (λ z. omega (arith, e))) (le-ltb 2000 (short_at bytes 6) (omega (arith, e))))
    ∙ ap (λ c. Ok (record { kind = kind; count = c })) e

pub tree_left : (kind : Kind) (n : ℕ) (rs : List (List ℕ)) → Left (tree_bytes kind n rs) 0 (8 + 8 * length rs) rs
tree_left kind n rs = record { front = head_bytes kind n (length rs); mid = []; is = refl; place = refl; starts = omega arith }

pub tree_granted : (kind : Kind) (n : ℕ) (rs : List (List ℕ)) → Records rs → tree_answer (tree_bytes kind n rs) n ≡ Ok (record { kind = kind; count = length rs })
tree_granted kind n rs tree =
    let bytes = tree_bytes kind n rs in
    ap (λ a. after a λ h. after (pairs_answer bytes 0 (8 + 8 * h.count) h.count) λ _. Ok h) (head_granted kind n (length rs) _ tree.some tree.most)
    ∙ ap (λ a. after a λ _. Ok (record { kind = kind; count = length rs })) (pairs_granted bytes 0 (8 + 8 * length rs) rs (tree_left kind n rs) tree.filled)

found_at : (bytes : List ℕ) (k start : ℕ) (r : List ℕ) → Stands bytes k start r → k < short_at bytes 6 → record_answer bytes k ≡ Some (start, r)
found_at bytes k start r s h =
    let part : take (size_of bytes k) (drop (offset_of bytes k) bytes) ≡ r = ap (λ n. take n (drop (offset_of bytes k) bytes)) s.size ∙ ap (λ o. take (length r) (drop o bytes)) s.offset ∙ s.part in
    cond-true _ _ _ (and_from _ _ (lt-ltb k (short_at bytes 6) h) (and_from _ _ (le-leb _ _ s.whole) (le-leb (offset_of bytes k + size_of bytes k) (length bytes) (omega (arith, s.offset, s.size, s.within)))))
    ∙ ap (λ o. Some (o, take (size_of bytes k) (drop (offset_of bytes k) bytes))) s.offset
    ∙ ap (λ p. Some (start, p)) part

pub tree_at : (kind : Kind) (n : ℕ) (rs : List (List ℕ)) (k : ℕ) → k < length rs → Stands (tree_bytes kind n rs) k (start_of rs k) (get_or rs k [])
tree_at kind n rs k h =
    let e : 0 + k ≡ k = omega arith in
    rw e at (left_at (tree_bytes kind n rs) 0 (8 + 8 * length rs) rs k (tree_left kind n rs) h)

pub tree_found : (kind : Kind) (n : ℕ) (rs : List (List ℕ)) → Found (tree_bytes kind n rs) rs
tree_found kind n rs k h = found_at (tree_bytes kind n rs) k (start_of rs k) (get_or rs k []) (tree_at kind n rs k h) (omega (arith, count_there kind n (length rs) (directory (8 + 8 * length rs) rs ++ contents rs)))
