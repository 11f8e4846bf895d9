-- A granted file is the one of the records that its pairs find.
use Rattle.std.proofs.Common.{◌≡◌, ℕ, zero, suc, ◌+◌, ◌*◌, ◌≤◌, Bool, true, false, cond, not, ◌||◌, eqb, List, [], ◌∷◌, ◌++◌, length, take, drop, Ok, Err, Result, sym, refl, ap, ◌∙◌, arith}
use Rattle.std.specs.List.{AllByRecursion}
use Rattle.std.proofs.lemmas.List.{append-nil, take_all, length-take-le, length-drop, take-append-drop, drop-drop}
use Rattle.std.proofs.lemmas.Bool.{and_parts, eqb-true, ltb-true, leb-true}
use Rattle.trees.specs.declared.faults.TreeFault.{TreeFault}
use Rattle.trees.specs.Numbers.{word_bytes}
use Rattle.trees.specs.Tree.{after, offset_of, size_of, pair_fits, pair_answer, pairs_answer}
use Rattle.trees.specs.Files.{directory, contents}
use Rattle.trees.proofs.Bytes.{Byte, word_here}

pub ok_after : {X Y : Type 0} (a : Result X TreeFault) (go : X → Result Y TreeFault) (y : Y) → after a go ≡ Ok y → (x : X) × (a ≡ Ok x) × (go x ≡ Ok y)
ok_after (Ok x) go y e = (x, refl, e)
ok_after (Err f) go y e = absurd (let z : ◌≡◌ {A = ℕ} 0 1 = cc in omega arith)

pub ok_cond : {X : Type 0} (b : Bool) (x y : X) (f : TreeFault) → cond b (Ok x) (Err f) ≡ Ok y → (b ≡ true) × (x ≡ y)
ok_cond true x y f e = (refl, cc)
ok_cond false x y f e = absurd (let z : ◌≡◌ {A = ℕ} 0 1 = cc in omega arith)

-- what a granted pair says
record Fits (bytes : List ℕ) (k from : ℕ) (last : Bool) : Type 0 where
  whole : 8 + 8 * k + 8 ≤ length bytes
  offset : offset_of bytes k ≡ from
  some : 1 ≤ size_of bytes k
  ends : (not last || eqb (from + size_of bytes k) (length bytes)) ≡ true

fits : (bytes : List ℕ) (k from : ℕ) (last : Bool) → pair_fits bytes k from last ≡ true → Fits bytes k from last
fits bytes k from last e =
    let a = and_parts _ _ e in
    let b = and_parts _ _ a.1 in
    let c = and_parts _ _ b.1 in
    record { whole = leb-true _ _ a.0; offset = eqb-true _ _ b.0; some = ltb-true 0 (size_of bytes k) c.0; ends = c.1 }

first_fits : (bytes : List ℕ) (k from more : ℕ) → pairs_answer bytes k from (suc more) ≡ Ok tt → Fits bytes k from (eqb more 0) × (pairs_answer bytes (k + 1) (from + size_of bytes k) more ≡ Ok tt)
first_fits bytes k from more e =
    let p = ok_after (pair_answer bytes k from (eqb more 0)) (λ end. pairs_answer bytes (k + 1) end more) tt e in
    let q = ok_cond (pair_fits bytes k from (eqb more 0)) (from + size_of bytes k) p.0 _ p.1 in
    (fits bytes k from (eqb more 0) q.0, ap (λ end. pairs_answer bytes (k + 1) end more) q.1 ∙ p.2)

-- each record ends within the file, since the last does and each has a byte or more
ends_within : (bytes : List ℕ) (k from more : ℕ) → pairs_answer bytes k from (suc more) ≡ Ok tt → from + size_of bytes k ≤ length bytes
ends_within bytes k from zero e = let f = (first_fits bytes k from 0 e).0 in omega (arith, eqb-true (from + size_of bytes k) (length bytes) f.ends)
ends_within bytes k from (suc more) e =
    let rest = (first_fits bytes k from (suc more) e).1 in
    omega (arith, ends_within bytes (k + 1) (from + size_of bytes k) more rest)

-- the records that the pairs from k on find
abbrev pub parts : List ℕ → ℕ → ℕ → List (List ℕ)
parts bytes k zero = []
parts bytes k (suc more) = take (size_of bytes k) (drop (offset_of bytes k) bytes) ∷ parts bytes (k + 1) more

pub length_parts : (bytes : List ℕ) (k more : ℕ) → length (parts bytes k more) ≡ more
length_parts bytes k zero = refl
length_parts bytes k (suc more) = ap suc (length_parts bytes (k + 1) more)

part_length : (bytes : List ℕ) (k from more : ℕ) → pairs_answer bytes k from (suc more) ≡ Ok tt → length (take (size_of bytes k) (drop (offset_of bytes k) bytes)) ≡ size_of bytes k
part_length bytes k from more e =
    let f = (first_fits bytes k from more e).0 in
    let w = ends_within bytes k from more e in
    length-take-le (size_of bytes k) (drop (offset_of bytes k) bytes) (simp length-drop (omega (arith, f.offset)))

pub parts_filled : (bytes : List ℕ) (k from more : ℕ) → pairs_answer bytes k from more ≡ Ok tt → AllByRecursion (λ r. 1 ≤ length r) (parts bytes k more)
parts_filled bytes k from zero e = tt
parts_filled bytes k from (suc more) e =
    let f = first_fits bytes k from more e in
    (omega (arith, part_length bytes k from more e, f.0.some), parts_filled bytes (k + 1) (from + size_of bytes k) more f.1)

-- they fill the file from the offset on
pub parts_contents : (bytes : List ℕ) (k from more : ℕ) → pairs_answer bytes k from (suc more) ≡ Ok tt → contents (parts bytes k (suc more)) ≡ drop from bytes
parts_contents bytes k from zero e =
    let f = (first_fits bytes k from 0 e).0 in
    append-nil _ ∙ ap (λ o. take (size_of bytes k) (drop o bytes)) f.offset ∙ take_all (size_of bytes k) (drop from bytes) (simp length-drop (omega (arith, eqb-true (from + size_of bytes k) (length bytes) f.ends)))
parts_contents bytes k from (suc more) e =
    let f = first_fits bytes k from (suc more) e in
    let size = size_of bytes k in
    ap (λ o. take size (drop o bytes) ++ contents (parts bytes (k + 1) (suc more))) f.0.offset
    ∙ ap (λ t. take size (drop from bytes) ++ t) (parts_contents bytes (k + 1) (from + size) more f.1 ∙ sym (drop-drop size from bytes))
    ∙ take-append-drop size (drop from bytes)

-- their directory is the file's
pub parts_directory : (bytes : List ℕ) (k from more : ℕ) → AllByRecursion Byte bytes → pairs_answer bytes k from more ≡ Ok tt → directory from (parts bytes k more) ++ drop (8 + 8 * (k + more)) bytes ≡ drop (8 + 8 * k) bytes
parts_directory bytes k from zero all e = let z : 8 + 8 * (k + 0) ≡ 8 + 8 * k = omega arith in ap (λ i. drop i bytes) z
parts_directory bytes k from (suc more) all e =
    let f = first_fits bytes k from more e in
    let size = size_of bytes k in
    let rs = parts bytes (k + 1) more in
    let past : 8 + 8 * (k + suc more) ≡ 8 + 8 * (k + 1 + more) = omega arith in
    let next : 8 + 8 * (k + 1) ≡ 8 + 8 * k + 4 + 4 = omega arith in
    ap (λ n. word_bytes from ++ (word_bytes n ++ (directory (from + n) rs ++ drop (8 + 8 * (k + suc more)) bytes))) (part_length bytes k from more e)
    ∙ ap (λ t. word_bytes from ++ (word_bytes size ++ t)) (ap (λ i. directory (from + size) rs ++ drop i bytes) past ∙ parts_directory bytes (k + 1) (from + size) more all f.1)
    ∙ ap (λ t. word_bytes from ++ t) (ap (λ i. word_bytes size ++ drop i bytes) next ∙ word_here bytes (8 + 8 * k + 4) all (omega (arith, f.0.whole)))
    ∙ ap (λ o. word_bytes o ++ drop (8 + 8 * k + 4) bytes) (sym f.0.offset)
    ∙ word_here bytes (8 + 8 * k) all (omega (arith, f.0.whole))
