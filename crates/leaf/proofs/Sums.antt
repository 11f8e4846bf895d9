-- Sums of integers over lists: along appended lists, and over customers that each stand once.
use Rattle.std.proofs.Common.{◌≡◌, ℕ, zero, suc, ◌+◌, ◌-◌, ◌<◌, ◌≤◌, List, [], ◌∷◌, ◌++◌, length, drop, get_or, ℤ, pos, ◌+ℤ◌, refl, ap, ◌∙◌, arith}
use borrow.Author.Differences.{up, down}
use Rattle.std.proofs.lemmas.Int.{ints}
use Rattle.std.proofs.lemmas.List.{at_drop_more}
use Rattle.std.specs.List.{AllByRecursion}
use Rattle.routing.specs.Routes.{count, total}
use Rattle.routing.proofs.Counts.{upto, upto_same, total_once}
use Rattle.leaf.specs.Rule.{sum_z}

-- the sum of an integer over a list
abbrev pub total_z : {X : Type 0} → (X → ℤ) → List X → ℤ
total_z f [] = pos 0
total_z f (x ∷ xs) = f x +ℤ total_z f xs

pub totalZ_append : {X : Type 0} (f : X → ℤ) (xs ys : List X) → total_z f (xs ++ ys) ≡ total_z f xs +ℤ total_z f ys
totalZ_append f [] ys = omega (arith, ints)
totalZ_append f (x ∷ xs) ys = omega (arith, ints, totalZ_append f xs ys)

-- a sum of integers is the sum of what they have above zero less the sum of what they have below
totalZ_parts : {X : Type 0} (f : X → ℤ) (xs : List X) → up (total_z f xs) + total (λ x. down (f x)) xs ≡ down (total_z f xs) + total (λ x. up (f x)) xs
totalZ_parts f [] = omega arith
totalZ_parts f (x ∷ xs) = omega (arith, ints, totalZ_parts f xs)

sumZ_is : (xs : List ℤ) → sum_z xs ≡ total_z (λ x. x) xs
sumZ_is [] = refl
sumZ_is (x ∷ xs) = ap (λ s. x +ℤ s) (sumZ_is xs)

-- the sum of f over 1 to n + 1, its first number taken off
upto_first : (f : ℕ → ℕ) (n : ℕ) → upto f (suc n) ≡ f 1 + upto (λ c. f (suc c)) n
upto_first f zero = omega arith
upto_first f (suc n) = omega (arith, upto_first f n)

-- a sum over a list, element by element from 1 on
upto_getD : {X : Type 0} (f : X → ℕ) (d : X) (xs : List X) → upto (λ c. f (get_or xs (c - 1) d)) (length xs) ≡ total f xs
upto_getD f d [] = refl
upto_getD f d (x ∷ xs) =
    omega (
      arith,
      upto_first (λ c. f (get_or (x ∷ xs) (c - 1) d)) (length xs),
      upto_same (λ c. f (get_or (x ∷ xs) (suc c - 1) d)) (λ c. f (get_or xs (c - 1) d)) (length xs) shift,
      upto_getD f d xs,
    )
  where
    shift : (c : ℕ) → 1 ≤ c → c ≤ length xs → f (get_or (x ∷ xs) (suc c - 1) d) ≡ f (get_or xs (c - 1) d)
    shift c low high = let e : suc c - 1 ≡ suc (c - 1) = omega arith in ap (λ k. f (get_or (x ∷ xs) k d)) e

-- where each number from 1 to the list's length stands once
pub totalZ_once : (xs : List ℤ) (d : ℤ) (cs : List ℕ) → AllByRecursion (λ c. (1 ≤ c) × (c ≤ length xs)) cs → ((c : ℕ) → 1 ≤ c → c ≤ length xs → count c cs ≡ 1) → total_z (λ c. get_or xs (c - 1) d) cs ≡ sum_z xs
totalZ_once xs d cs all once =
    let above = total_once (λ c. up (get_or xs (c - 1) d)) (length xs) cs all once ∙ upto_getD up d xs in
    let below = total_once (λ c. down (get_or xs (c - 1) d)) (length xs) cs all once ∙ upto_getD down d xs in
    let here = totalZ_parts (λ c. get_or xs (c - 1) d) cs in
    let there = totalZ_parts (λ (x : ℤ). x) xs in
    omega (arith, ints, sumZ_is xs)

-- one dual more
pub sum_more : (xs : List ℤ) (k : ℕ) → k < length xs → sum_z (drop k xs) ≡ get_or xs k (pos 0) +ℤ sum_z (drop (k + 1) xs)
sum_more xs k lt = at_drop_more sum_z xs k (pos 0) lt
