-- Lemmas on `count` and `total`: how often a number stands in a list, and sums over lists.
use Rattle.std.proofs.Common.{◌≡◌, ℕ, zero, suc, ◌+◌, ◌*◌, ◌≤◌, cond, eqb, List, [], ◌∷◌, ◌++◌, length, sym, refl, ap, ◌∙◌, ⊎_elim, add-mul, one-mul, zero-mul, arith}
use Rattle.std.proofs.lemmas.Bool.{cases_eq, eq-eqb, ne_eqb, cond-true, cond-false}
use Rattle.std.specs.List.{AllByRecursion}
use Rattle.routing.specs.Routes.{count, total}

pub count_append : (c : ℕ) (xs ys : List ℕ) → count c (xs ++ ys) ≡ count c xs + count c ys
count_append c [] ys = omega arith
count_append c (x ∷ xs) ys = omega (arith, count_append c xs ys)

pub count_same : (c : ℕ) (xs : List ℕ) → count c (c ∷ xs) ≡ count c xs + 1
count_same c xs = omega (arith, cond-true {A = ℕ} (eqb c c) 1 0 (eq-eqb c c refl))

pub count_other : (c x : ℕ) (xs : List ℕ) → (c ≡ x → ⊥) → count c (x ∷ xs) ≡ count c xs
count_other c x xs apart = omega (arith, cond-false {A = ℕ} (eqb c x) 1 0 (ne_eqb c x apart))

pub count_push_same : (c : ℕ) (xs : List ℕ) → count c (xs ++ (c ∷ [])) ≡ count c xs + 1
count_push_same c xs = omega (arith, count_append c xs (c ∷ []), count_same c [])

pub count_push_other : (c x : ℕ) (xs : List ℕ) → (c ≡ x → ⊥) → count c (xs ++ (x ∷ [])) ≡ count c xs
count_push_other c x xs apart = omega (arith, count_append c xs (x ∷ []), count_other c x [] apart)

pub total_append : {X : Type 0} (f : X → ℕ) (xs ys : List X) → total f (xs ++ ys) ≡ total f xs + total f ys
total_append f [] ys = omega arith
total_append f (x ∷ xs) ys = omega (arith, total_append f xs ys)

-- the sum of f over 1 to n
abbrev pub upto : (ℕ → ℕ) → ℕ → ℕ
upto f zero = 0
upto f (suc n) = upto f n + f (suc n)

pub upto_same : (f g : ℕ → ℕ) (n : ℕ) → ((c : ℕ) → 1 ≤ c → c ≤ n → f c ≡ g c) → upto f n ≡ upto g n
upto_same f g zero same = refl
upto_same f g (suc n) same = omega (arith, upto_same f g n (λ c low high. same c low (omega arith)), same (suc n) (omega arith) (omega arith))

upto_add : (f g : ℕ → ℕ) (n : ℕ) → upto (λ c. f c + g c) n ≡ upto f n + upto g n
upto_add f g zero = refl
upto_add f g (suc n) = omega (arith, upto_add f g n)

upto_none : (f : ℕ → ℕ) (n : ℕ) → ((c : ℕ) → 1 ≤ c → c ≤ n → f c ≡ 0) → upto f n ≡ 0
upto_none f zero none = refl
upto_none f (suc n) none = omega (arith, upto_none f n (λ c low high. none c low (omega arith)), none (suc n) (omega arith) (omega arith))

-- f at x alone
at_one : (ℕ → ℕ) → ℕ → ℕ → ℕ
at_one f x c = cond (eqb c x) 1 0 * f c

at_one_same : (f : ℕ → ℕ) (x : ℕ) → at_one f x x ≡ f x
unfolding at_one
at_one_same f x = ap (λ k. k * f x) (cond-true {A = ℕ} (eqb x x) 1 0 (eq-eqb x x refl)) ∙ one-mul (f x)

at_one_other : (f : ℕ → ℕ) (x c : ℕ) → (c ≡ x → ⊥) → at_one f x c ≡ 0
unfolding at_one
at_one_other f x c apart = ap (λ k. k * f c) (cond-false {A = ℕ} (eqb c x) 1 0 (ne_eqb c x apart)) ∙ zero-mul (f c)

upto_one : (f : ℕ → ℕ) (x n : ℕ) → 1 ≤ x → x ≤ n → upto (at_one f x) n ≡ f x
upto_one f x zero low high = absurd (omega arith)
upto_one f x (suc n) low high =
    ⊎_elim
    (λ same. omega (arith, upto_none (at_one f x) n (λ c a b. at_one_other f x c (λ e. omega arith)), ap (at_one f x) (sym same) ∙ at_one_same f x))
    (λ apart. omega (arith, upto_one f x n low (omega (arith, apart)), at_one_other f x (suc n) (λ e. apart (sym e))))
    (cases_eq x (suc n))

-- a sum over customers, taken customer by customer
pub total_upto : (f : ℕ → ℕ) (n : ℕ) (xs : List ℕ) → AllByRecursion (λ c. (1 ≤ c) × (c ≤ n)) xs → total f xs ≡ upto (λ c. count c xs * f c) n
unfolding at_one
total_upto f n [] all = sym (upto_none (λ c. 0 * f c) n (λ c low high. zero-mul (f c)))
total_upto f n (x ∷ xs) all =
    omega (
      arith,
      upto_same (λ c. count c (x ∷ xs) * f c) (λ c. at_one f x c + count c xs * f c) n (λ c low high. add-mul (cond (eqb c x) 1 0) (count c xs) (f c)),
      upto_add (at_one f x) (λ c. count c xs * f c) n,
      upto_one f x n all.0.0 all.0.1,
      total_upto f n xs all.1,
    )

-- where each customer stands once
pub total_once : (f : ℕ → ℕ) (n : ℕ) (xs : List ℕ) → AllByRecursion (λ c. (1 ≤ c) × (c ≤ n)) xs → ((c : ℕ) → 1 ≤ c → c ≤ n → count c xs ≡ 1) → total f xs ≡ upto f n
total_once f n xs all once =
    total_upto f n xs all ∙ upto_same (λ c. count c xs * f c) f n (λ c low high. ap (λ k. k * f c) (once c low high) ∙ one-mul (f c))

pub total_ones : {X : Type 0} (xs : List X) → total (λ _. 1) xs ≡ length xs
total_ones [] = refl
total_ones (x ∷ xs) = omega (arith, total_ones xs)

upto_ones : (n : ℕ) → upto (λ _. 1) n ≡ n
upto_ones zero = refl
upto_ones (suc n) = omega (arith, upto_ones n)

-- as many as there are customers
pub length_once : (n : ℕ) (xs : List ℕ) → AllByRecursion (λ c. (1 ≤ c) × (c ≤ n)) xs → ((c : ℕ) → 1 ≤ c → c ≤ n → count c xs ≡ 1) → length xs ≡ n
length_once n xs all once = sym (total_ones xs) ∙ total_once (λ _. 1) n xs all once ∙ upto_ones n
