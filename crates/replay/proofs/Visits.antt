-- A listing of routes visits every customer once exactly where nothing is found repeated or missing.
use Rattle.std.proofs.Common.{◌≡◌, ℕ, zero, suc, ◌+◌, ◌<◌, ◌≤◌, false, ◌&&◌, ltb, List, [], ◌∷◌, ◌++◌, None, sym, refl, ap, ◌∙◌, ⊎_elim, arith}
use Rattle.std.proofs.lemmas.Bool.{cases_eq, cases_lt, cond-false, ne_eqb, eqb-false, ltb-false, le-ltb, and_cases, and_right}
use Rattle.std.specs.List.{AllByRecursion}
use Rattle.routing.specs.Routes.{count, visits}
use Rattle.routing.proofs.Counts.{count_append, count_same, count_other, count_push_same, count_push_other}
use Rattle.replay.specs.Listing.{written, repeated, missing}
use Rattle.replay.proofs.Formed.{unfound}

-- nothing is repeated: every customer stands at most once, before and here
pub at_most_once : (before : List ℕ) (k : ℕ) (l : List ℕ) → repeated before k l ≡ None → (c : ℕ) → 1 ≤ c → count c before ≤ 1 → count c before + count c l ≤ 1
at_most_once before k [] e c some le = omega arith
at_most_once before k (j ∷ l) e c some le =
    let u = unfound _ _ _ e in
    ⊎_elim
    (λ same.
    let none : count j before ≡ 0 = ⊎_elim (λ f. absurd (let z = ltb-false 0 j f in omega arith)) (λ f. let z = ltb-false 0 (count j before) f in omega arith) (and_cases _ _ u.0) in
    let here : count c before ≡ count j before = ap (λ x. count x before) same in
    let pushed = ap (λ x. count c (before ++ (x ∷ []))) (sym same) ∙ count_push_same c before in
    let first = ap (λ x. count c (x ∷ l)) (sym same) ∙ count_same c l in
    omega (arith, at_most_once (before ++ (j ∷ [])) (k + 1) l u.1 c some (omega arith)))
    (λ apart.
    let pushed = count_push_other c j before apart in
    let first = count_other c j l apart in
    omega (arith, at_most_once (before ++ (j ∷ [])) (k + 1) l u.1 c some (omega arith)))
    (cases_eq c j)

pub never_repeated : (before : List ℕ) (k : ℕ) (l : List ℕ) → ((c : ℕ) → 1 ≤ c → count c before + count c l ≤ 1) → repeated before k l ≡ None
never_repeated before k [] once = refl
never_repeated before k (j ∷ l) once =
    cond-false _ _ _ new ∙ never_repeated (before ++ (j ∷ [])) (k + 1) l (λ c some. omega (arith, once c some, count_append c before (j ∷ [])))
  where
    new : (ltb 0 j && ltb 0 (count j before)) ≡ false
    new = ⊎_elim (λ some. and_right _ _ (le-ltb 0 (count j before) (omega (arith, once j some, count_same j l)))) (λ none. ap (λ b. b && ltb 0 (count j before)) (le-ltb 0 j none)) (cases_lt 0 j)

pub none_missing : (l : List ℕ) (c more : ℕ) → missing l c more ≡ None → (x : ℕ) → c ≤ x → x < c + more → 1 ≤ count x l
none_missing l c zero e x low high = absurd (omega arith)
none_missing l c (suc more) e x low high =
    let u = unfound _ _ _ e in
    ⊎_elim
    (λ same. let some = eqb-false (count c l) 0 u.0 in let here : count x l ≡ count c l = ap (λ y. count y l) same in omega (arith, some))
    (λ apart. none_missing l (c + 1) more u.1 x (omega (arith, apart)) (omega arith))
    (cases_eq x c)

pub never_missing : (l : List ℕ) (c more : ℕ) → ((x : ℕ) → c ≤ x → x < c + more → 1 ≤ count x l) → missing l c more ≡ None
never_missing l c zero all = refl
never_missing l c (suc more) all =
    let here = all c (omega arith) (omega arith) in
    cond-false _ _ _ (ne_eqb (count c l) 0 (λ e. omega arith)) ∙ never_missing l (c + 1) more (λ x low high. all x (omega arith) (omega arith))

-- the zeros of a listing are no customers
pub count_written : (c : ℕ) → 1 ≤ c → (routes : List (List ℕ)) → count c (written routes) ≡ count c (visits routes)
count_written c some [] = refl
count_written c some (route ∷ routes) =
    omega (arith, count_append c (route ++ (0 ∷ [])) (written routes), count_push_other c 0 route (λ e. omega arith), count_append c route (visits routes), count_written c some routes)

pub count_none : (c : ℕ) (xs : List ℕ) → AllByRecursion (λ x. c ≡ x → ⊥) xs → count c xs ≡ 0
count_none c [] all = refl
count_none c (x ∷ xs) all = count_other c x xs all.0 ∙ count_none c xs all.1
