-- Reading fields of one kind one after another: what a loop that stores each has come to.
use Rattle.std.proofs.Common.{◌≡◌, ℕ, suc, ◌+◌, ◌-◌, ◌*◌, ◌<◌, ◌≤◌, List, [], ◌∷◌, ◌++◌, length, take, set, Ok, Err, Result, sym, refl, ap, ◌∙◌, append_assoc, append-nil, arith}
use Rattle.std.proofs.lemmas.List.{take_all, take_more_set}
use Rattle.leaf.specs.declared.faults.LeafFault.{LeafFault}
use Rattle.leaf.specs.Fields.{after, read_each}

-- what is read, behind what has been
abbrev with_front : {X : Type 0} → List X → Result (List X) LeafFault → Result (List X) LeafFault
with_front front r = after r λ xs. Ok (front ++ xs)

front_more : {X : Type 0} (front : List X) (x : X) (r : Result (List X) LeafFault) → with_front front (after r λ xs. Ok (x ∷ xs)) ≡ with_front (front ++ (x ∷ [])) r
front_more front x (Ok xs) = ap Ok (sym (append_assoc front (x ∷ []) xs))
front_more front x (Err f) = refl

module _ {X : Type 0} (read : ℕ → Result X LeafFault) (at size n : ℕ) where
  -- the first k are stored, and what is left gives the whole
  abbrev pub ReadSoFar : ℕ → List X → Type 0
  ReadSoFar k xs = with_front (take k xs) (read_each read (at + size * k) size (n - k)) ≡ read_each read at size n

  step : (k : ℕ) → k < n → read_each read (at + size * k) size (n - k) ≡ after (read (at + size * k)) (λ x. after (read_each read (at + size * (k + 1)) size (n - (k + 1))) λ xs. Ok (x ∷ xs))
  step k lt =
      let one : n - k ≡ suc (n - (k + 1)) = omega arith in
      let next : at + size * k + size ≡ at + size * (k + 1) = omega arith in
      ap (read_each read (at + size * k) size) one ∙ ap (λ i. after (read (at + size * k)) (λ x. after (read_each read i size (n - (k + 1))) λ xs. Ok (x ∷ xs))) next

  pub read_more : (xs : List X) (k : ℕ) (x : X) → k < n → length xs ≡ n → read (at + size * k) ≡ Ok x → ReadSoFar k xs → ReadSoFar (k + 1) (set xs k x)
  read_more xs k x lt long is before =
      ap (λ front. with_front front (read_each read (at + size * (k + 1)) size (n - (k + 1)))) (take_more_set xs k x (omega arith))
      ∙ sym (front_more (take k xs) x _)
      ∙ ap (with_front (take k xs)) (sym (step k lt ∙ ap (λ r. after r (λ y. after (read_each read (at + size * (k + 1)) size (n - (k + 1))) λ ys. Ok (y ∷ ys))) is))
      ∙ before

  pub read_broken : (xs : List X) (k : ℕ) (f : LeafFault) → k < n → read (at + size * k) ≡ Err f → ReadSoFar k xs → read_each read at size n ≡ Err f
  read_broken xs k f lt is before =
      sym before ∙ ap (with_front (take k xs)) (step k lt ∙ ap (λ r. after r (λ y. after (read_each read (at + size * (k + 1)) size (n - (k + 1))) λ ys. Ok (y ∷ ys))) is)

  pub read_all : (xs : List X) (k : ℕ) → n ≤ k → length xs ≡ n → ReadSoFar k xs → read_each read at size n ≡ Ok xs
  read_all xs k end long before =
      let none : n - k ≡ 0 = omega arith in
      sym before ∙ ap (λ more. with_front (take k xs) (read_each read (at + size * k) size more)) none ∙ ap Ok (append-nil (take k xs) ∙ take_all k xs (omega arith))
