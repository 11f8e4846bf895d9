-- The words of a part of the record, as the library reads them, are the record's.
use Rattle.std.proofs.Common.{◌≡◌, ℕ, zero, suc, ◌+◌, ◌*◌, ◌<◌, List, length, get_or, take, drop, sym, refl, ap, ◌∙◌, ap₂, arith}
use Rattle.std.proofs.lemmas.List.{get_or-drop, get_or-take}
use Rattle.std.proofs.lemmas.List.FromFn.{fill_by_all}
use Rattle.byteorder.specs.Endian.{little_from, little_number}
use Rattle.leaf.specs.Record.{little, words}

number_is : (xs bytes : List ℕ) (i at size : ℕ) → ((j : ℕ) → j < size → get_or xs (i + j) 0 ≡ get_or bytes (at + j) 0) → little_from i size xs ≡ little bytes at size
unfolding little
number_is xs bytes i at zero same = refl
number_is xs bytes i at (suc size) same =
    let here : (i + 0 ≡ i) × (at + 0 ≡ at) = (omega arith, omega arith) in
    ap₂ (λ x y. x + 256 * y) (ap (λ k. get_or xs k 0) (sym here.0) ∙ same 0 (omega arith) ∙ ap (λ k. get_or bytes k 0) here.1) (number_is xs bytes (suc i) (at + 1) size later)
  where
    later : (j : ℕ) → j < size → get_or xs (suc i + j) 0 ≡ get_or bytes (at + 1 + j) 0
    later j lt =
        let x : suc i + j ≡ i + suc j = omega arith in
        let y : at + suc j ≡ at + 1 + j = omega arith in
        ap (λ k. get_or xs k 0) x ∙ same (suc j) (omega arith) ∙ ap (λ k. get_or bytes k 0) y

pub words_read : (bytes xs : List ℕ) (at n : ℕ) → length xs ≡ n → ((k : ℕ) → k < n → get_or xs k 0 ≡ little_number 8 (drop (8 * k) (take (8 * n) (drop at bytes)))) → xs ≡ words bytes at n
words_read bytes xs at n long each =
    fill_by_all (λ k. little bytes (at + 8 * k) 8) xs n 0 long (λ k lt. each k lt ∙ number_is (drop (8 * k) (take (8 * n) (drop at bytes))) bytes 0 (at + 8 * k) 8 (byte k lt))
  where
    byte : (k : ℕ) → k < n → (j : ℕ) → j < 8 → get_or (drop (8 * k) (take (8 * n) (drop at bytes))) (0 + j) 0 ≡ get_or bytes (at + 8 * k + j) 0
    byte k lt j low =
        let place : at + (8 * k + (0 + j)) ≡ at + 8 * k + j = omega arith in
        get_or-drop (8 * k) (take (8 * n) (drop at bytes)) (0 + j) 0
        ∙ get_or-take (8 * n) (drop at bytes) (8 * k + (0 + j)) 0 (omega arith)
        ∙ get_or-drop at bytes (8 * k + (0 + j)) 0
        ∙ ap (λ i. get_or bytes i 0) place
