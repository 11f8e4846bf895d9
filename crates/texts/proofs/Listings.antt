-- A listing, one word at a time.
use Rattle.std.proofs.Common.{◌≡◌, ℕ, suc, ◌-◌, ◌<◌, List, [], ◌∷◌, ◌++◌, length, Ok, Err, Result, sym, refl, ap, ◌∙◌, append_assoc, arith}
use Rattle.std.proofs.lemmas.List.{length-append}
use Rattle.texts.specs.declared.faults.TextFault.{TextFault}
use Rattle.texts.specs.Numbers.{numeral, within}
use Rattle.texts.specs.Plans.{listed, listing_judged}

-- numbers read before, put in front
abbrev pub in_front : List ℕ → Result (List ℕ) TextFault → Result (List ℕ) TextFault
in_front ns (Ok ms) = Ok (ns ++ ms)
in_front ns (Err f) = Err f

-- these numbers are read, and these words are left
pub record SoFar (all : Result (List ℕ) TextFault) (numbers : List ℕ) (ws : List (ℕ × List ℕ)) : Type 0 where
  pub so : all ≡ in_front numbers (listing_judged (120 - length numbers) ws)

next_in_front : (ns : List ℕ) (n : ℕ) (r : Result (List ℕ) TextFault) → in_front ns (listed (Ok n) r) ≡ in_front (ns ++ (n ∷ [])) r
next_in_front ns n (Ok ms) = ap (λ l. Ok l) (sym (append_assoc ns (n ∷ []) ms))
next_in_front ns n (Err f) = refl

-- the next word is a number, and there is room for it
pub one_more : (all : Result (List ℕ) TextFault) (ns : List ℕ) (w : ℕ × List ℕ) (ws : List (ℕ × List ℕ)) (n : ℕ) → SoFar all ns (w ∷ ws) → length ns < 120 → Ok n ≡ within 0 255 w.0 (numeral w.1) → SoFar all (ns ++ (n ∷ [])) ws
one_more all ns w ws n s room e =
    let left : 120 - length ns ≡ suc (120 - length (ns ++ (n ∷ []))) = omega (arith, length-append ns (n ∷ [])) in
    record {
      so = s.so ∙ ap (λ k. in_front ns (listing_judged k (w ∷ ws))) left
          ∙ ap (λ a. in_front ns (listed a (listing_judged (120 - length (ns ++ (n ∷ []))) ws))) (sym e)
          ∙ next_in_front ns n (listing_judged (120 - length (ns ++ (n ∷ []))) ws);
    }
