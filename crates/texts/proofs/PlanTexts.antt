-- A listing's text is its numbers written out.
use Rattle.std.proofs.Common.{◌≡◌, ℕ, zero, suc, ◌≤◌, List, [], ◌∷◌, map, length, Ok, Err, decimal, Result, refl, ap, ◌∙◌, subst, arith}
use Rattle.std.specs.List.{AllByRecursion}
use Rattle.texts.specs.declared.faults.TextFault.{TextFault}
use Rattle.texts.specs.Tokens.{ahead, words}
use Rattle.texts.specs.Numbers.{numeral, within}
use Rattle.texts.specs.Plans.{listed, listing_judged}
use Rattle.texts.specs.Written.{PlansAsWritten}
use Rattle.texts.proofs.Spelling.{word_is_decimal, decimal_is_word, within_is, in_bounds}

pub record Listed (a : Result ℕ TextFault) (b : Result (List ℕ) TextFault) (ns : List ℕ) : Type 0 where
  pub first : ℕ
  pub rest : List ℕ
  pub first_is : a ≡ Ok first
  pub rest_is : b ≡ Ok rest
  pub both : first ∷ rest ≡ ns

listed_is : (a : Result ℕ TextFault) (b : Result (List ℕ) TextFault) (ns : List ℕ) → listed a b ≡ Ok ns → Listed a b ns
listed_is (Err f) b ns e = absurd (cc)
listed_is (Ok n) (Err f) ns e = absurd (cc)
listed_is (Ok n) (Ok ms) ns e = record { first = n; rest = ms; first_is = refl; rest_is = refl; both = cc }

pub record Spelt (most : ℕ) (ws : List (ℕ × List ℕ)) (ns : List ℕ) : Type 0 where
  pub words : map (λ (w : ℕ × List ℕ). w.1) ws ≡ map decimal ns
  pub few : length ns ≤ most
  pub small : AllByRecursion (λ n. n ≤ 255) ns

sound : (most : ℕ) (ws : List (ℕ × List ℕ)) (ns : List ℕ) → listing_judged most ws ≡ Ok ns → Spelt most ws ns
sound most [] ns e = let z : [] ≡ ns = cc in subst (Spelt most []) z (record { words = refl; few = omega arith; small = tt })
sound zero (w ∷ ws) ns e = absurd (cc)
sound (suc most) (w ∷ ws) ns e =
    let l = listed_is (within 0 255 w.0 (numeral w.1)) (listing_judged most ws) ns e in
    let n = within_is 0 255 w.0 (numeral w.1) l.first l.first_is in
    let more = sound most ws l.rest l.rest_is in
    subst (Spelt (suc most) (w ∷ ws)) l.both (record {
      words = (λ i. word_is_decimal w.1 l.first n.0 i ∷ more.words i);
      few = omega (arith, more.few);
      small = (n.2, more.small);
    })

complete : (most : ℕ) (ws : List (ℕ × List ℕ)) (ns : List ℕ) → Spelt most ws ns → listing_judged most ws ≡ Ok ns
complete most [] [] s = refl
complete most [] (n ∷ ns) s = let e = s.words in absurd (cc)
complete most (w ∷ ws) [] s = let e = s.words in absurd (cc)
complete zero (w ∷ ws) (n ∷ ns) s = absurd (omega (arith, s.few))
complete (suc most) (w ∷ ws) (n ∷ ns) s =
    let e = s.words in
    let first : w.1 ≡ decimal n = cc in
    let rest : map (λ (v : ℕ × List ℕ). v.1) ws ≡ map decimal ns = cc in
    let low : n ≤ 255 = s.small.0 in
    let more = complete most ws ns (record { words = rest; few = omega (arith, s.few); small = s.small.1 }) in
    (λ i. listed (within 0 255 w.0 ((ap numeral first ∙ decimal_is_word n (omega arith)) i)) (more i))
    ∙ ap (λ r. listed r (Ok ns)) (in_bounds 0 255 w.0 n (omega arith) low)

pub plans_as_written : (text : List ℕ) → PlansAsWritten text
plans_as_written text ns = (
  λ e. let s = sound 120 (words (ahead text 0)) ns e in record { words = s.words; few = s.few; small = s.small },
  λ t. complete 120 (words (ahead text 0)) ns (record { words = t.words; few = t.few; small = t.small }),
)
