-- Number words and the decimals that numbers are written in.
use Rattle.std.proofs.Common.{◌≡◌, ℕ, zero, suc, ◌^◌, ◌<◌, ◌≤◌, Bool, true, false, cond, not, ◌&&◌, ◌||◌, eqb, leb, ◌⊎◌, List, length, get_or, Some, None, Ok, Err, decimal, Option, Result, sym, refl, ap, ◌∙◌, inl, inr, ⊎_elim, arith}
use Rattle.std.specs.Str.Parse.{digits_value}
use Rattle.std.specs.Str.{all_ascii_digits}
use Rattle.std.proofs.lemmas.Str.Parse.{IsNumeralModel, numerals_by_value, tells_all_ascii_digits, digits_value_short}
use Rattle.std.proofs.lemmas.Fmt.{digits_decimal, digits_value-decimal, decimal-digits_value, length-decimal-le, first_decimal, decimal_nonempty, decimal_digit}
use Rattle.std.proofs.lemmas.Bool.{and_from, and_parts, cond-true, leb-true, le-leb, eqb-true, eqb-false, eq-eqb, ne_eqb, or_left, or_right, or_cases, not_from_false, not-true}
use Rattle.texts.specs.declared.faults.TextFault.TheVariants.{Range}
use Rattle.texts.specs.Numbers.{shaped, number_word, numeral, within}

pub own : IsNumeralModel (λ ds. all_ascii_digits ds ≡ true) (digits_value 10)
own = numerals_by_value (λ ds. all_ascii_digits ds ≡ true) tells_all_ascii_digits

-- what a test grants
pub granted_if : {X F : Type 0} (b : Bool) (x : Result X F) (f : F) (y : X) → cond b x (Err f) ≡ Ok y → (b ≡ true) × (x ≡ Ok y)
granted_if true x f y e = (refl, e)
granted_if false x f y e = absurd (cc)

some_if : {X : Type 0} (b : Bool) (x y : X) → cond b (Some x) None ≡ Some y → (b ≡ true) × (x ≡ y)
some_if true x y e = (refl, cc)
some_if false x y e = absurd (cc)

pub numeral_is : (w : List ℕ) (n : ℕ) → numeral w ≡ Some n → (number_word w ≡ true) × (digits_value 10 w ≡ n)
numeral_is w n e = some_if (number_word w) (digits_value 10 w) n e

-- a number word is its number's decimal
pub word_is_decimal : (w : List ℕ) (n : ℕ) → numeral w ≡ Some n → w ≡ decimal n
word_is_decimal w n e =
    let p = numeral_is w n e in
    let q = and_parts (shaped w) (all_ascii_digits w) p.0 in
    let s = and_parts (leb 1 (length w)) _ q.0 in
    let t = and_parts (leb (length w) 9) _ s.1 in
    let few = leb-true (length w) 9 t.0 in
    let some = leb-true 1 (length w) s.0 in
    let short = digits_value_short own w 9 q.1 few in
    let plain : get_or w 0 0 ≡ 48 → length w ≡ 1 = λ z. ⊎_elim (λ a. eqb-true (length w) 1 a) (λ b. absurd (eqb-false (get_or w 0 0) 48 (not-true _ b) z)) (or_cases (eqb (length w) 1) _ t.1) in
    sym (decimal-digits_value own w q.1 (omega arith) plain (omega arith)) ∙ ap decimal p.1

-- a number's decimal is a number word
pub decimal_is_word : (n : ℕ) → n < 1000000000 → numeral (decimal n) ≡ Some n
decimal_is_word n h =
    let fits : n < 2 ^ 64 = omega arith in
    let w = decimal n in
    let some = decimal_nonempty n fits in
    let few = length-decimal-le 9 n (omega arith) h fits in
    let lead : (eqb (length w) 1 || not (eqb (get_or w 0 0) 48)) ≡ true =
    (⊎_elim
    (λ z. or_left (eqb (length w) 1) _ (eq-eqb (length w) 1 (ap length (decimal_digit n (omega arith)))))
    (λ z. or_right (eqb (length w) 1) (not (eqb (get_or w 0 0) 48)) (not_from_false _ (ne_eqb (get_or w 0 0) 48 (λ e. absurd (omega (arith, first_decimal n z fits))))))
    (low n)) in
    cond-true (number_word w) (Some (digits_value 10 w)) None
    (and_from (shaped w) (all_ascii_digits w) (and_from (leb 1 (length w)) _ (le-leb 1 (length w) (omega arith)) (and_from (leb (length w) 9) _ (le-leb (length w) 9 few) lead)) (digits_decimal own n fits))
    ∙ ap (λ k. Some k) (digits_value-decimal own n fits)
  where
    low : (n : ℕ) → (n ≡ 0) ⊎ (0 < n)
    low zero = inl refl
    low (suc n) = inr (omega arith)

pub within_is : (low high at : ℕ) (o : Option ℕ) (n : ℕ) → within low high at o ≡ Ok n → (o ≡ Some n) × (low ≤ n) × (n ≤ high)
within_is low high at None n e = absurd (cc)
within_is low high at (Some m) n e =
    let p = granted_if (leb low m && leb m high) (Ok m) (Range at) n e in
    let same : m ≡ n = cc p.1 in
    let q = and_parts (leb low m) (leb m high) p.0 in
    (ap (λ k. Some k) same, omega (arith, leb-true low m q.0), omega (arith, leb-true m high q.1))

pub in_bounds : (low high at n : ℕ) → low ≤ n → n ≤ high → within low high at (Some n) ≡ Ok n
in_bounds low high at n l h = cond-true (leb low n && leb n high) _ _ (and_from (leb low n) (leb n high) (le-leb low n l) (le-leb n high h))
