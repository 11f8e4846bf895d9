-- What one more digit of a number word does.
use Rattle.std.proofs.Common.{◌≡◌, ℕ, ◌+◌, ◌-◌, ◌*◌, ◌^◌, ◌<◌, ◌≤◌, true, false, ◌&&◌, leb, List, length, get_or, drop, Some, None, sym, ap, ◌∙◌, arith, pow-add}
use native.Mathlib.Nat.{pow-le-pow_right}
use Rattle.std.specs.Str.Parse.{digits_value, digits_value_after}
use Rattle.std.specs.Char.{digit_value, is_ascii_digit}
use Rattle.std.specs.Int.{IsInRange}
use Rattle.std.specs.Str.{all_ascii_digits}
use Rattle.std.proofs.lemmas.List.{at_drop_more}
use Rattle.std.proofs.lemmas.Bool.{and_from, and_right, and_parts, cond-true, cond-false, leb-true, le-ltb, lt-ltb}
use Rattle.texts.specs.Numbers.{shaped, number_word, numeral}

digit_value_lem : (b : ℕ) → IsInRange 48 57 b → digit_value b ≡ b - 48
digit_value_lem b p = let low = le-ltb b 48 p.0 in let high = lt-ltb b 58 (omega (arith, p.1)) in rw (low, high)

pub more_value : (w : List ℕ) (i n : ℕ) → i < length w → IsInRange 48 57 (get_or w i 0) → digits_value_after 10 n (drop i w) ≡ digits_value_after 10 (n * 10 + (get_or w i 0 - 48)) (drop (i + 1) w)
more_value w i n h p = at_drop_more (digits_value_after 10 n) w i 0 h ∙ ap (λ d. digits_value_after 10 (n * 10 + d) (drop (i + 1) w)) (digit_value_lem (get_or w i 0) p)

pub more_digits : (w : List ℕ) (i : ℕ) → i < length w → is_ascii_digit (get_or w i 0) ≡ true → all_ascii_digits (drop i w) ≡ all_ascii_digits (drop (i + 1) w)
more_digits w i h p = at_drop_more all_ascii_digits w i 0 h ∙ ap (λ t. t && all_ascii_digits (drop (i + 1) w)) p

pub no_digit : (w : List ℕ) (i : ℕ) → i < length w → is_ascii_digit (get_or w i 0) ≡ false → all_ascii_digits (drop i w) ≡ false
no_digit w i h p = at_drop_more all_ascii_digits w i 0 h ∙ ap (λ t. t && all_ascii_digits (drop (i + 1) w)) p

pub more_bound : (n d i : ℕ) → n < 10 ^ i → d < 10 → n * 10 + d < 10 ^ (i + 1)
more_bound n d i h l = omega (arith, pow-add 10 i 1)

pub small : (n i : ℕ) → n < 10 ^ i → i < 9 → n < 100000000
small n i h l = let p : i ≤ 8 = omega arith in let q : 10 ^ i ≤ 10 ^ 8 = pow-le-pow_right {n = 10} (omega arith) p in omega arith

pub no_number : (w : List ℕ) → all_ascii_digits w ≡ false → None ≡ numeral w
no_number w e = sym (cond-false (number_word w) _ _ (and_right (shaped w) (all_ascii_digits w) e))

pub a_number : (w : List ℕ) (n : ℕ) → shaped w ≡ true → all_ascii_digits w ≡ true → n ≡ digits_value 10 w → Some n ≡ numeral w
a_number w n shape digits e = ap (λ k. Some k) e ∙ sym (cond-true (number_word w) _ _ (and_from (shaped w) (all_ascii_digits w) shape digits))

pub few_digits : (w : List ℕ) → shaped w ≡ true → length w ≤ 9
few_digits w e =
    leb-true (length w) 9 (and_parts (leb (length w) 9) _ (and_parts (leb 1 (length w)) _ e).1).0
