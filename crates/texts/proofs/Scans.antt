-- What a step over the bytes in front does to the tokens.
use Rattle.std.proofs.Common.{◌≡◌, ℕ, ◌+◌, ◌≤◌, Bool, true, false, eqb, ◌⊎◌, List, [], ◌∷◌, length, take, drop, Err, sym, refl, ap, ◌∙◌, inl, inr, ⊎_elim, add-zero, add_assoc, one-add, arith}
use Rattle.std.specs.List.{prefix_len}
use Rattle.std.proofs.lemmas.Bool.{cases_Bool, or_parts, not-true, not-false, eqb-true, or_cases, or_from, not_from_true, not_from_false, ne_eqb, eqb-false, cond-true, cond-false}
use Rattle.texts.specs.declared.faults.TextFault.TheVariants.{Count}
use Rattle.texts.specs.Judging.{first_word}
use Rattle.texts.specs.Tokens.{Token, word, feed, space, blank, letter, front, tokens, words}

pub past_space : (inside : Bool) (at b : ℕ) (bs : List ℕ) → b ≡ 32 → tokens inside at (b ∷ bs) ≡ tokens false (at + 1) bs
past_space inside at b bs e = rw e

pub past_feed : (inside : Bool) (at b : ℕ) (bs : List ℕ) → b ≡ 10 → tokens inside at (b ∷ bs) ≡ feed at ∷ tokens false (at + 1) bs
past_feed inside at b bs e = rw e

letter_parts : (b : ℕ) → letter b ≡ true → (eqb b 32 ≡ false) × (eqb b 10 ≡ false)
letter_parts b h = or_parts (eqb b 32) (eqb b 10) (not-true (blank b) h)

blank_cases : (b : ℕ) → letter b ≡ false → (b ≡ 32) ⊎ (b ≡ 10)
blank_cases b h = ⊎_elim (λ e. inl (eqb-true b 32 e)) (λ e. inr (eqb-true b 10 e)) (or_cases (eqb b 32) (eqb b 10) (not-false (blank b) h))

pub in_word : (at b : ℕ) (bs : List ℕ) → letter b ≡ true → tokens true at (b ∷ bs) ≡ tokens true (at + 1) bs
in_word at b bs h = let p = letter_parts b h in let e = p.0 in let f = p.1 in rw (f, e)

pub at_word : (at b : ℕ) (bs : List ℕ) → letter b ≡ true → tokens false at (b ∷ bs) ≡ word at (front (b ∷ bs)) ∷ tokens true (at + 1) bs
at_word at b bs h = let p = letter_parts b h in let e = p.0 in let f = p.1 in rw (f, e)

pub is_letter : (b : ℕ) → (b ≡ 32 → ⊥) → (b ≡ 10 → ⊥) → letter b ≡ true
is_letter b s f = not_from_false (blank b) (or_from (eqb b 32) (eqb b 10) (ne_eqb b 32 s) (ne_eqb b 10 f))

same_outside : (at b : ℕ) (bs : List ℕ) → letter b ≡ false → tokens true at (b ∷ bs) ≡ tokens false at (b ∷ bs)
same_outside at b bs h =
    ⊎_elim (λ e. past_space true at b bs e ∙ sym (past_space false at b bs e)) (λ e. past_feed true at b bs e ∙ sym (past_feed false at b bs e)) (blank_cases b h)

-- the rest of a word is passed over
pub rest_of_word : (at : ℕ) (bs : List ℕ) → tokens true at bs ≡ tokens false (at + prefix_len letter bs) (drop (prefix_len letter bs) bs)
rest_of_word at [] = refl
rest_of_word at (b ∷ bs) =
    ⊎_elim
    (λ h. in_word at b bs h ∙ rest_of_word (at + 1) bs ∙ rw (h, add_assoc at 1 (prefix_len letter bs), one-add))
    (λ h. same_outside at b bs h ∙ sym (ap (λ k. tokens false (at + k) (drop k (b ∷ bs))) (cond-false (letter b) (1 + prefix_len letter bs) 0 h) ∙ ap (λ n. tokens false n (b ∷ bs)) (add-zero at)))
    (cases_Bool (letter b))

-- bytes that pass a test are passed over, where each changes nothing that is seen of the tokens
module _ {X : Type 0} (p : ℕ → Bool) (seen : List Token → X) (one : (at b : ℕ) (bs : List ℕ) → p b ≡ true → seen (tokens false at (b ∷ bs)) ≡ seen (tokens false (at + 1) bs)) where
  passed : (at : ℕ) (bs : List ℕ) → seen (tokens false (at + prefix_len p bs) (drop (prefix_len p bs) bs)) ≡ seen (tokens false at bs)
  passed at [] = refl
  passed at (b ∷ bs) =
      ⊎_elim
      (λ h. sym (one at b bs h ∙ sym (passed (at + 1) bs) ∙ rw (h, add_assoc at 1 (prefix_len p bs), one-add)))
      (λ h. ap (λ k. seen (tokens false (at + k) (drop k (b ∷ bs)))) (cond-false (p b) (1 + prefix_len p bs) 0 h) ∙ ap (λ n. seen (tokens false n (b ∷ bs))) (add-zero at))
      (cases_Bool (p b))

pub spaces_passed : (at n : ℕ) (bs : List ℕ) → n ≡ prefix_len space bs → tokens false (at + n) (drop n bs) ≡ tokens false at bs
spaces_passed at n bs e = ap (λ k. tokens false (at + k) (drop k bs)) e ∙ passed space (λ ts. ts) (λ at b bs h. past_space false at b bs (eqb-true b 32 h)) at bs

pub blanks_passed : (at n : ℕ) (bs : List ℕ) → n ≡ prefix_len blank bs → words (tokens false (at + n) (drop n bs)) ≡ words (tokens false at bs)
blanks_passed at n bs e =
    ap (λ k. words (tokens false (at + k) (drop k bs))) e
    ∙ passed blank words (λ at b bs h. ⊎_elim (λ s. ap words (past_space false at b bs s)) (λ f. ap words (past_feed false at b bs f)) (blank_cases b (not_from_true (blank b) h))) at bs

-- after the bytes that pass a test stands none that does
none_after : (p : ℕ → Bool) (bs : List ℕ) → prefix_len p (drop (prefix_len p bs) bs) ≡ 0
none_after p [] = refl
none_after p (b ∷ bs) =
    ⊎_elim
    (λ h. ap (λ k. prefix_len p (drop k (b ∷ bs))) (cond-true (p b) (1 + prefix_len p bs) 0 h ∙ one-add (prefix_len p bs)) ∙ none_after p bs)
    (λ h. ap (λ k. prefix_len p (drop k (b ∷ bs))) (cond-false (p b) (1 + prefix_len p bs) 0 h) ∙ cond-false (p b) (1 + prefix_len p bs) 0 h)
    (cases_Bool (p b))

pub none_passes : (p : ℕ → Bool) (n : ℕ) (bs : List ℕ) → n ≡ prefix_len p bs → prefix_len p (drop n bs) ≡ 0
none_passes p n bs e = ap (λ k. prefix_len p (drop k bs)) e ∙ none_after p bs

-- where none passes, the first byte does not
first_fails : (p : ℕ → Bool) (b : ℕ) (bs : List ℕ) → prefix_len p (b ∷ bs) ≡ 0 → p b ≡ false
first_fails p b bs e = ⊎_elim (λ h. absurd (omega (arith, sym (cond-true (p b) (1 + prefix_len p bs) 0 h) ∙ e))) (λ h. h) (cases_Bool (p b))

-- what is ahead where a word stands in front
pub word_found : (at n : ℕ) (bs : List ℕ) → n ≡ prefix_len letter bs → 1 ≤ n → tokens false at bs ≡ word at (take n bs) ∷ tokens false (at + n) (drop n bs)
word_found at n [] e h = absurd (omega arith)
word_found at n (b ∷ bs) e h =
    ⊎_elim
    (λ l. at_word at b bs l ∙ ap (λ ts. word at (front (b ∷ bs)) ∷ ts) (sym (in_word at b bs l) ∙ rest_of_word at (b ∷ bs))
    ∙ ap (λ k. word at (take k (b ∷ bs)) ∷ tokens false (at + k) (drop k (b ∷ bs))) (sym e))
    (λ l. absurd (omega (arith, cond-false (letter b) (1 + prefix_len letter bs) 0 l)))
    (cases_Bool (letter b))

pub none_left : (at : ℕ) (bs : List ℕ) → prefix_len blank bs ≡ 0 → prefix_len letter bs ≡ 0 → tokens false at bs ≡ []
none_left at [] e f = refl
none_left at (b ∷ bs) e f = let p = first_fails blank b bs e in let q = not-false (blank b) (first_fails letter b bs f) in let z : true ≡ false = sym q ∙ p in cc

-- neither a space nor a word in front: the text or the line ends there
feed_there : (b : ℕ) (bs : List ℕ) → prefix_len space (b ∷ bs) ≡ 0 → prefix_len letter (b ∷ bs) ≡ 0 → b ≡ 10
feed_there b bs e f =
    ⊎_elim (λ s. absurd (eqb-false b 32 (first_fails space b bs e) s)) (λ t. t) (blank_cases b (first_fails letter b bs f))

pub no_word : (at : ℕ) (bs : List ℕ) → prefix_len space bs ≡ 0 → prefix_len letter bs ≡ 0 → first_word (at + length bs) (tokens false at bs) ≡ Err (Count at)
no_word at [] e f = ap (λ n. Err (Count n)) (add-zero at)
no_word at (b ∷ bs) e f = ap (first_word (at + length (b ∷ bs))) (past_feed false at b bs (feed_there b bs e f))
