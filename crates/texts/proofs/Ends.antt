-- Where a text's line feeds stand among its tokens.
use Rattle.std.proofs.Common.{◌≡◌, ℕ, zero, suc, ◌+◌, ◌-◌, ◌<◌, ◌≤◌, Bool, true, false, eqb, List, [], ◌∷◌, ◌++◌, length, get_or, sym, refl, ap, ◌∙◌, ⊎_elim, arith}
use Rattle.std.proofs.lemmas.List.{get_or_at, get_or-append-add, length-append}
use Rattle.std.proofs.lemmas.Bool.{cases_Bool, eqb-true, eqb-false}
use Rattle.texts.specs.Tokens.{Token, feed, letter, tokens}
use Rattle.texts.specs.Written.{Fed}
use Rattle.texts.proofs.Scans.{past_space, past_feed, at_word, in_word, is_letter}

-- a line feed among the tokens, with what stands before and after it in the text
pub record SplitAt (at : ℕ) (bs : List ℕ) (o : ℕ) (ts : List Token) : Type 0 where
  pub first : List ℕ
  pub rest : List ℕ
  pub split : bs ≡ first ++ (10 ∷ rest)
  pub offset : o ≡ at + length first
  pub after : ts ≡ tokens false (o + 1) rest

further : {at o : ℕ} {b : ℕ} {bs : List ℕ} {ts : List Token} → SplitAt (at + 1) bs o ts → SplitAt at (b ∷ bs) o ts
further {at} {o} {b} p = record { first = b ∷ p.first; rest = p.rest; split = ap (λ l. b ∷ l) p.split; offset = omega (arith, p.offset); after = p.after }

pub split_feed : (inside : Bool) (at : ℕ) (bs : List ℕ) (us : List Token) (o : ℕ) (ts : List Token) → tokens inside at bs ≡ us ++ (feed o ∷ ts) → SplitAt at bs o ts
split_feed inside at [] [] o ts e = absurd (cc)
split_feed inside at [] (u ∷ us) o ts e = absurd (cc)
split_feed inside at (b ∷ bs) us o ts e =
    ⊎_elim
    (λ t. let is = eqb-true b 10 t in fed (λ k vs f. split_feed k (at + 1) bs vs o ts f) us is (sym (past_feed inside at b bs is) ∙ e))
    (λ t. ⊎_elim
    (λ u. further (split_feed false (at + 1) bs us o ts (sym (past_space inside at b bs (eqb-true b 32 u)) ∙ e)))
    (λ u. lettered (λ k vs f. split_feed k (at + 1) bs vs o ts f) inside us (is_letter b (eqb-false b 32 u) (eqb-false b 10 t)) e)
    (cases_Bool (eqb b 32)))
    (cases_Bool (eqb b 10))
  where
    fed : ((k : Bool) (vs : List Token) → tokens k (at + 1) bs ≡ vs ++ (feed o ∷ ts) → SplitAt (at + 1) bs o ts) → (us : List Token) → b ≡ 10 → feed at ∷ tokens false (at + 1) bs ≡ us ++ (feed o ∷ ts) → SplitAt at (b ∷ bs) o ts
    fed more [] is f =
        let same : at ≡ o = cc f in
        let rest : tokens false (at + 1) bs ≡ ts = cc f in
        record { first = []; rest = bs; split = ap (λ c. c ∷ bs) is; offset = omega arith; after = sym rest ∙ ap (λ n. tokens false (n + 1) bs) same }
    fed more (u ∷ us) is f = let rest : tokens false (at + 1) bs ≡ us ++ (feed o ∷ ts) = cc f in further (more false us rest)

    lettered : ((k : Bool) (vs : List Token) → tokens k (at + 1) bs ≡ vs ++ (feed o ∷ ts) → SplitAt (at + 1) bs o ts) → (inside : Bool) (us : List Token) → letter b ≡ true → tokens inside at (b ∷ bs) ≡ us ++ (feed o ∷ ts) → SplitAt at (b ∷ bs) o ts
    lettered more true us l f = further (more true us (sym (in_word at b bs l) ∙ f))
    lettered more false [] l f = let g = sym (at_word at b bs l) ∙ f in absurd (cc g)
    lettered more false (u ∷ us) l f =
        let g = sym (at_word at b bs l) ∙ f in
        let rest : tokens true (at + 1) bs ≡ us ++ (feed o ∷ ts) = cc g in
        further (more true us rest)

-- a text with a line feed has a token
pub has_token : (inside : Bool) (at : ℕ) (bs : List ℕ) (k : ℕ) → k < length bs → get_or bs k 0 ≡ 10 → tokens inside at bs ≡ [] → ⊥
has_token inside at [] k h e f = omega arith
has_token inside at (b ∷ bs) zero h e f = let g = sym (past_feed inside at b bs e) ∙ f in cc g
has_token inside at (b ∷ bs) (suc k) h e f =
    ⊎_elim
    (λ t. let g = sym (past_feed inside at b bs (eqb-true b 10 t)) ∙ f in cc g)
    (λ t. ⊎_elim
    (λ u. has_token false (at + 1) bs k (omega arith) e (sym (past_space inside at b bs (eqb-true b 32 u)) ∙ f))
    (λ u. lettered (λ g. has_token true (at + 1) bs k (omega arith) e g) inside (is_letter b (eqb-false b 32 u) (eqb-false b 10 t)) f)
    (cases_Bool (eqb b 32)))
    (cases_Bool (eqb b 10))
  where
    lettered : (tokens true (at + 1) bs ≡ [] → ⊥) → (inside : Bool) → letter b ≡ true → tokens inside at (b ∷ bs) ≡ [] → ⊥
    lettered more true l g = more (sym (in_word at b bs l) ∙ g)
    lettered more false l g = let q = sym (at_word at b bs l) ∙ g in cc q

-- the text ends right after the feed: then it is the last byte, and no token follows
pub nothing_left : (text : List ℕ) (o : ℕ) (ts : List Token) → SplitAt 0 text o ts → length text ≤ o + 1 → Fed text × (ts ≡ [])
nothing_left text o ts p h =
    let long : length text ≡ length p.first + suc (length p.rest) = ap length p.split ∙ length-append p.first (10 ∷ p.rest) in
    let none : length p.rest ≡ 0 = omega (arith, p.offset) in
    let last : length text - 1 ≡ length p.first = omega arith in (
      (omega arith, (λ i. get_or (p.split i) (last i) 0) ∙ get_or_at p.first 10 p.rest 0 (length p.first) refl),
      p.after ∙ empty p.rest none,
    )
  where
    empty : (rest : List ℕ) → length rest ≡ 0 → tokens false (o + 1) rest ≡ []
    empty [] l = refl
    empty (b ∷ rest) l = absurd (omega arith)

-- no token follows the feed, and the text ends with a feed: then it ends right there
pub ends_there : (text : List ℕ) (o : ℕ) (ts : List Token) → SplitAt 0 text o ts → ts ≡ [] → Fed text → length text ≤ o + 1
ends_there text o ts p none fed = by p.rest p.split (sym p.after ∙ none)
  where
    by : (rest : List ℕ) → text ≡ p.first ++ (10 ∷ rest) → tokens false (o + 1) rest ≡ [] → length text ≤ o + 1
    by [] s e = omega (arith, ap length s ∙ length-append p.first (10 ∷ []), p.offset)
    by (b ∷ rest) s e =
        let long : length text ≡ length p.first + suc (suc (length rest)) = ap length s ∙ length-append p.first (10 ∷ b ∷ rest) in
        let last : length text - 1 ≡ length p.first + suc (length rest) = omega arith in
        let byte : get_or (b ∷ rest) (length rest) 0 ≡ 10 = sym ((λ i. get_or (s i) (last i) 0) ∙ get_or-append-add p.first (10 ∷ b ∷ rest) (suc (length rest)) 0) ∙ fed.1 in
        absurd (has_token false (o + 1) (b ∷ rest) (length rest) (omega arith) byte e)
