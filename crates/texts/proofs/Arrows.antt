-- Arc words, and what they are written as.
use Rattle.std.proofs.Common.{◌≡◌, ℕ, ◌+◌, ◌<◌, ◌≤◌, Bool, true, false, cond, ◌&&◌, eqb, leb, List, [], ◌∷◌, ◌++◌, map, length, get_or, take, drop, Some, None, Ok, Err, decimal, Option, Result, refl, ap, ◌∙◌, subst, arith, length-append, length-drop}
use Rattle.std.proofs.Math.ListN.{get_or-append}
use Rattle.std.proofs.Math.Seq.{get_or-append_seam, drop-append-add}
use Rattle.std.proofs.lemmas.List.{take_at}
use Rattle.std.proofs.lemmas.List.Sums.{position_or_len_is, split_at_first, passes_at_first}
use Rattle.std.proofs.lemmas.Str.Parse.{digit_at}
use Rattle.std.specs.List.{position_or_len, before_first, after_first}
use Rattle.std.specs.Str.{all_ascii_digits}
use Rattle.std.proofs.lemmas.Bool.{and_from, and_left, and_parts, cond-true, cond-false, leb-true, le-leb, eqb-true, eqb-false, ne_eqb, eq-eqb}
use Rattle.texts.specs.declared.faults.TextFault.{TextFault}
use Rattle.texts.specs.declared.faults.TextFault.TheVariants.{Form, Range}
use Rattle.texts.specs.Judging.{State}
use Rattle.texts.specs.Numbers.{shaped, numeral}
use Rattle.texts.specs.Arcs.{is_byte, is_slash, road_within, road_at, as_fields, arc_at, arc_due}
use Rattle.texts.specs.Written.{Mark, bytes, mark, arc_word, arc_mark, ArcFine}
use Rattle.texts.proofs.Spelling.{own, granted_if, numeral_is, word_is_decimal, decimal_is_word}
use Rattle.texts.proofs.Marks.{Reads, Leaves, looked, looks}

-- digits have no slash
cut_digits : (ds w : List ℕ) → all_ascii_digits ds ≡ true → (before_first is_slash (ds ++ (47 ∷ w)) ≡ ds) × (after_first is_slash (ds ++ (47 ∷ w)) ≡ w)
cut_digits ds w h =
    let bs = ds ++ (47 ∷ w) in
    let none : (k : ℕ) → k < length ds → is_slash (get_or bs k 0) ≡ false = λ k l. ne_eqb _ 47 (λ e. let p = digit_at ds k (own.to ds h) l in omega (arith, get_or-append ds (47 ∷ w) 0 k l, e, p.0)) in
    let there = position_or_len_is is_slash bs (length ds) 0 (omega (arith, length-append ds (47 ∷ w))) none (λ l. eq-eqb _ 47 (get_or-append_seam ds 47 w 0)) in
    (ap (λ k. take k bs) there ∙ take_at ds (47 ∷ w) (length ds) refl, ap (λ k. drop (k + 1) bs) there ∙ drop-append-add ds (47 ∷ w) 1)

-- a word with something after a slash is cut there
slash_cuts : (w : List ℕ) → 1 ≤ length (after_first is_slash w) → w ≡ before_first is_slash w ++ (47 ∷ after_first is_slash w)
slash_cuts w h =
    let k = position_or_len is_slash w in
    let inside : k < length w = omega (arith, length-drop (k + 1) w) in
    split_at_first is_slash w 0 inside ∙ ap (λ b. before_first is_slash w ++ (b ∷ after_first is_slash w)) (eqb-true _ 47 (passes_at_first is_slash w 0 inside))

numeral_some : (w : List ℕ) (n : ℕ) → numeral w ≡ Some n → 1 ≤ length w
numeral_some w n e =
    leb-true 1 (length w) (and_parts (leb 1 (length w)) _ (and_parts (shaped w) _ (numeral_is w n e).0).0).0

road_is : (at : ℕ) (w : List ℕ) (a : ℕ × ℕ) → road_at at w ≡ Ok a → (w ≡ arc_word (Some a)) × (a.0 ≤ 1000000) × (a.1 ≤ 60000)
road_is at w a e = sides (numeral (before_first is_slash w)) (numeral (after_first is_slash w)) refl refl e
  where
    sides : (c t : Option ℕ) → numeral (before_first is_slash w) ≡ c → numeral (after_first is_slash w) ≡ t → road_within at c t ≡ Ok a → (w ≡ arc_word (Some a)) × (a.0 ≤ 1000000) × (a.1 ≤ 60000)
    sides None t p q f = absurd (cc f)
    sides (Some c) None p q f = absurd (cc f)
    sides (Some c) (Some t) p q f =
        let k = granted_if (leb c 1000000 && leb t 60000) (Ok (c, t)) (Range at) a f in
        let same : (c, t) ≡ a = cc k.1 in
        let bounds = and_parts (leb c 1000000) (leb t 60000) k.0 in
        subst (λ (b : ℕ × ℕ). (w ≡ arc_word (Some b)) × (b.0 ≤ 1000000) × (b.1 ≤ 60000)) same
        (slash_cuts w (numeral_some (after_first is_slash w) t q) ∙ (λ i. word_is_decimal (before_first is_slash w) c p i ++ (47 ∷ word_is_decimal (after_first is_slash w) t q i)), leb-true c 1000000 bounds.0, leb-true t 60000 bounds.1)

one_byte : (b : ℕ) (w : List ℕ) → is_byte b w ≡ true → w ≡ b ∷ []
one_byte b w e = let p = and_parts (eqb (length w) 1) (eqb (get_or w 0 0) b) e in only w (eqb-true (length w) 1 p.0) (eqb-true (get_or w 0 0) b p.1)
  where
    only : (v : List ℕ) → length v ≡ 1 → get_or v 0 0 ≡ b → v ≡ b ∷ []
    only [] l f = absurd (omega arith)
    only (x ∷ []) l f = ap (λ y. y ∷ []) f
    only (x ∷ y ∷ v) l f = absurd (omega arith)

pub mark_byte : (w : List ℕ) → is_byte 77 w ≡ true → w ≡ 77 ∷ []
mark_byte w e = one_byte 77 w e

pub arc_is : (i j at : ℕ) (w : List ℕ) (a : Option (ℕ × ℕ)) → arc_at (eqb i j) at w ≡ Ok a → (w ≡ arc_word a) × ArcFine i j a
arc_is i j at w a e = by (is_byte 45 w) (eqb i j) (road_at at w) refl refl refl e
  where
    by : (dash same : Bool) (r : Result (ℕ × ℕ) TextFault) → is_byte 45 w ≡ dash → eqb i j ≡ same → road_at at w ≡ r → cond dash (Ok None) (cond same (Err (Form at)) (as_fields (λ (b : ℕ × ℕ). Some b) r)) ≡ Ok a → (w ≡ arc_word a) × ArcFine i j a
    by true same r p q road f = let none : None ≡ a = cc f in subst (λ b. (w ≡ arc_word b) × ArcFine i j b) none (one_byte 45 w p, tt)
    by false true r p q road f = absurd (cc f)
    by false false (Err g) p q road f = absurd (cc f)
    by false false (Ok b) p q road f =
        let some : Some b ≡ a = cc f in
        let k = road_is at w b road in
        subst (λ l. (w ≡ arc_word l) × ArcFine i j l) some (k.0, (eqb-false i j q, k.1, k.2))

digits_of : (n : ℕ) → n < 1000000000 → all_ascii_digits (decimal n) ≡ true
digits_of n h = (and_parts (shaped (decimal n)) _ (numeral_is (decimal n) n (decimal_is_word n h)).0).1

arc_at_written : (i j at : ℕ) (a : Option (ℕ × ℕ)) → ArcFine i j a → arc_at (eqb i j) at (arc_word a) ≡ Ok a
arc_at_written i j at None fine = refl
arc_at_written i j at (Some a) fine =
    let c = a.0 in
    let t = a.1 in
    let w = decimal c ++ (47 ∷ decimal t) in
    let cut = cut_digits (decimal c) (decimal t) (digits_of c (omega (arith, fine.1))) in
    let first = decimal_is_word c (omega (arith, fine.1)) in
    let second = decimal_is_word t (omega (arith, fine.2)) in
    let long : length w ≡ 1 → ⊥ = λ e. omega (arith, length-append (decimal c) (47 ∷ decimal t), numeral_some (decimal c) c first) in
    let road : road_at at w ≡ Ok a =
    (λ k. road_within at ((ap numeral cut.0 ∙ first) k) ((ap numeral cut.1 ∙ second) k))
    ∙ cond-true (leb c 1000000 && leb t 60000) (Ok (c, t)) (Err (Range at)) (and_from (leb c 1000000) (leb t 60000) (le-leb c 1000000 fine.1) (le-leb t 60000 fine.2)) in
    cond-false (is_byte 45 w) (Ok None) _ (and_left (eqb (length w) 1) (eqb (get_or w 0 0) 45) (ne_eqb (length w) 1 long))
    ∙ cond-false (eqb i j) (Err (Form at)) _ (ne_eqb i j fine.0)
    ∙ ap (as_fields (λ (b : ℕ × ℕ). Some b)) road

pub arc_reads : (i j : ℕ) (s t : State) (a : Option (ℕ × ℕ)) → arc_due i j s ≡ Ok (a, t) → Reads s t (arc_mark a) × ArcFine i j a
arc_reads i j s t a e =
    let p = looked (λ at w. arc_at (eqb i j) at w) s t a e in
    let q = arc_is i j p.at p.w a p.is in
    (subst (λ l. Reads s t (bytes l ∷ [])) q.0 p.reads, q.1)

pub arc_leaves : (i j : ℕ) (s : State) (a : Option (ℕ × ℕ)) (ms : List Mark) → map mark s.tokens ≡ arc_mark a ++ ms → ArcFine i j a → Leaves (arc_due i j s) a ms
arc_leaves i j s a ms e fine = looks (λ at w. arc_at (eqb i j) at w) s a (arc_word a) ms e (λ at. arc_at_written i j at a fine)
