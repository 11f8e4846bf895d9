-- Lists of decisions by their last one.
use Rattle.std.proofs.Common.{◌≡◌, ℕ, ◌+◌, ◌-◌, ◌<◌, ◌≤◌, true, false, List, [], ◌∷◌, ◌++◌, length, get_or, take, sym, refl, ap, ◌∙◌, arith}
use Rattle.std.proofs.lemmas.List.{take_more, length-take-le}
use native.Mathlib.Numerals.{unary_clauses}
use Rattle.std.proofs.lemmas.Bool.{cond-true, cond-false, false≢true}
use Rattle.decisions.specs.declared.decision.Decision.{Decision}
use Rattle.decisions.specs.Decisions.{second, turned}
use Rattle.decisions.specs.Branches.{turned_last, ends_second, unless_second, trimmed}

pub turned_push : (ds : List Decision) (d : Decision) → turned_last (ds ++ (d ∷ [])) ≡ ds ++ (turned d ∷ [])
turned_push [] d = refl
turned_push (a ∷ []) d = refl
turned_push (a ∷ (b ∷ ds)) d = ap (λ l. a ∷ l) (turned_push (b ∷ ds) d)

-- the front of an array by its last
pub front_last : (es : List Decision) (n : ℕ) (d : Decision) → 1 ≤ n → n ≤ length es → take n es ≡ take (n - 1) es ++ (get_or es (n - 1) d ∷ [])
front_last es n d some le =
    let whole : n - 1 + 1 ≡ n = omega arith in
    ap (λ k. take k es) (sym whole) ∙ take_more es (n - 1) d (omega arith)

pub length_turned : (ds : List Decision) → length (turned_last ds) ≡ length ds
length_turned [] = refl
length_turned (a ∷ []) = refl
length_turned (a ∷ (b ∷ ds)) = omega (arith, length_turned (b ∷ ds))

before_some : (a : Decision) (ds : List Decision) (d : Decision) → unless_second a (ds ++ (d ∷ [])) ≡ a ∷ (ds ++ (d ∷ []))
before_some a [] d = refl
before_some a (b ∷ ds) d = refl

pub trimmed_second : (ds : List Decision) (d : Decision) → second d ≡ true → trimmed (ds ++ (d ∷ [])) ≡ trimmed ds
trimmed_second [] d e = cond-true _ _ _ e
trimmed_second (a ∷ ds) d e = ap (unless_second a) (trimmed_second ds d e)

pub trimmed_first : (ds : List Decision) (d : Decision) → second d ≡ false → trimmed (ds ++ (d ∷ [])) ≡ ds ++ (d ∷ [])
trimmed_first [] d e = cond-false _ _ _ e
trimmed_first (a ∷ ds) d e = ap (unless_second a) (trimmed_first ds d e) ∙ before_some a ds d

-- a last decision that is dropped for being on its second side
pub trimmed_pop : (ds : List Decision) → ends_second ds ≡ true → trimmed (take (length ds - 1) ds) ≡ trimmed ds
trimmed_pop [] e = absurd (false≢true e)
trimmed_pop (d ∷ []) e = sym (cond-true _ _ _ e)
trimmed_pop (d ∷ (f ∷ ds)) e = simp unary_clauses (ap (unless_second d) (simp unary_clauses at (trimmed_pop (f ∷ ds) (simp unary_clauses (simp unary_clauses at e)))))

pub shorter : (ds : List Decision) → ends_second ds ≡ true → length (take (length ds - 1) ds) < length ds
shorter [] e = absurd (false≢true e)
shorter (d ∷ ds) e = omega (arith, length-take-le (length (d ∷ ds) - 1) (d ∷ ds) (omega arith))

pub trimmed_done : (ds : List Decision) → ends_second ds ≡ false → trimmed ds ≡ ds
trimmed_done [] e = refl
trimmed_done (d ∷ []) e = cond-false _ _ _ e
trimmed_done (d ∷ (f ∷ ds)) e = ap (unless_second d) (trimmed_done (f ∷ ds) (simp unary_clauses (simp unary_clauses at e)))
