-- The best value among the entries that count at a place and a state: it is reached, and no counted entry is above it.
use Rattle.std.proofs.Common.{◌≡◌, ℕ, Bool, true, false, ◌&&◌, eqb, ◌⊎◌, List, [], ◌∷◌, ℤ, ◌≤ℤ◌, Some, None, Option, sym, refl, ap, ◌∙◌, inl, inr, ⊎_elim, arith}
use lib.Signed.{lt_z}
use Rattle.std.proofs.ByRecursion.{All-weaker}
use Rattle.std.proofs.lemmas.Int.{ints, clamps}
use Rattle.std.proofs.lemmas.Bool.{cases_Bool, cases_cond, cond-true, cond-false, and_parts, and_from, eq-eqb, eqb-true}
use Rattle.std.specs.Int.{int_max}
use Rattle.std.specs.List.{AllByRecursion}
use Rattle.measures.specs.Measure.{Measuring}
use Rattle.leaf.specs.declared.potentials.Potential.{Potential}
use Rattle.leaf.specs.Rule.{best, larger}

-- an entry that counts at the place j and the state y
pub record Counts {S : Type 0} (μ : Measuring S) (j : ℕ) (y : S) (e : Potential S) : Type 0 where
  pub at : e.place ≡ j
  pub below : μ.at_most e.corner y ≡ true

-- an option that holds a value, and v is at most it
pub record Bounded (o : Option ℤ) (v : ℤ) : Type 0 where
  pub top : ℤ
  pub is : o ≡ Some top
  pub above : v ≤ℤ top

some_same : (v w : ℤ) → ◌≡◌ {A = Option ℤ} (Some v) (Some w) → v ≡ w
some_same v w e = cc

larger_is : (v : ℤ) (o : Option ℤ) → (larger v o ≡ v) ⊎ (o ≡ Some (larger v o))
larger_is v None = inl refl
larger_is v (Some w) = ⊎_elim (λ e. inl e) (λ e. inr (ap Some (sym e))) (cases_cond (lt_z w v) v w (int_max v w) refl)

larger_left : (v : ℤ) (o : Option ℤ) → v ≤ℤ larger v o
larger_left v None = omega (arith, ints)
larger_left v (Some w) = omega (arith, ints, clamps)

larger_right : (v w : ℤ) (o : Option ℤ) → Bounded o w → w ≤ℤ larger v o
larger_right v w None b = absurd (let e = b.is in let z : ◌≡◌ {A = ℕ} 0 1 = cc in omega arith)
larger_right v w (Some u) b = let e = some_same u b.top b.is in omega (arith, ints, clamps, b.above)

module _ {S : Type 0} (μ : Measuring S) (j : ℕ) (y : S) where
  -- the test that `best` makes of an entry
  abbrev test : Potential S → Bool
  test e = eqb e.place j && μ.at_most e.corner y

  best_with : (e : Potential S) (es : List (Potential S)) → test e ≡ true → best μ (e ∷ es) j y ≡ Some (larger e.value (best μ es j y))
  best_with e es passed = cond-true _ _ _ passed

  best_without : (e : Potential S) (es : List (Potential S)) → test e ≡ false → best μ (e ∷ es) j y ≡ best μ es j y
  best_without e es failed = cond-false _ _ _ failed

  counts_from : (e : Potential S) → test e ≡ true → Counts μ j y e
  counts_from e passed = let parts = and_parts _ _ passed in record { at = eqb-true e.place j parts.0; below = parts.1 }

  -- the best is the value of an entry that counts, of which holds what holds of every entry
  pub best_reached : (P : Potential S → Type 0) (es : List (Potential S)) (h : ℤ) → AllByRecursion P es → best μ es j y ≡ Some h → (e : Potential S) × P e × Counts μ j y e × (e.value ≡ h)
  best_reached P [] h all is = absurd (let z : ◌≡◌ {A = ℕ} 0 1 = cc in omega arith)
  best_reached P (e ∷ es) h all is =
      ⊎_elim
      (λ passed.
      let top : larger e.value (best μ es j y) ≡ h = some_same _ _ (sym (best_with e es passed) ∙ is) in
      ⊎_elim (λ here. (e, all.0, counts_from e passed, sym here ∙ top)) (λ there. best_reached P es h all.1 (there ∙ ap Some top)) (larger_is e.value (best μ es j y)))
      (λ failed. best_reached P es h all.1 (sym (best_without e es failed) ∙ is))
      (cases_Bool (test e))

  -- what bounds a value over fewer entries does so over one more
  bounds_more : (e : Potential S) (es : List (Potential S)) (v : ℤ) → Bounded (best μ es j y) v → Bounded (best μ (e ∷ es) j y) v
  bounds_more e es v b =
      ⊎_elim
      (λ passed. record { top = larger e.value (best μ es j y); is = best_with e es passed; above = larger_right e.value v (best μ es j y) b })
      (λ failed. record { top = b.top; is = best_without e es failed ∙ b.is; above = b.above })
      (cases_Bool (test e))

  -- where an entry counts there is a best, and it is at least the entry's value
  pub best_bounds : (es : List (Potential S)) → AllByRecursion (λ e. Counts μ j y e → Bounded (best μ es j y) e.value) es
  best_bounds [] = tt
  best_bounds (e ∷ es) = (
    λ c. record {
      top = larger e.value (best μ es j y);
      is = best_with e es (and_from _ _ (eq-eqb e.place j c.at) c.below);
      above = larger_left e.value (best μ es j y);
    },
    All-weaker (λ x. Counts μ j y x → Bounded (best μ es j y) x.value) (λ x. Counts μ j y x → Bounded (best μ (e ∷ es) j y) x.value) (λ x b c. bounds_more e es x.value (b c)) es (best_bounds es),
  )
