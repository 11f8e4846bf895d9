-- A search for the first end that fails: none does, or one does and those before it pass.
use Rattle.std.proofs.Common.{◌≡◌, ℕ, zero, suc, ◌+◌, ◌-◌, ◌<◌, ◌≤◌, Bool, true, false, cond, not, Some, None, Option, sym, refl, ap, ◌∙◌, ⊎_elim, arith}
use Rattle.std.proofs.lemmas.Bool.{cond-true, cond-false, cases_eq, not-true, not-false}
use Rattle.std.specs.Option.{MatchOption}
use Rattle.leaf.specs.Answer.{first_refused}

none_picked : (b : Bool) (rest : Option ℕ) (j : ℕ) → cond b rest (Some j) ≡ None → (b ≡ true) × (rest ≡ None)
none_picked true rest j e = (refl, e)
none_picked false rest j e = absurd (let z : ◌≡◌ {A = ℕ} 0 1 = cc in omega arith)

-- no end fails
pub all_pass : (ok : ℕ → Bool) (j more : ℕ) → first_refused ok j more ≡ None → (k : ℕ) → j ≤ k → k < j + more → ok k ≡ true
all_pass ok j zero none k low high = absurd (omega arith)
all_pass ok j (suc more) none k low high =
    let here = none_picked (ok j) (first_refused ok (j + 1) more) j none in
    ⊎_elim (λ same. ap ok (sym same) ∙ here.0) (λ other. all_pass ok (j + 1) more here.1 k (omega (arith, other)) (omega arith)) (cases_eq j k)

pub pass_all : (ok : ℕ → Bool) (j more : ℕ) → ((k : ℕ) → j ≤ k → k < j + more → ok k ≡ true) → first_refused ok j more ≡ None
pass_all ok j zero pass = refl
pass_all ok j (suc more) pass =
    cond-true _ _ _ (pass j (omega arith) (omega arith)) ∙ pass_all ok (j + 1) more (λ k low high. pass k (omega arith) (omega arith))

-- one fails, and none before it
fails_at : (ok : ℕ → Bool) (j more i : ℕ) → j ≤ i → i < j + more → ok i ≡ false → ((k : ℕ) → j ≤ k → k < i → ok k ≡ true) → first_refused ok j more ≡ Some i
fails_at ok j zero i low high failed before = absurd (omega arith)
fails_at ok j (suc more) i low high failed before =
    ⊎_elim
    (λ same. cond-false _ _ _ (ap ok same ∙ failed) ∙ ap Some same)
    (λ other.
    let later = fails_at ok (j + 1) more i (omega (arith, other)) (omega arith) failed (λ k a b. before k (omega arith) b) in
    cond-true _ _ _ (before j (omega arith) (omega (arith, other))) ∙ later)
    (cases_eq j i)

pub refused_is : (ok : ℕ → Bool) (j end : ℕ) (r : Option ℕ) → MatchOption r ((k : ℕ) → j ≤ k → k < end → not (ok k) ≡ false) (λ i. (j ≤ i) × (i < end) × (not (ok i) ≡ true) × ((k : ℕ) → j ≤ k → k < i → not (ok k) ≡ false)) → r ≡ first_refused ok j (end - j)
refused_is ok j end None pass = sym (pass_all ok j (end - j) (λ k low high. not-false _ (pass k low (omega arith))))
refused_is ok j end (Some i) (low, high, failed, before) =
    sym (fails_at ok j (end - j) i low (omega arith) (not-true _ failed) (λ k a b. not-false _ (before k a b)))
