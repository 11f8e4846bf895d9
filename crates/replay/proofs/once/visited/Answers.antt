use Rattle.std.proofs.Common.{◌≡◌, ℕ, ◌+◌, ◌<◌, ◌≤◌, Bool, true, false, ◌&&◌, ltb, List, [], ◌∷◌, ◌++◌, length, get_or, take, drop, set, sym, refl, ap, ◌∙◌, ⊎_elim, arith, length-set, get_or-set_other, get_or-set_same, rules}
use Rattle.std.proofs.lemmas.List.{at_drop_more, take_more, get_or-replicate}
use Rattle.std.proofs.lemmas.Bool.{cond-false, and_left, lt-ltb, le-ltb, cases_eq, cases_lt}
use Rattle.routing.specs.Routes.{count}
use Rattle.routing.proofs.Counts.{count_push_same, count_push_other}
use Rattle.replay.specs.Listing.{repeated}
use Rattle.replay.proofs.once.visited.Goals as goal

-- one customer more in the array and in the list
marked : (seen : List Bool) (front : List ℕ) (x y : ℕ) → x < length seen → get_or seen y false ≡ ltb 0 (count y front) → get_or (set seen x true) y false ≡ ltb 0 (count y (front ++ (x ∷ [])))
marked seen front x y within before =
    ⊎_elim
    (λ same. ap (λ k. get_or (set seen x true) k false) same ∙ get_or-set_same seen x true false within ∙ sym (lt-ltb 0 (count y (front ++ (x ∷ []))) (omega (arith, ap (λ k. count y (front ++ (k ∷ []))) same, count_push_same y front))))
    (λ apart. get_or-set_other seen x y true false apart ∙ before ∙ ap (ltb 0) (sym (count_push_other y x front apart)))
    (cases_eq y x)

pub loop-index-init : goal.loop-index-init
loop-index-init c = (omega arith, refl, refl, λ x low high. get_or-replicate 256 x false false high)

-- a repeat in the array is one in the listing's front
same_test : (seen : List Bool) (front : List ℕ) (x : ℕ) → x < 256 → ((y : ℕ) → 1 ≤ y → y < 256 → get_or seen y false ≡ ltb 0 (count y front)) → (ltb 0 x && get_or seen x false) ≡ (ltb 0 x && ltb 0 (count x front))
same_test seen front x small same =
    ⊎_elim (λ some. ap (λ b. ltb 0 x && b) (same x some small)) (λ none. and_left _ _ (le-ltb 0 x none) ∙ sym (and_left _ _ (le-ltb 0 x none))) (cases_lt 0 x)

pub loop-index-preserved : goal.loop-index-preserved
loop-index-preserved c =
    let s = c.loop-index in
    let xs = c.args.listing.now in
    let x = get_or xs s.index 0 in
    let small : x < 256 = search rules in
    let front = take_more xs s.index 0 (omega arith) in
    let more = at_drop_more (repeated (take s.index xs) s.index) xs s.index 0 (omega arith) in
    let new = sym (same_test s.seen (take s.index xs) x small s.invariant.3) ∙ sym c.if-is_repeat.ensures in (
      omega arith,
      length-set s.seen x true ∙ s.invariant.1,
      ap (λ l. repeated l (s.index + 1) (drop (s.index + 1) xs)) front ∙ sym (cond-false _ _ _ new) ∙ sym more ∙ s.invariant.2,
      λ y low high.
          marked s.seen (take s.index xs) x y (omega (arith, s.invariant.1)) (s.invariant.3 y low high) ∙ ap (λ l. ltb 0 (count y l)) (sym front),
    )
