-- What a look-up among the sorted entries comes to: the best of all the entries.
use Rattle.std.proofs.Common.{◌≡◌, ℕ, ◌+◌, ◌-◌, ◌<◌, ◌≤◌, true, false, List, map, length, get_or, take, drop, reverse, ℤ, ◌≤ℤ◌, nat_abs, Some, None, Option, Bor, sym, refl, ap, ◌∙◌, subst, ⊎_elim, arith, length-take-le, length-drop}
use Rattle.std.proofs.ByRecursion.{All-map, all_shuffled}
use Rattle.std.proofs.lemmas.Int.{ints}
use Rattle.std.proofs.Math.Logic.{∥∥₁_elim}
use Rattle.std.proofs.Props.{props}
use Rattle.std.specs.Coded.{×_prop, le_prop}
use Rattle.std.proofs.lemmas.List.Sorted.{IsPermutation-sym, All-permutation}
use Rattle.std.proofs.lemmas.List.Elements.{recursion_from_All, All-from_recursion, All-take, All-drop}
use Rattle.std.proofs.lemmas.Map.Views.{All-map-IsPermutation}
use Rattle.std.proofs.lemmas.List.{get_or-map, get_or-reverse, get_or-take, get_or-drop, get_or_default, length-map, length-reverse}
use Rattle.std.proofs.lemmas.Bool.{cases_lt, both_ways}
use Rattle.std.specs.List.{All, AllByRecursion, AllWithin, HoldsAt}
use Rattle.std.specs.List.Sorted.{IsPermutation}
use Rattle.std.specs.Option.{MatchOption, IfSome, option_map}
use Rattle.measures.specs.Measure.{Measuring}
use Rattle.leaf.specs.declared.potentials.Potential.{Potential}
use Rattle.leaf.specs.Stored.{Rising, EndsAt, Legible, decoded}
use Rattle.leaf.specs.Rule.{best}
use Rattle.leaf.proofs.Ordered.{ends_rise}
use Rattle.leaf.proofs.Best.{Counts, Bounded, best_reached, best_bounds}

same_order : (v w : ℤ) → v ≤ℤ w → w ≤ℤ v → w ≡ v
same_order v w le ge = omega (arith, ints)

-- of each of the sorted, and so of each of a part of them
sorted_legible : {S : Type 0} (μ : Measuring S) (bytes : List ℕ) (entries sorted : List (Potential ℕ)) → ∥ IsPermutation entries sorted ∥₁ → All (Legible μ bytes) entries → All (Legible μ bytes) sorted
sorted_legible μ bytes entries sorted same all = λ k d lt. ∥∥₁_elim same (×_prop le_prop (search props)) (λ p. All-permutation (Legible μ bytes) entries sorted p all k d lt)

pub part_legible : {S : Type 0} (μ : Measuring S) (bytes : List ℕ) (entries sorted : List (Potential ℕ)) (n a : ℕ) → ∥ IsPermutation entries sorted ∥₁ → All (Legible μ bytes) entries → All (Legible μ bytes) (reverse (take n (drop a sorted)))
part_legible μ bytes entries sorted n a same all k d lt =
    let xs = take n (drop a sorted) in
    let part = All-take (Legible μ bytes) n (drop a sorted) (All-drop (Legible μ bytes) a sorted (sorted_legible μ bytes entries sorted same all)) in
    let low : k < length xs = omega (arith, length-reverse xs) in
    subst (Legible μ bytes) (sym (get_or-reverse xs k d low)) (part (length xs - 1 - k) d (omega arith))

-- the best of small values is small
pub best_small : {S : Type 0} (μ : Measuring S) (j : ℕ) (y : S) (es : List (Potential S)) (h : ℤ) → AllByRecursion (λ e. nat_abs e.value ≤ 1000000000000000) es → best μ es j y ≡ Some h → nat_abs h ≤ 1000000000000000
best_small μ j y es h all is =
    let top = best_reached μ j y (λ e. nat_abs e.value ≤ 1000000000000000) es h all is in
    subst (λ v. nat_abs v ≤ 1000000000000000) top.3 top.1

-- and so of stored entries
pub stored_small : {S : Type 0} (μ : Measuring S) (j : ℕ) (y : S) (bytes : List ℕ) (entries : List (Potential ℕ)) (o : Option ℤ) → All (λ e. nat_abs e.value ≤ 1000000000000000) entries → best μ (map (decoded μ bytes) entries) j y ≡ o → IfSome o (λ h. nat_abs h ≤ 1000000000000000)
stored_small μ j y bytes entries None small is = tt
stored_small μ j y bytes entries (Some h) small is =
    best_small μ j y (map (decoded μ bytes) entries) h (All-map (λ e. nat_abs e.value ≤ 1000000000000000) (decoded μ bytes) entries (recursion_from_All _ entries small)) is

module _ {S : Type 0} (μ : Measuring S) (j : ℕ) (y : S) (bytes : List ℕ) (entries sorted : List (Potential ℕ)) (same : IsPermutation entries sorted) where
  abbrev said : List (Potential S)
  said = map (decoded μ bytes) entries

  -- a stored entry that counts at the place and the state
  abbrev Here : Potential ℕ → Type 0
  Here e = Counts μ j y (decoded μ bytes e)

  -- what holds of what is sorted holds of what is said
  of_said : (P : Potential S → Type 0) → AllByRecursion (λ e. P (decoded μ bytes e)) sorted → AllByRecursion P said
  of_said P all = All-map P (decoded μ bytes) entries (all_shuffled (λ e. P (decoded μ bytes e)) sorted entries (IsPermutation-sym entries sorted same) all)

  none_counts : (o : Option ℤ) → AllByRecursion (λ e. Counts μ j y e → ⊥) said → best μ said j y ≡ o → best μ said j y ≡ None
  none_counts None none is = is
  none_counts (Some h) none is = let top = best_reached μ j y _ said h none is in absurd (top.1 top.2)

  look_none : All (λ e. Here e → ⊥) sorted → best μ said j y ≡ None
  look_none none = none_counts _ (of_said (λ e. Counts μ j y e → ⊥) (recursion_from_All _ sorted none)) refl

  -- the entry at k counts, and no other that counts is above it
  look_found : (k : ℕ) (d : Potential ℕ) → k < length sorted → Here (get_or sorted k d) → All (λ e. Here e → e.value ≤ℤ (get_or sorted k d).value) sorted → best μ said j y ≡ Some (get_or sorted k d).value
  look_found k d lt here most =
      let v = (get_or sorted k d).value in
      let all = All-map-IsPermutation (decoded μ bytes) (λ e. Counts μ j y e → Bounded (best μ said j y) e.value) entries sorted same (All-from_recursion _ said (best_bounds μ j y said)) in
      let b = subst (λ e. Counts μ j y e → Bounded (best μ said j y) e.value) (get_or-map (decoded μ bytes) sorted k d (decoded μ bytes d) lt) (all k (decoded μ bytes d) (omega (arith, length-map sorted (decoded μ bytes)))) here in
      let top = best_reached μ j y (λ e. Counts μ j y e → e.value ≤ℤ v) said b.top (of_said (λ e. Counts μ j y e → e.value ≤ℤ v) (recursion_from_All _ sorted most)) b.is in
      let le : b.top ≤ℤ v = subst (λ w. w ≤ℤ v) top.3 (top.1 top.2) in
      b.is ∙ ap Some (same_order v b.top b.above le)

  -- the entries at the place are those from a to b
  module _ (a b : ℕ) (some : 1 ≤ j) (rising : Rising sorted) (start : EndsAt sorted (j - 1) a) (end : EndsAt sorted j b) where
    abbrev found : List (Potential ℕ)
    found = take (b - a) (drop a sorted)

    abbrev Fails : Potential ℕ → Type 0
    Fails e = μ.at_most (decoded μ bytes e).corner y ≡ false

    rises : a ≤ b
    rises = ends_rise sorted (j - 1) j a b (omega arith) start end

    found_long : length (reverse found) ≡ b - a
    found_long = length-reverse found ∙ length-take-le (b - a) (drop a sorted) (omega (arith, length-drop a sorted, end.within, rises))

    found_at : (k : ℕ) (d : Potential ℕ) → a ≤ k → k < b → get_or (reverse found) (b - 1 - k) d ≡ get_or sorted k d
    found_at k d low high =
        let long = sym (length-reverse found) ∙ found_long in
        let i : length found - 1 - (b - 1 - k) ≡ k - a = omega arith in
        let place : a + (k - a) ≡ k = omega arith in
        get_or-reverse found (b - 1 - k) d (omega (arith, long)) ∙ ap (λ n. get_or found n d) i ∙ get_or-take (b - a) (drop a sorted) (k - a) d (omega arith) ∙ get_or-drop a sorted (k - a) d ∙ ap (λ n. get_or sorted n d) place

    -- what counts stands between
    between : (k : ℕ) (d : Potential ℕ) → k < length sorted → Here (get_or sorted k d) → (a ≤ k) × (k < b)
    between k d lt here =
        (⊎_elim (λ low. absurd (omega (arith, start.upto k d low, here.at))) (λ le. le) (cases_lt k a), ⊎_elim (λ low. low) (λ high. absurd (omega (arith, end.above k d high lt, here.at))) (cases_lt k b))

    pub sought : (r : Option (Bor (Potential ℕ))) → MatchOption r (AllWithin Fails (reverse found) 0 (length (reverse found))) (λ x. (μ.at_most (decoded μ bytes x.now).corner y ≡ true) × (i : ℕ) × (i < length (reverse found)) × HoldsAt (λ e. e ≡ x.now) (reverse found) i × AllWithin Fails (reverse found) 0 i) → best μ said j y ≡ option_map (λ x. x.now.value) r
    sought None fails =
        look_none λ k d lt here.
        let at = between k d lt here in
        let failed = subst Fails (found_at k d at.0 at.1) (fails (b - 1 - k) d (omega arith) (omega (arith, found_long))) in
        both_ways _ failed here.below
    sought (Some x) (passed, i, lt, is, fails) =
        let k = b - 1 - i in
        let d = x.now in
        let back : b - 1 - k ≡ i = omega (arith, found_long) in
        let between_ends : (a ≤ k) × (k < b) = (omega (arith, found_long), omega (arith, found_long)) in
        let e : get_or sorted k d ≡ d = sym (found_at k d between_ends.0 between_ends.1) ∙ ap (λ n. get_or (reverse found) n d) back ∙ is d in
        let inside : k < length sorted = omega (arith, end.within, between_ends.1) in
        let stands : (o : Potential ℕ) → (get_or sorted k o).place ≡ j = λ o. omega (arith, some, end.upto k o between_ends.1, start.above k o between_ends.0 inside) in
        subst (λ z. best μ said j y ≡ Some z.value) e
        (look_found k d inside
        (record { at = stands d; below = subst (λ z. μ.at_most (decoded μ bytes z).corner y ≡ true) (sym e) passed })
        (λ n o low here.
        let at = between n o low here in
        ⊎_elim
        (λ later. absurd (both_ways _ (subst Fails (found_at n o at.0 at.1) (fails (b - 1 - n) o (omega arith) (omega (arith, found_long)))) here.below))
        (λ le. subst (λ z. (get_or sorted n o).value ≤ℤ z.value) (get_or_default sorted k o d inside) (rising.values n k o le inside (here.at ∙ sym (stands o))))
        (cases_lt k n)))
