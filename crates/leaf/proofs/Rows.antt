-- The drives from a place, asked for once, are as good as asking for each; and what one entry, or the depot, adds to the answer.
use Rattle.std.proofs.Common.{sym, ◌≤◌, ◌≡◌, ℕ, ◌+◌, ◌-◌, ◌*◌, ◌<◌, List, map, length, get_or, drop, ℤ, Some, Ok, Option, ap, ◌∙◌, ap₂, arith}
use Rattle.std.proofs.lemmas.List.FromFn.{get_or-map-range_with_len}
use Rattle.std.proofs.lemmas.List.{at_drop_more}
use Rattle.routing.specs.declared.cells.Place.{Place}
use Rattle.routing.specs.Network.{Meaning}
use Rattle.measures.specs.Measure.{Measuring}
use Rattle.leaf.specs.declared.drives.Drive.{Drive}
use Rattle.leaf.specs.declared.faults.LeafFault.TheVariants.{Depot, Entry}
use Rattle.leaf.specs.declared.potentials.Potential.{Potential}
use Rattle.leaf.specs.Answer.{arc_ok, drive, drives, depot_answer, entries_answer, first_refused, unless}
use Rattle.leaf.specs.Stored.{decoded}
use Rattle.leaf.specs.Rule.{Leaf}

pub drives_at : (m : Meaning) (i j : ℕ) (d : Option Drive) → j ≤ m.customers → get_or (drives m i) j d ≡ drive m i j
unfolding drives
drives_at m i j d le = get_or-map-range_with_len (drive m i) 0 (m.customers + 1) j j d (omega arith) (omega arith)

module _ {S : Type 0} (μ : Measuring S) (m : Meaning) (leaf : Leaf S) where
  -- the answer at the depot, from what was found there; the place stands as i, the price as w, and the state as t
  pub depot_step : (p : Place) (i : ℕ) (w : ℤ) (t : S) (o : Option ℕ) → m.place 0 ≡ Some p → i ≡ 0 → w ≡ leaf.van_price → t ≡ μ.start p.opening → o ≡ first_refused (arc_ok μ m leaf w t i) 1 (m.customers + 1 - 1) → unless o Depot (Ok tt) ≡ depot_answer μ m leaf (m.place 0)
  depot_step p i w t o is from held same found =
      let all : m.customers + 1 - 1 ≡ m.customers = omega arith in
      ap (λ q. unless q Depot (Ok tt)) (found ∙ ap (λ j. first_refused (arc_ok μ m leaf w t j) 1 (m.customers + 1 - 1)) from ∙ ap₂ (λ v s. first_refused (arc_ok μ m leaf v s 0) 1 (m.customers + 1 - 1)) held same ∙ ap (first_refused (arc_ok μ m leaf leaf.van_price (μ.start p.opening) 0) 1) all) ∙ ap (depot_answer μ m leaf) (sym is)

  -- one entry of those from an offset on, as it is stored; its place stands as i, its value as w, and its corner as t
  pub entry_step : (at size k : ℕ) (bytes : List ℕ) (xs : List (Potential ℕ)) (d : Potential ℕ) (i : ℕ) (w : ℤ) (t : S) (o : Option ℕ) → k < length xs → i ≡ (get_or xs k d).place → w ≡ (get_or xs k d).value → t ≡ (decoded μ bytes (get_or xs k d)).corner → o ≡ first_refused (arc_ok μ m leaf w t i) 0 (m.customers + 1 - 0) → unless o (λ j. Entry (get_or xs k d).place j (at + size * k)) (entries_answer μ m leaf (at + size * (k + 1)) size (map (decoded μ bytes) (drop (k + 1) xs))) ≡ entries_answer μ m leaf (at + size * k) size (map (decoded μ bytes) (drop k xs))
  entry_step at size k bytes xs d i w t o lt from held same found =
      let e = get_or xs k d in
      let all : m.customers + 1 - 0 ≡ m.customers + 1 = omega arith in
      let next : at + size * (k + 1) ≡ at + size * k + size = omega arith in
      ap₂ (λ p i. unless p (λ j. Entry e.place j (at + size * k)) (entries_answer μ m leaf i size (map (decoded μ bytes) (drop (k + 1) xs)))) (found ∙ ap (λ j. first_refused (arc_ok μ m leaf w t j) 0 (m.customers + 1 - 0)) from ∙ ap₂ (λ v s. first_refused (arc_ok μ m leaf v s e.place) 0 (m.customers + 1 - 0)) held same ∙ ap (first_refused (arc_ok μ m leaf e.value (decoded μ bytes e).corner e.place) 0) all) next
      ∙ sym (at_drop_more (λ l. entries_answer μ m leaf (at + size * k) size (map (decoded μ bytes) l)) xs k d lt)
