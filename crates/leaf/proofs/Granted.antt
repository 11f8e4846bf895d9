-- The answer grants a leaf exactly when its rule holds.
use Rattle.std.proofs.Common.{◌≡◌, ℕ, ◌+◌, ◌*◌, ◌≤◌, Bool, true, false, cond, List, [], ◌∷◌, ℤ, pos, ◌+ℤ◌, ◌-ℤ◌, ◌≤ℤ◌, ◌<ℤ◌, Some, None, Ok, Err, Option, Result, sym, refl, ap, ◌∙◌, ⊎_elim, arith}
use lib.Signed.{lt_z, le_z}
use Rattle.std.proofs.lemmas.Int.{ints}
use Rattle.std.proofs.lemmas.Bool.{cond-true, cond-false, cases_eq, eq-eqb, ne_eqb, false≢true}
use Rattle.std.specs.List.{AllByRecursion}
use Rattle.routing.specs.declared.cells.Place.{Place}
use Rattle.routing.specs.declared.cells.Road.{Road}
use Rattle.routing.specs.Network.{Meaning, Limits}
use Rattle.measures.specs.Measure.{Measuring, Laws, after_arc, move, moved}
use Rattle.measures.specs.declared.moves.Move.{Move}
use Rattle.leaf.specs.declared.faults.LeafFault.{LeafFault}
use Rattle.leaf.specs.declared.faults.LeafFault.TheVariants.{Depot, Entry}
use Rattle.leaf.specs.declared.potentials.Potential.{Potential}
use Rattle.leaf.specs.Answer.{arc_ok, drive_along, drive_ok, step_ok, potential_ok, first_refused, unless, entries_answer, depot_answer, bound_answer, rule_answer, leaf_answer}
use Rattle.leaf.specs.Fields.{after, read_leaf}
use Rattle.leaf.specs.Judges.{Judges}
use Rattle.leaf.specs.Record.{Reads, entries_at, entry_size}
use Rattle.leaf.specs.Rule.{Leaf, Holds, Onward, EntryHolds, best, bound, dual}
use Rattle.leaf.proofs.Bounds.{leaf_bounds}
use Rattle.leaf.proofs.Firsts.{all_pass, pass_all}
use Rattle.leaf.proofs.Saying.{after_ok, reads_from, reads_to}

le_from_test : (a b : ℤ) → le_z a b ≡ true → a ≤ℤ b
le_from_test a b e = grind (arith, ints)

test_from_le : (a b : ℤ) → a ≤ℤ b → le_z a b ≡ true
test_from_le a b le = grind (arith, ints)

lt_from_test : (a b : ℤ) → lt_z a b ≡ true → a <ℤ b
lt_from_test a b e = grind (arith, ints)

test_from_lt : (a b : ℤ) → a <ℤ b → lt_z a b ≡ true
test_from_lt a b lt = grind (arith, ints)

module _ {S : Type 0} (μ : Measuring S) (m : Meaning) (leaf : Leaf S) (v : ℤ) (s : S) (i j : ℕ) where
  -- the test of a drive along a road, whether or not the move and the step are there
  along_step : (road : Road) (by : Option Move) → drive_ok μ leaf v s j (drive_along (Some road) by) ≡ step_ok μ leaf v j road.cost (moved μ s by)
  along_step road None = refl
  along_step road (Some by) = refl

  road_step : (road : Road) → m.arc i j ≡ Some road → arc_ok μ m leaf v s i j ≡ step_ok μ leaf v j road.cost (after_arc μ m s i j)
  road_step road is = ap (λ a. drive_ok μ leaf v s j (drive_along a (move m i j))) is ∙ along_step road (move m i j)

  reached : (road : Road) → m.arc i j ≡ Some road → (y : S) → after_arc μ m s i j ≡ Some y → arc_ok μ m leaf v s i j ≡ true → step_ok μ leaf v j road.cost (Some y) ≡ true
  reached road is y steps e = ap (step_ok μ leaf v j road.cost) (sym steps) ∙ sym (road_step road is) ∙ e

  potential_met : (least : ℤ) (o : Option ℤ) → potential_ok v least o ≡ true → (h : ℤ) × (o ≡ Some h) × (v ≤ℤ (least +ℤ h))
  potential_met least None e = absurd (false≢true e)
  potential_met least (Some h) e = (h, refl, le_from_test v (least +ℤ h) e)

  met_onward : 1 ≤ j → arc_ok μ m leaf v s i j ≡ true → Onward μ m leaf v s i j
  met_onward low e road is y steps =
      potential_met _ (best μ leaf.entries j y) (sym (cond-false _ _ _ (ne_eqb j 0 (λ z. omega arith))) ∙ reached road is y steps e)

  met_home : j ≡ 0 → arc_ok μ m leaf v s i j ≡ true → (road : Road) → m.arc i j ≡ Some road → (y : S) → after_arc μ m s i j ≡ Some y → v ≤ℤ pos (leaf.scale * road.cost)
  met_home home e road is y steps =
      le_from_test v _ (sym (cond-true _ _ _ (eq-eqb j 0 home)) ∙ reached road is y steps e)

  -- an arc that is absent asks nothing, nor does a step
  absent_ok : (arc : Option Road) → m.arc i j ≡ arc → ((road : Road) → arc ≡ Some road → step_ok μ leaf v j road.cost (after_arc μ m s i j) ≡ true) → arc_ok μ m leaf v s i j ≡ true
  absent_ok None is kept = ap (λ a. drive_ok μ leaf v s j (drive_along a (move m i j))) is
  absent_ok (Some road) is kept = road_step road is ∙ kept road refl

  step_onward : (cost : ℕ) (o : Option S) → 1 ≤ j → ((y : S) → o ≡ Some y → (h : ℤ) × (best μ leaf.entries j y ≡ Some h) × (v ≤ℤ ((pos (leaf.scale * cost) -ℤ dual leaf j) +ℤ h))) → step_ok μ leaf v j cost o ≡ true
  step_onward cost None low asks = refl
  step_onward cost (Some y) low asks =
      let told = asks y refl in
      cond-false _ _ _ (ne_eqb j 0 (λ z. omega arith)) ∙ ap (potential_ok v (pos (leaf.scale * cost) -ℤ dual leaf j)) told.1 ∙ test_from_le v _ told.2

  step_home : (cost : ℕ) (o : Option S) → j ≡ 0 → ((y : S) → o ≡ Some y → v ≤ℤ pos (leaf.scale * cost)) → step_ok μ leaf v j cost o ≡ true
  step_home cost None home asks = refl
  step_home cost (Some y) home asks = cond-true _ _ _ (eq-eqb j 0 home) ∙ test_from_le v _ (asks y refl)

  onward_met : 1 ≤ j → Onward μ m leaf v s i j → arc_ok μ m leaf v s i j ≡ true
  onward_met low asks = absent_ok (m.arc i j) refl (λ road is. step_onward road.cost (after_arc μ m s i j) low (asks road is))

  home_met : j ≡ 0 → ((road : Road) → m.arc i j ≡ Some road → (y : S) → after_arc μ m s i j ≡ Some y → v ≤ℤ pos (leaf.scale * road.cost)) → arc_ok μ m leaf v s i j ≡ true
  home_met home asks = absent_ok (m.arc i j) refl (λ road is. step_home road.cost (after_arc μ m s i j) home (asks road is))

unless_ok : (o : Option ℕ) (fault : ℕ → LeafFault) (next : Result (Unit {0}) LeafFault) → unless o fault next ≡ Ok tt → (o ≡ None) × (next ≡ Ok tt)
unless_ok None fault next e = (refl, e)
unless_ok (Some j) fault next e = absurd (let z : ◌≡◌ {A = ℕ} 0 1 = cc in omega arith)

module _ {S : Type 0} (μ : Measuring S) (m : Meaning) (leaf : Leaf S) (limits : Limits m) where
  -- towards every customer, where those up to the last pass
  onward_all : (v : ℤ) (s : S) (i : ℕ) → ((j : ℕ) → 1 ≤ j → j ≤ m.customers → arc_ok μ m leaf v s i j ≡ true) → (j : ℕ) → 1 ≤ j → Onward μ m leaf v s i j
  onward_all v s i pass j low road is = met_onward μ m leaf v s i j low (pass j low (limits.arcs i j road is).end) road is

  entry_holds : (e : Potential S) → first_refused (arc_ok μ m leaf e.value e.corner e.place) 0 (m.customers + 1) ≡ None → EntryHolds μ m leaf e
  entry_holds e none =
      let pass = all_pass (arc_ok μ m leaf e.value e.corner e.place) 0 (m.customers + 1) none in
      (met_home μ m leaf e.value e.corner e.place 0 refl (pass 0 (omega arith) (omega arith)), onward_all e.value e.corner e.place (λ j low high. pass j (omega arith) (omega arith)))

  entry_passes : (e : Potential S) → EntryHolds μ m leaf e → first_refused (arc_ok μ m leaf e.value e.corner e.place) 0 (m.customers + 1) ≡ None
  entry_passes e holds =
      pass_all (arc_ok μ m leaf e.value e.corner e.place) 0 (m.customers + 1) (λ k low high. ⊎_elim (λ home. home_at k home) (λ onward. onward_met μ m leaf e.value e.corner e.place k (omega (arith, onward)) (holds.1 k (omega (arith, onward)))) (cases_eq k 0))
    where
      home_at : (k : ℕ) → k ≡ 0 → arc_ok μ m leaf e.value e.corner e.place k ≡ true
      home_at k home =
          ap (arc_ok μ m leaf e.value e.corner e.place) home ∙ home_met μ m leaf e.value e.corner e.place 0 refl holds.0

  entries_hold : (at size : ℕ) (es : List (Potential S)) → entries_answer μ m leaf at size es ≡ Ok tt → AllByRecursion (EntryHolds μ m leaf) es
  entries_hold at size [] e = tt
  entries_hold at size (x ∷ es) e =
      let parts = unless_ok _ (λ j. Entry x.place j at) _ e in (entry_holds x parts.0, entries_hold (at + size) size es parts.1)

  entries_pass : (at size : ℕ) (es : List (Potential S)) → AllByRecursion (EntryHolds μ m leaf) es → entries_answer μ m leaf at size es ≡ Ok tt
  entries_pass at size [] all = refl
  entries_pass at size (x ∷ es) all =
      ap (λ o. unless o (λ j. Entry x.place j at) (entries_answer μ m leaf (at + size) size es)) (entry_passes x all.0) ∙ entries_pass (at + size) size es all.1

  depot_holds : depot_answer μ m leaf (m.place 0) ≡ Ok tt → (p : Place) → m.place 0 ≡ Some p → (j : ℕ) → 1 ≤ j → Onward μ m leaf leaf.van_price (μ.start p.opening) 0 j
  depot_holds e p is =
      let s = μ.start p.opening in
      let parts = unless_ok _ Depot (Ok tt) (ap (depot_answer μ m leaf) (sym is) ∙ e) in
      onward_all leaf.van_price s 0 (λ j low high. all_pass (arc_ok μ m leaf leaf.van_price s 0) 1 m.customers parts.0 j low (omega arith))

  depot_passes : (o : Option Place) → ((p : Place) → o ≡ Some p → (j : ℕ) → 1 ≤ j → Onward μ m leaf leaf.van_price (μ.start p.opening) 0 j) → depot_answer μ m leaf o ≡ Ok tt
  depot_passes None holds = refl
  depot_passes (Some p) holds =
      let s = μ.start p.opening in
      ap (λ o. unless o Depot (Ok tt)) (pass_all (arc_ok μ m leaf leaf.van_price s 0) 1 m.customers (λ k low high. onward_met μ m leaf leaf.van_price s 0 k low (holds p refl k low)))

  bound_test : (b : Bool) (f : LeafFault) → ◌≡◌ {A = Result (Unit {0}) LeafFault} (cond b (Ok tt) (Err f)) (Ok tt) → b ≡ true
  bound_test true f e = refl
  bound_test false f e = absurd (let z : ◌≡◌ {A = ℕ} 0 1 = cc in omega arith)

  rule_holds : (z : ℕ) → rule_answer μ m leaf z ≡ Ok tt → Holds μ m leaf z
  rule_holds z e =
      let first = after_ok (entries_answer μ m leaf (entries_at m.customers) (entry_size μ.words) leaf.entries) _ tt e in
      let second = after_ok (depot_answer μ m leaf (m.place 0)) _ tt first.2 in
      record {
        entries = entries_hold (entries_at m.customers) (entry_size μ.words) leaf.entries first.1;
        depot = depot_holds second.1;
        bounds = lt_from_test _ (bound m leaf) (bound_test _ _ second.2);
      }

  rule_passes : (z : ℕ) → Holds μ m leaf z → rule_answer μ m leaf z ≡ Ok tt
  rule_passes z holds =
      ap (λ r. after r λ _. after (depot_answer μ m leaf (m.place 0)) λ _. bound_answer m leaf z) (entries_pass (entries_at m.customers) (entry_size μ.words) leaf.entries holds.entries)
      ∙ ap (λ r. after r λ _. bound_answer m leaf z) (depot_passes (m.place 0) holds.depot)
      ∙ cond-true _ _ _ (test_from_lt _ (bound m leaf) holds.bounds)

pub judged : {S : Type 0} (μ : Measuring S) (m : Meaning) (bytes : List ℕ) (z : ℕ) → Laws μ → Limits m → (r : Result (Unit {0}) LeafFault) → r ≡ leaf_answer μ m bytes z → Judges μ m bytes z r
judged {S} μ m bytes z laws limits r is = record {
  granted_holds = found;
  holds_granted = λ leaf reads holds. is ∙ ap (λ r. after r λ l. rule_answer μ m l z) (reads_to μ m.customers bytes leaf reads) ∙ rule_passes μ m leaf limits z holds;
  granted_bounds = λ e. let it = found e in leaf_bounds μ m it.0 z laws limits it.1.duals_long it.1.scale_small.0 it.2;
}
  where
    found : r ≡ Ok tt → (leaf : Leaf S) × Reads μ m.customers bytes leaf × Holds μ m leaf z
    found e =
        let read = after_ok (read_leaf μ m.customers bytes) _ tt (sym is ∙ e) in
        (read.0, reads_from μ m.customers bytes read.0 read.1, rule_holds μ m read.0 limits z read.2)
