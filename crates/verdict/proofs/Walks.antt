-- A walk through a tree's records keeps what every state of a check keeps, so a proved verdict is true.
use Rattle.std.proofs.Common.{◌≡◌, ℕ, zero, suc, ◌+◌, List, Some, None, Ok, Err, Option, Result, refl, ◌∙◌, subst, arith}
use Rattle.routing.specs.Network.{Meaning, Limits}
use Rattle.replay.specs.declared.vans.Priced.{Priced}
use Rattle.measures.specs.Measure.{Measuring, Laws}
use Rattle.measures.specs.Time.{time_measuring}
use Rattle.measures.specs.TimeLaws.{time_laws}
use Rattle.measures.specs.Load.{load_measuring}
use Rattle.measures.specs.LoadLaws.{load_laws}
use Rattle.measures.specs.Pair.{pair_measuring}
use Rattle.measures.specs.PairLaws.{pair_laws}
use Rattle.checking.specs.declared.calls.Grant.{Grant}
use Rattle.checking.specs.declared.calls.Grant.TheVariants.{Presented}
use Rattle.checking.specs.declared.calls.Standing.{Standing}
use Rattle.checking.specs.declared.calls.Standing.TheVariants.{Proved}
use Rattle.checking.specs.Calls.{State, Attempt, opening, present, standing, presenting, attempt, after}
use Rattle.checking.specs.Promise.{Cheapest}
use Rattle.checking.proofs.Soundness.{Sound, opening_sound, step_sound, proved_true, after_granted}
use Rattle.checking.proofs.Leaves.{answer_bounds}
use Rattle.trees.specs.declared.kind.Kind.{Kind}
use Rattle.trees.specs.declared.kind.Kind.TheVariants.{Time, Load, TimeLoad}
use Rattle.trees.specs.Tree.{tree_answer, record_answer}
use Rattle.verdict.specs.declared.faults.JudgeFault.{JudgeFault}
use Rattle.verdict.specs.Judging.{presented, tree_read, walk_by, judged}
use Rattle.verdict.specs.Nodes.{record_request, node_answer, node_taken, next, walk}

went_on : {X Y : Type 0} (r : Result X JudgeFault) (go : X → Result Y JudgeFault) (y : Y) → next r go ≡ Ok y → (x : X) × (r ≡ Ok x) × (go x ≡ Ok y)
went_on (Err f) go y e = absurd (let z : ◌≡◌ {A = ℕ} 0 1 = cc in omega arith)
went_on (Ok x) go y e = (x, refl, e)

ok_same : (s t : State) → ◌≡◌ {A = Result State JudgeFault} (Ok s) (Ok t) → s ≡ t
ok_same s t e = cc

standing_same : (s t : Standing) → ◌≡◌ {A = Result Standing JudgeFault} (Ok s) (Ok t) → s ≡ t
standing_same s t e = cc

node_after : (node offset : ℕ) (s t : State) (a : Attempt Grant) → node_answer node offset a ≡ Ok t → after s a ≡ t
node_after node offset s t (Ok a) e = ok_same a.0 t e
node_after node offset s t (Err f) e = absurd (let z : ◌≡◌ {A = ℕ} 0 1 = cc in omega arith)

presented_after : (s t : State) (a : Attempt Priced) → presented a ≡ Ok t → after s a ≡ t
presented_after s t (Ok a) e = ok_same a.0 t e
presented_after s t (Err f) e = absurd (let z : ◌≡◌ {A = ℕ} 0 1 = cc in omega arith)

module _ {S : Type 0} (μ : Measuring S) (laws : Laws μ) (m : Meaning) (lawful : Limits m) where
  node_sound : (node : ℕ) (s t : State) (found : Option (ℕ × List ℕ)) → Sound m s → node_taken μ m s node found ≡ Ok t → Sound m t
  node_sound node s t None sound e = absurd (let z : ◌≡◌ {A = ℕ} 0 1 = cc in omega arith)
  node_sound node s t (Some r) sound e =
      subst (Sound m) (node_after node r.0 s t (attempt μ m s (record_request r.1)) e) (step_sound m lawful μ (answer_bounds μ laws) s (record_request r.1) sound)

  walk_sound : (tree : List ℕ) (more node : ℕ) (s t : State) → Sound m s → walk μ m tree s node more ≡ Ok t → Sound m t
  walk_sound tree zero node s t sound e = subst (Sound m) (ok_same s t e) sound
  walk_sound tree (suc more) node s t sound e =
      let w = went_on (node_taken μ m s node (record_answer tree node)) _ t e in
      walk_sound tree more (node + 1) w.0 t (node_sound node s w.0 (record_answer tree node) sound w.1) w.2

kind_sound : (kind : Kind) (m : Meaning) → Limits m → (tree : List ℕ) (count : ℕ) (s t : State) → Sound m s → walk_by kind m tree s count ≡ Ok t → Sound m t
kind_sound Time m lawful tree count s t sound e = walk_sound time_measuring time_laws m lawful tree count 0 s t sound e
kind_sound Load m lawful tree count s t sound e = walk_sound load_measuring load_laws m lawful tree count 0 s t sound e
kind_sound TimeLoad m lawful tree count s t sound e =
    walk_sound (pair_measuring time_measuring load_measuring) (pair_laws time_laws load_laws) m lawful tree count 0 s t sound e

pub judged_true : (m : Meaning) → Limits m → (listing tree : List ℕ) (c : ℕ) → judged m listing tree ≡ Ok (Proved c) → Cheapest m c
judged_true m lawful listing tree c e =
    let first = went_on (presented (present m opening listing)) _ (Proved c) e in
    let second = went_on (tree_read (tree_answer tree m.customers)) _ (Proved c) first.2 in
    let h = second.0 in
    let third = went_on (walk_by h.kind m tree first.0 h.count) _ (Proved c) second.2 in
    let start : Sound m first.0 = subst (Sound m) (after_granted opening (λ p. Presented p) (present m opening listing) ∙ presented_after opening first.0 (present m opening listing) first.1) (step_sound m lawful time_measuring (answer_bounds time_measuring time_laws) opening (presenting listing) (opening_sound m)) in
    proved_true m third.0 c (kind_sound h.kind m lawful tree h.count first.0 third.0 start third.1) (standing_same (standing third.0) (Proved c) third.2)
