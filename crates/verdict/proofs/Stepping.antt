-- One record more, or the one that ends the walk.
use Rattle.std.proofs.Common.{◌≡◌, ℕ, suc, ◌+◌, ◌-◌, ◌<◌, List, Ok, Err, Result, sym, refl, ap, ◌∙◌, subst, arith}
use Rattle.routing.specs.Network.{Meaning}
use Rattle.measures.specs.Measure.{Measuring}
use Rattle.checking.specs.declared.checks.Check.{Check}
use Rattle.checking.specs.Calls.{State}
use Rattle.checking.specs.States.{network_of, state_of}
use Rattle.trees.specs.Tree.{record_answer}
use Rattle.verdict.specs.declared.faults.JudgeFault.{JudgeFault}
use Rattle.verdict.specs.Nodes.{node_taken, next, walk, Reached}
use Rattle.verdict.proofs.Verdicts.{reached_ok, reached_err}

module _ {S N : Type 0} (μ : Measuring S) (meaning : N → Meaning) (tree : List ℕ) (old new : Check N) (network : N) (node count : ℕ) (within : node < count) (same : network_of old ≡ network) (whole : Result State JudgeFault) (so_far : walk μ (meaning network) tree (state_of old) node (count - node) ≡ whole) where
  abbrev taken : Meaning → Result State JudgeFault
  taken m = node_taken μ m (state_of old) node (record_answer tree node)

  unrolled : whole ≡ next (taken (meaning network)) λ t. walk μ (meaning network) tree t (node + 1) (count - (node + 1))
  unrolled = sym so_far ∙ ap (walk μ (meaning network) tree (state_of old) node) (let e : count - node ≡ suc (count - (node + 1)) = omega arith in e)

  pub goes_on : (u : Unit {0}) → Reached (state_of new) (Ok u) (taken (meaning (network_of old))) → walk μ (meaning network) tree (state_of new) (node + 1) (count - (node + 1)) ≡ whole
  goes_on u reached =
      sym (unrolled ∙ ap (λ r. next r λ t. walk μ (meaning network) tree t (node + 1) (count - (node + 1))) (reached_ok (state_of new) u (taken (meaning network)) (subst (λ n. Reached (state_of new) (Ok u) (taken (meaning n))) same reached)))

  pub ends : (f : JudgeFault) (r : Result (Unit {0}) JudgeFault) → r ≡ Err f → Reached (state_of new) (Err f) (taken (meaning (network_of old))) → Reached (state_of new) r whole
  ends f r is reached =
      let end = unrolled ∙ ap (λ r. next r λ t. walk μ (meaning network) tree t (node + 1) (count - (node + 1))) (reached_err (state_of new) f (taken (meaning network)) (subst (λ n. Reached (state_of new) (Err f) (taken (meaning n))) same reached)) in
      subst (λ x. Reached (state_of new) x whole) (sym is) (subst (Reached (state_of new) (Err f)) (sym end) refl)
