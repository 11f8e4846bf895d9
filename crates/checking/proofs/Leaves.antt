-- What a leaf's answer says: it bounds every plan, and a leaf whose rule holds is granted.
use Rattle.std.proofs.Common.{◌≡◌, ℕ, ◌≤◌, List, Ok, refl}
use Rattle.routing.specs.Network.{Meaning, Limits}
use Rattle.routing.specs.Routes.{Plan, plan_cost}
use Rattle.measures.specs.Measure.{Measuring, Laws}
use Rattle.leaf.specs.Answer.{leaf_answer}
use Rattle.leaf.specs.Record.{Reads}
use Rattle.leaf.specs.Rule.{Leaf, Holds}
use Rattle.leaf.proofs.Granted.{judged}

pub answer_bounds : {S : Type 0} (μ : Measuring S) → Laws μ → (n : Meaning) → Limits n → (bytes : List ℕ) (z : ℕ) → leaf_answer μ n bytes z ≡ Ok tt → (routes : List (List ℕ)) → Plan n routes → z ≤ plan_cost n routes
answer_bounds μ laws n lawful bytes z e routes plan = (judged μ n bytes z laws lawful (leaf_answer μ n bytes z) refl).granted_bounds e routes plan

pub answer_opens : {S : Type 0} (μ : Measuring S) → Laws μ → (n : Meaning) → Limits n → (bytes : List ℕ) (z : ℕ) (l : Leaf S) → Reads μ n.customers bytes l → Holds μ n l z → leaf_answer μ n bytes z ≡ Ok tt
answer_opens μ laws n lawful bytes z l reads holds = (judged μ n bytes z laws lawful (leaf_answer μ n bytes z) refl).holds_granted l reads holds
