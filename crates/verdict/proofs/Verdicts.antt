-- The verdict, by how far it comes.
use Rattle.std.proofs.Common.{◌≡◌, ℕ, zero, suc, ◌+◌, List, Some, None, Ok, Err, Option, Result, sym, refl, ap, ◌∙◌, subst, arith}
use Rattle.routing.specs.Network.{Meaning}
use Rattle.replay.specs.declared.vans.Priced.{Priced}
use Rattle.measures.specs.Measure.{Measuring}
use Rattle.measures.specs.Time.{time_measuring}
use Rattle.measures.specs.Load.{load_measuring}
use Rattle.measures.specs.Pair.{pair_measuring}
use Rattle.checking.specs.declared.calls.Grant.{Grant}
use Rattle.checking.specs.declared.calls.Standing.{Standing}
use Rattle.checking.specs.declared.checks.Check.{Check}
use Rattle.checking.specs.Calls.{State, Attempt, opening, present, standing, attempt, after, answer_of}
use Rattle.checking.specs.States.{network_of, state_of, Does}
use Rattle.trees.specs.declared.faults.TreeFault.{TreeFault}
use Rattle.trees.specs.declared.kind.Kind.{Kind}
use Rattle.trees.specs.declared.kind.Kind.TheVariants.{Time, Load, TimeLoad}
use Rattle.trees.specs.declared.head.TreeHead.{TreeHead}
use Rattle.trees.specs.Tree.{tree_answer, record_answer}
use Rattle.verdict.specs.declared.faults.JudgeFault.{JudgeFault}
use Rattle.verdict.specs.declared.faults.JudgeFault.TheVariants.{Refused, NotPresented, TreeRefused, AtNode}
use Rattle.verdict.specs.Judging.{presented, tree_read, walk_by, judged, TextsRead, FilesJudged}
use Rattle.verdict.specs.Nodes.{record_request, node_answer, node_taken, next, walk, Reached}

granted_first : (s : State) (t : Attempt Priced) (p : Priced) → Ok p ≡ answer_of t → presented t ≡ Ok (after s t)
granted_first s (Ok a) p e = refl
granted_first s (Err g) p e = absurd (let z : ◌≡◌ {A = ℕ} 0 1 = cc in omega arith)

pub reached_ok : (s : State) (u : Unit {0}) (r : Result State JudgeFault) → Reached s (Ok u) r → r ≡ Ok s
reached_ok s u (Ok t) same = ap Ok (sym same)
reached_ok s u (Err f) none = absurd none

pub reached_err : (s : State) (f : JudgeFault) (r : Result State JudgeFault) → Reached s (Err f) r → r ≡ Err f
reached_err s f (Ok t) none = absurd none
reached_err s f (Err g) same = ap Err (sym same)

module _ (m : Meaning) (listing tree : List ℕ) where
  abbrev asked : State → TreeHead → Result Standing JudgeFault
  asked s h = next (walk_by h.kind m tree s h.count) λ t. Ok (standing t)

  abbrev headed : State → Result Standing JudgeFault
  headed s = next (tree_read (tree_answer tree m.customers)) λ h. asked s h

  module _ (s now : State) (start : s ≡ opening) (p : Priced) (e : Ok p ≡ answer_of (present m s listing)) (then : now ≡ after s (present m s listing)) (n : ℕ) (n_is : n ≡ m.customers) where
    first : judged m listing tree ≡ headed now
    first =
        ap (λ r. next r headed) (granted_first opening (present m opening listing) p (e ∙ ap (λ x. answer_of (present m x listing)) start) ∙ ap Ok (sym (then ∙ ap (λ x. after x (present m x listing)) start)))

    pub ends_at_walk : (h : TreeHead) (end : State) (r : Result (Unit {0}) JudgeFault) → Ok h ≡ tree_answer tree n → Reached end r (walk_by h.kind m tree now h.count) → judged m listing tree ≡ next r (λ _. Ok (standing end))
    ends_at_walk h end (Ok u) e reached =
        first ∙ ap (λ r. next (tree_read r) λ h. asked now h) (sym (e ∙ ap (tree_answer tree) n_is)) ∙ ap (λ r. next r λ t. Ok (standing t)) (reached_ok end u _ reached)
    ends_at_walk h end (Err f) e reached =
        first ∙ ap (λ r. next (tree_read r) λ h. asked now h) (sym (e ∙ ap (tree_answer tree) n_is)) ∙ ap (λ r. next r λ t. Ok (standing t)) (reached_err end f _ reached)

-- the verdict from what the calls promise
module _ {N : Type 0} (meaning : N → Meaning) (network : N) (c0 c1 c2 : Check N) (listing tree : List ℕ) where
  pub verdict_is : network_of c0 ≡ network → state_of c0 ≡ opening → (p : Priced) → Does c0 (present (meaning (network_of c0)) (state_of c0) listing) c1 (Ok p) → (n : ℕ) → n ≡ (meaning network).customers → (h : TreeHead) → Ok h ≡ tree_answer tree n → (u : Unit {0}) → Reached (state_of c2) (Ok u) (walk_by h.kind (meaning (network_of c1)) tree (state_of c1) h.count) → judged (meaning network) listing tree ≡ Ok (standing (state_of c2))
  verdict_is same start p does n n_is h head u reached =
      let d = subst (λ x. Does c0 (present (meaning x) (state_of c0) listing) c1 (Ok p)) same does in
      ends_at_walk (meaning network) listing tree (state_of c0) (state_of c1) start p d.answer d.state n n_is h (state_of c2) (Ok u) head
      (subst (λ x. Reached (state_of c2) (Ok u) (walk_by h.kind (meaning x) tree (state_of c1) h.count)) (d.network ∙ same) reached)

-- a verdict over a network blames no text
abbrev NoText : JudgeFault → Type 0
NoText (Refused f) = ⊥
NoText (NotPresented f) = Unit {0}
NoText (TreeRefused f) = Unit {0}
NoText (AtNode f) = Unit {0}

abbrev Fine : {X : Type 0} → Result X JudgeFault → Type 0
Fine (Ok x) = Unit {0}
Fine (Err f) = NoText f

next_fine : {X Y : Type 0} (r : Result X JudgeFault) (go : X → Result Y JudgeFault) → Fine r → ((x : X) → Fine (go x)) → Fine (next r go)
next_fine (Ok x) go fine on = on x
next_fine (Err f) go fine on = fine

presented_fine : (t : Attempt Priced) → Fine (presented t)
presented_fine (Ok a) = tt
presented_fine (Err f) = tt

read_fine : (r : Result TreeHead TreeFault) → Fine (tree_read r)
read_fine (Ok h) = tt
read_fine (Err f) = tt

answer_fine : (node offset : ℕ) (t : Attempt Grant) → Fine (node_answer node offset t)
answer_fine node offset (Ok a) = tt
answer_fine node offset (Err f) = tt

module _ {S : Type 0} (μ : Measuring S) (m : Meaning) (tree : List ℕ) where
  taken_fine : (s : State) (node : ℕ) (found : Option (ℕ × List ℕ)) → Fine (node_taken μ m s node found)
  taken_fine s node None = tt
  taken_fine s node (Some r) = answer_fine node r.0 (attempt μ m s (record_request r.1))

  walk_fine : (more node : ℕ) (s : State) → Fine (walk μ m tree s node more)
  walk_fine zero node s = tt
  walk_fine (suc more) node s = next_fine (node_taken μ m s node (record_answer tree node)) (λ t. walk μ m tree t (node + 1) more) (taken_fine s node (record_answer tree node)) (λ t. walk_fine more (node + 1) t)

by_fine : (kind : Kind) (m : Meaning) (tree : List ℕ) (s : State) (count : ℕ) → Fine (walk_by kind m tree s count)
by_fine Time m tree s count = walk_fine time_measuring m tree count 0 s
by_fine Load m tree s count = walk_fine load_measuring m tree count 0 s
by_fine TimeLoad m tree s count = walk_fine (pair_measuring time_measuring load_measuring) m tree count 0 s

judged_fine : (m : Meaning) (listing tree : List ℕ) → Fine (judged m listing tree)
judged_fine m listing tree =
    next_fine (presented (present m opening listing)) (headed m listing tree) (presented_fine (present m opening listing)) λ s.
    next_fine (tree_read (tree_answer tree m.customers)) (asked m listing tree s) (read_fine (tree_answer tree m.customers)) λ h.
    next_fine (walk_by h.kind m tree s h.count) (λ t. Ok (standing t)) (by_fine h.kind m tree s h.count) λ t.
    tt

pub both_read : (case plan tree : List ℕ) (r : Result Standing JudgeFault) (m : Meaning) (listing : List ℕ) → r ≡ judged m listing tree → TextsRead case plan tree r → FilesJudged case plan tree r
both_read case plan tree (Ok standing) m listing e read = read
both_read case plan tree (Err (Refused f)) m listing e read = absurd (subst Fine (sym e) (judged_fine m listing tree))
both_read case plan tree (Err (NotPresented f)) m listing e read = read
both_read case plan tree (Err (TreeRefused f)) m listing e read = read
both_read case plan tree (Err (AtNode f)) m listing e read = read
