-- The verdict that is due to a case, a plan and a tree, from their bytes.
use Rattle.std.specs.Prelude.{◌≡◌, ℕ, List, Ok, Err, Result}
use Rattle.routing.specs.Network.{Meaning}
use Rattle.replay.specs.declared.vans.Priced.{Priced}
use Rattle.texts.specs.Written.{PlanText}
use Rattle.files.specs.Reading.{CaseNetwork, Denied}
use Rattle.files.specs.Judging.{counted}
use Rattle.files.specs.declared.lines.Line.{Line}
use Rattle.measures.specs.Time.{time_measuring}
use Rattle.measures.specs.Load.{load_measuring}
use Rattle.measures.specs.Pair.{pair_measuring}
use Rattle.checking.specs.declared.calls.Standing.{Standing}
use Rattle.checking.specs.declared.calls.Standing.TheVariants.{Proved}
use Rattle.checking.specs.Calls.{State, Attempt, opening, present, standing}
use Rattle.checking.specs.Promise.{Cheapest}
use Rattle.trees.specs.declared.faults.TreeFault.{TreeFault}
use Rattle.trees.specs.declared.kind.Kind.{Kind}
use Rattle.trees.specs.declared.kind.Kind.TheVariants.{Time, Load, TimeLoad}
use Rattle.trees.specs.declared.head.TreeHead.{TreeHead}
use Rattle.trees.specs.Tree.{tree_answer}
use Rattle.verdict.specs.declared.faults.JudgeFault.{JudgeFault}
use Rattle.verdict.specs.declared.faults.JudgeFault.TheVariants.{Refused, NotPresented, TreeRefused, AtNode}
use Rattle.verdict.specs.Lines.{verdict_line}
use Rattle.verdict.specs.Nodes.{next, walk}

abbrev pub presented : Attempt Priced → Result State JudgeFault
presented (Ok a) = Ok a.0
presented (Err f) = Err (NotPresented f)

abbrev pub tree_read : Result TreeHead TreeFault → Result TreeHead JudgeFault
tree_read (Ok h) = Ok h
tree_read (Err f) = Err (TreeRefused f)

-- the records, by the measure that the head names
abbrev pub walk_by : Kind → Meaning → List ℕ → State → ℕ → Result State JudgeFault
walk_by Time m tree s count = walk time_measuring m tree s 0 count
walk_by Load m tree s count = walk load_measuring m tree s 0 count
walk_by TimeLoad m tree s count = walk (pair_measuring time_measuring load_measuring) m tree s 0 count

-- a check over the network is presented the listing, takes the tree's records, and is asked
abbrev pub judged : Meaning → List ℕ → List ℕ → Result Standing JudgeFault
judged m listing tree =
    next (presented (present m opening listing)) λ s.
    next (tree_read (tree_answer tree m.customers)) λ h.
    next (walk_by h.kind m tree s h.count) λ t.
    Ok (standing t)

-- both texts are read: the case text is that of a network, the plan text that of a listing. Where the verdict is proved at a
-- cost, some plan of the network costs exactly that, and none costs less
pub record TextsRead (case plan tree : List ℕ) (r : Result Standing JudgeFault) : Type 0 where
  pub network : Meaning
  pub is_network : CaseNetwork case network
  pub listing : List ℕ
  pub is_listing : PlanText plan listing
  pub answer : r ≡ judged network listing tree
  pub optimal : (c : ℕ) → r ≡ Ok (Proved c) → Cheapest network c

abbrev pub FilesJudged : List ℕ → List ℕ → List ℕ → Result Standing JudgeFault → Type 0
FilesJudged case plan tree (Ok standing) = TextsRead case plan tree (Ok standing)
FilesJudged case plan tree (Err (Refused f)) = Denied case plan f
FilesJudged case plan tree (Err (NotPresented f)) = TextsRead case plan tree (Err (NotPresented f))
FilesJudged case plan tree (Err (TreeRefused f)) = TextsRead case plan tree (Err (TreeRefused f))
FilesJudged case plan tree (Err (AtNode n)) = TextsRead case plan tree (Err (AtNode n))

-- the line for the three files, each counted as empty above 65,536 bytes
pub record LineFor (case plan tree : List ℕ) (line : Line) : Type 0 where
  pub verdict : Result Standing JudgeFault
  pub due : FilesJudged (counted case) (counted plan) (counted tree) verdict
  pub is : line ≡ verdict_line verdict
