use Rattle.std.proofs.Common.{ℕ, ◌-◌, ◌≤◌, get_or, arith}
use Rattle.leaf.specs.declared.index.Index.{Index}
use Rattle.leaf.proofs.Ordered.{ends_rise}
use Rattle.leaf.proofs.index.Index.at.Goals as goal

rises : (x : Index) (p : ℕ) → 1 ≤ p → p ≤ 60 → get_or x.ends.now (p - 1) 0 ≤ get_or x.ends.now p 0
rises x p some few =
    ends_rise x.sorted.now (p - 1) p _ _ (omega arith) (x.ended (p - 1) (omega arith)) (x.ended p (omega arith))

pub slice_bounds-result-count : goal.slice_bounds-result-count
slice_bounds-result-count c = rises c.args.self.now c.args.place c.requires.customer c.requires.few

pub slice_bounds-result-start : goal.slice_bounds-result-start
slice_bounds-result-start c = rises c.args.self.now c.args.place c.requires.customer c.requires.few
