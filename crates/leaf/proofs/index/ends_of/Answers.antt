use Rattle.std.proofs.Common.{◌≢◌, sym, subst, leb, arith, rules, length-set, get_or-set_other, get_or-set_same, below_more}
use borrow.Author.Tests.{tests}
use Rattle.std.proofs.lemmas.Bool.{leb-true, leb-false}
use Rattle.std.proofs.lemmas.List.Sorted.{IsPartitionPoint-from_clause, IsPartitionedBy-leb}
use Rattle.leaf.specs.Stored.{EndsAt}
use Rattle.leaf.proofs.index.ends_of.Goals as goal

pub loop-place-preserved : goal.loop-place-preserved
loop-place-preserved c =
    let s = c.loop-place in
    let xs = c.args.sorted.now in
    let j = s.place-counter in
    let r = c.partition_point.result in
    let p = IsPartitionPoint-from_clause (λ e. leb e.place j) xs r c.partition_point.ensures.partitioned (IsPartitionedBy-leb (λ e. e.place) xs j c.requires.places) (λ x r q k. search (rules, tests)) in
    let here : EndsAt xs j r = record { within = c.partition_point.ensures.bound; upto = λ i d lt. leb-true _ _ (p.0 i d (omega arith) lt); above = λ i d low lt. leb-false _ _ (p.1 i d low lt) } in (
      simp length-set (omega arith),
      below_more _ _
          (λ k lt. let other : k ≢ j = omega arith in subst (EndsAt xs k) (sym (get_or-set_other s.end-items j k r 0 other)) (s.invariant.1 k lt))
          (subst (EndsAt xs j) (sym (get_or-set_same s.end-items j r 0 (omega arith))) here),
    )
