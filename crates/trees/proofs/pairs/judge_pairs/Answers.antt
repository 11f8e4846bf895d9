use Rattle.std.proofs.Common.{◌+◌, ◌-◌, Err, sym, ap, ◌∙◌, arith}
use Rattle.std.proofs.lemmas.Result.{err_from_is_err_and}
use Rattle.trees.specs.Tree.{pairs_answer, after}
use Rattle.trees.proofs.Directory.{pair_more}
use Rattle.trees.proofs.pairs.judge_pairs.Goals as goal

pub returns-in_err-from : goal.returns-in_err-from
returns-in_err-from c =
    let s = c.loop-k in
    let bytes = c.args.bytes.now in
    let p = err_from_is_err_and c.from_residual.result c.from_residual.ensures.1 in
    p.1 ∙ ap Err p.2 ∙ ap (λ r. after r λ end. pairs_answer bytes (s.k + 1) end (c.args.count - (s.k + 1))) c.in_err-from.ensures ∙ sym (pair_more bytes s.k s.from c.args.count (omega arith)) ∙ s.invariant

pub loop-k-preserved : goal.loop-k-preserved
loop-k-preserved c =
    let s = c.loop-k in
    let bytes = c.args.bytes.now in
    ap (λ r. after r λ end. pairs_answer bytes (s.k + 1) end (c.args.count - (s.k + 1))) c.in_ok-from.ensures ∙ sym (pair_more bytes s.k s.from c.args.count (omega arith)) ∙ s.invariant
