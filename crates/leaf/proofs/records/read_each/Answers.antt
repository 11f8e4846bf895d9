use Rattle.std.proofs.Common.{ℕ, ◌+◌, ◌*◌, ◌^◌, ◌<◌, length, sym, mul-le-mul_left, arith, length-set}
use Rattle.std.proofs.lemmas.Result.{err_from_is_err_and}
use Rattle.leaf.proofs.Reading.{read_more, read_broken, read_all}
use Rattle.leaf.proofs.records.read_each.Goals as goal

-- each offset is in range
inside : (at size k n : ℕ) → k < n → at + size * n < 2 ^ 64 → at + size * k < 2 ^ 64
inside at size k n lt all = omega (arith, mul-le-mul_left size lt)

pub returns-in_err-slot : goal.returns-in_err-slot
returns-in_err-slot g c each says =
    let s = c.loop-k in
    let a = c.args in
    let p = err_from_is_err_and c.from_residual.result c.from_residual.ensures.1 in
    let here = sym (says (a.at + a.size * s.k) _ (inside a.at a.size s.k _ c.loop-k-test.true c.requires.fits) c.in_err-slot.ensures) in
    rw (p.1, p.2) (read_broken each a.at a.size (length a.room.now) s.room s.k _ c.loop-k-test.true here (s.invariant.1 each says))

pub loop-k-preserved : goal.loop-k-preserved
loop-k-preserved g c =
    let s = c.loop-k in
    let a = c.args in (
      simp length-set (omega arith),
      λ each says.
          let here = sym (says (a.at + a.size * s.k) _ (inside a.at a.size s.k _ c.loop-k-test.true c.requires.fits) c.in_ok-slot.ensures) in
          read_more each a.at a.size (length a.room.now) s.room s.k _ c.loop-k-test.true s.auto.room here (s.invariant.1 each says),
    )

pub returns : goal.returns
returns g c each says =
    let s = c.loop-k in
    read_all each c.args.at c.args.size (length c.args.room.now) s.room s.k c.loop-k-test.false s.auto.room (s.invariant.1 each says)
