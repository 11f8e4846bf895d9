use Rattle.std.proofs.Common.{◌+◌, None, ◌∙◌, arith, length-set}
use Rattle.std.proofs.lemmas.List.FromFn.{fill_by_all}
use Rattle.std.proofs.lemmas.List.Edits.{fill_by_more}
use Rattle.leaf.specs.Answer.{drive, drives}
use Rattle.leaf.proofs.drives.fill_drives.Goals as goal

pub loop-to-preserved : goal.loop-to-preserved
loop-to-preserved g c =
    let s = c.loop-to in
    (simp length-set (omega arith), rw c.drive_to.ensures (fill_by_more (drive (g.N.Network.meaning c.args.network.now) c.args.from) s.row s.to None (omega arith) s.invariant.1))

pub returns : goal.returns
unfolding drives
returns g c =
    let s = c.loop-to in
    fill_by_all (drive (g.N.Network.meaning c.args.network.now) c.args.from) s.row ((g.N.Network.meaning c.args.network.now).customers + 1) None (s.auto.row ∙ c.requires) (λ i h. s.invariant.1 i (omega arith))
