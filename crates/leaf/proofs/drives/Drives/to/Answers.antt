use Rattle.std.proofs.Common.{◌+◌, get_or, sym, ap, ◌∙◌, arith}
use Rattle.std.proofs.lemmas.List.{get_or-take}
use Rattle.leaf.proofs.Rows.{drives_at}
use Rattle.leaf.proofs.drives.Drives.to.Goals as goal

pub returns : goal.returns
returns g c =
    let x = c.args.self.now in
    let m = g.N.Network.meaning x.network.now in
    let d = c.index-self-place.result in
    sym (get_or-take (m.customers + 1) x.row c.args.place d (omega (arith, c.requires)))
    ∙ ap (λ l. get_or l c.args.place d) x.all
    ∙ drives_at m x.from c.args.place d c.requires
