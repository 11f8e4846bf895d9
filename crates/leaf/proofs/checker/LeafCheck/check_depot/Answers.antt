use Rattle.std.proofs.Common.{Some, None, sym, ◌∙◌, rules, w64}
use Rattle.std.proofs.lemmas.Int.{to_z-of_z}
use Rattle.leaf.specs.Held.{leaf_of}
use Rattle.leaf.proofs.Rows.{depot_step}
use Rattle.leaf.proofs.checker.LeafCheck.check_depot.Goals as goal

pub returns-in-Some : goal.returns-in-Some
returns-in-Some g c =
    let x = c.args.self.now in
    let μ = g.M.Measure.meaning x.measure.now in
    depot_step μ (g.N.Network.meaning x.network.now) (leaf_of μ x.leaf) c.unwrap-depot.result _ _ c.start-state.result (Some c.in-Some.to) (sym c.place.ensures ∙ c.unwrap-depot.ensures) c.leaving-drives.ensures.there (to_z-of_z w64 x.leaf.price (search rules)) c.start-state.ensures c.in-Some.ensures

pub returns : goal.returns
returns g c =
    let x = c.args.self.now in
    let μ = g.M.Measure.meaning x.measure.now in
    depot_step μ (g.N.Network.meaning x.network.now) (leaf_of μ x.leaf) c.unwrap-depot.result _ _ c.start-state.result None (sym c.place.ensures ∙ c.unwrap-depot.ensures) c.leaving-drives.ensures.there (to_z-of_z w64 x.leaf.price (search rules)) c.start-state.ensures c.in_default.ensures
