-- What the test of one arc comes to, where the drive and the step are there.
use Rattle.std.proofs.Common.{◌≡◌, ℕ, ◌*◌, ℤ, pos, ◌-ℤ◌, Some, Option, ap, ◌∙◌}
use Rattle.std.proofs.lemmas.Bool.{cond-false, ne_eqb}
use Rattle.measures.specs.Measure.{Measuring}
use Rattle.leaf.specs.declared.drives.Drive.{Drive}
use Rattle.leaf.specs.Answer.{drive_ok, step_ok, potential_ok}
use Rattle.leaf.specs.Rule.{Leaf, best, dual}

pub ok_onward : {S : Type 0} (μ : Measuring S) (leaf : Leaf S) (v : ℤ) (s : S) (j : ℕ) (drive : Option Drive) (d : Drive) (y : S) → drive ≡ Some d → μ.step s d.by ≡ Some y → (j ≡ 0 → ⊥) → (o : Option ℤ) → best μ leaf.entries j y ≡ o → drive_ok μ leaf v s j drive ≡ potential_ok v (pos (leaf.scale * d.road.cost) -ℤ dual leaf j) o
ok_onward μ leaf v s j drive d y is steps onward o top =
    let least = pos (leaf.scale * d.road.cost) -ℤ dual leaf j in
    ap (drive_ok μ leaf v s j) is ∙ ap (step_ok μ leaf v j d.road.cost) steps ∙ cond-false _ _ _ (ne_eqb j 0 onward) ∙ ap (potential_ok v least) top
