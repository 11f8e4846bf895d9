-- The byte that says what a tree's corners measure.
use Rattle.std.specs.Prelude.{◌≡◌, ℕ, cond, Some, None, Ok, Err, Option, Result, ◌==◌}
use Rattle.trees.specs.declared.kind.Kind.{Kind}
use Rattle.trees.specs.declared.kind.Kind.TheVariants.{Time, Load, TimeLoad}
use Rattle.trees.specs.declared.kind.UnknownKind.{UnknownKind}

abbrev pub kind_of : ℕ → Option Kind
kind_of b = cond (b == 1) (Some Time) (cond (b == 2) (Some Load) (cond (b == 3) (Some TimeLoad) None))

abbrev pub KindRead : ℕ → Result Kind UnknownKind → Type 0
KindRead b (Ok kind) = kind_of b ≡ Some kind
KindRead b (Err e) = kind_of b ≡ None
