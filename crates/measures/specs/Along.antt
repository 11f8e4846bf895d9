-- The move along an arc that is driven, and numbers within a limit.
use Rattle.std.specs.Prelude.{◌≡◌, ℕ, ◌≤◌, Bool, true, false, cond, Some, None, nat_lt, refl}
use Rattle.std.proofs.Common.{ap, arith}
use Rattle.std.proofs.lemmas.Bool.{cond-false, le-ltb, ltb-false}
use Rattle.routing.specs.Network.{Meaning}
use Rattle.routing.specs.Routes.{Drive}
use Rattle.measures.specs.declared.moves.Move.{Move}
use Rattle.measures.specs.Measure.{Measuring, move, move_along, moved, after_arc}
use Rattle.measures.specs.Words.{within}

pub within_some : (most n : ℕ) → n ≤ most → within most n ≡ Some n
within_some most n le = cond-false _ _ _ (le-ltb most n le)

-- a number that a limit let through
pub record Let (most n y : ℕ) : Type 0 where
  pub is : n ≡ y
  pub low : n ≤ most

picked : (b : Bool) (n y : ℕ) → cond b None (Some n) ≡ Some y → (b ≡ false) × (n ≡ y)
picked true n y e = absurd (let z : ◌≡◌ {A = ℕ} 0 1 = cc in omega arith)
picked false n y e = (refl, (cc))

pub within_let : (most n y : ℕ) → within most n ≡ Some y → Let most n y
within_let most n y e = let p = picked (nat_lt most n) n y e in record { is = p.1; low = ltb-false most n p.0 }

-- the move of a drive
abbrev pub drive_move : (m : Meaning) (i j : ℕ) → Drive m i j → Move
drive_move m i j d = move_along m i j d.left d.reached d.road

pub drive_is : (m : Meaning) (i j : ℕ) (d : Drive m i j) → move m i j ≡ Some (drive_move m i j d)
drive_is m i j d = simp (d.left_is, d.reached_is, d.arc_is)

pub after_drive : {S : Type 0} (μ : Measuring S) (m : Meaning) (s : S) (i j : ℕ) (d : Drive m i j) → after_arc μ m s i j ≡ μ.step s (drive_move m i j d)
after_drive μ m s i j d = ap (moved μ s) (drive_is m i j d)
