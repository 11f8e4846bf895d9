-- Arc words: `-` for no arc, or a cost and a travel with a slash between.
use Rattle.std.specs.Prelude.{ℕ, Bool, cond, ◌&&◌, List, length, Some, None, Ok, Err, Option, Result, ◌==◌, nat_le, slice_index}
use Rattle.std.specs.List.{before_first, after_first}
use Rattle.routing.specs.declared.cells.Road.{Road}
use Rattle.texts.specs.declared.faults.TextFault.{TextFault}
use Rattle.texts.specs.declared.faults.TextFault.TheVariants.{Form, Range}
use Rattle.texts.specs.Judging.{State, Judged, ◌>>=◌, word_due, beside}
use Rattle.texts.specs.Numbers.{numeral}

-- the word of one byte
abbrev pub is_byte : ℕ → List ℕ → Bool
is_byte b w = length w == 1 && slice_index w 0 == b

abbrev pub is_slash : ℕ → Bool
is_slash b = b == 47

abbrev pub road_within : ℕ → Option ℕ → Option ℕ → Result (ℕ × ℕ) TextFault
road_within at None travel = Err (Form at)
road_within at (Some c) None = Err (Form at)
road_within at (Some c) (Some t) = cond (nat_le c 1000000 && nat_le t 60000) (Ok (c, t)) (Err (Range at))

-- the numbers before the first slash and after it
abbrev pub road_at : ℕ → List ℕ → Result (ℕ × ℕ) TextFault
road_at at w = road_within at (numeral (before_first is_slash w)) (numeral (after_first is_slash w))

-- a result by the fields of what it grants
abbrev pub as_fields : {X Y : Type 0} → (X → Y) → Result X TextFault → Result Y TextFault
as_fields f (Ok x) = Ok (f x)
as_fields f (Err e) = Err e

abbrev pub arc_at : Bool → ℕ → List ℕ → Result (Option (ℕ × ℕ)) TextFault
arc_at diagonal at w =
    cond (is_byte 45 w) (Ok None) (cond diagonal (Err (Form at)) (as_fields (λ a. Some a) (road_at at w)))

-- the arc from i to j
abbrev pub arc_due : ℕ → ℕ → State → Judged (Option (ℕ × ℕ))
arc_due i j s = word_due s >>= λ w s. beside (arc_at (i == j) w.0 w.1) s

abbrev pub road_fields : Road → ℕ × ℕ
road_fields a = (a.cost, a.travel)
