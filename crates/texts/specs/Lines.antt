-- The lines of a case: its head, a place, and a row of arcs.
use Rattle.std.specs.Prelude.{ℕ, cond, List, Ok, Err, Option, ◌==◌}
use Rattle.routing.specs.declared.cells.Head.{Head}
use Rattle.routing.specs.declared.cells.Place.{Place}
use Rattle.texts.specs.declared.faults.TextFault.TheVariants.{Form}
use Rattle.texts.specs.Judging.{State, Judged, ◌>>=◌, word_due, line_end, times}
use Rattle.texts.specs.Numbers.{number_due}
use Rattle.texts.specs.Arcs.{is_byte, arc_due}

-- the numbers of a case's head and of a place
pub record Heading : Type 0 where
  pub customers : ℕ
  pub capacity : ℕ
  pub least : ℕ
  pub most : ℕ

pub record Stop : Type 0 where
  pub load : ℕ
  pub opening : ℕ
  pub closing : ℕ
  pub service : ℕ

-- the word M
abbrev pub mark_due : State → Judged (Unit {0})
mark_due s = word_due s >>= λ w s. cond (is_byte 77 w.1) (Ok (tt, s)) (Err (Form w.0))

-- the mark, and then the head's numbers
abbrev pub head_due : State → Judged Heading
head_due s =
    mark_due s >>= λ u s.
    number_due 1 60 s >>= λ n s.
    number_due 0 10000 s >>= λ capacity s.
    number_due 0 60 s >>= λ least s.
    number_due least 60 s >>= λ most s.
    line_end s >>= λ u s.
    Ok (record { customers = n; capacity = capacity; least = least; most = most }, s)

-- place i; the depot, place 0, has neither load nor service
abbrev pub place_due : ℕ → State → Judged Stop
place_due i s =
    number_due 0 (cond (i == 0) 0 10000) s >>= λ load s.
    number_due 0 60000 s >>= λ opening s.
    number_due opening 60000 s >>= λ closing s.
    number_due 0 (cond (i == 0) 0 60000) s >>= λ service s.
    line_end s >>= λ u s.
    Ok (record { load = load; opening = opening; closing = closing; service = service }, s)

-- row i has a word for each place, and none but `-` on the diagonal
abbrev pub row_due : ℕ → ℕ → State → Judged (List (Option (ℕ × ℕ)))
row_due side i s = times (arc_due i) 0 side s >>= λ row s. line_end s >>= λ u s. Ok (row, s)

abbrev pub head_fields : Head → Heading
head_fields h = record { customers = h.customers; capacity = h.capacity; least = h.fleet.least; most = h.fleet.most }

abbrev pub place_fields : Place → Stop
place_fields p = record { load = p.load; opening = p.opening; closing = p.closing; service = p.service }
