-- What a case's text says, and what reading it answers and writes.
use Rattle.std.specs.Prelude.{◌≡◌, ℕ, ◌+◌, ◌*◌, cond, ◌||◌, List, map, length, take, drop, Ok, Err, Option, Result, nat_lt}
use Rattle.std.specs.Option.{option_map}
use Rattle.routing.specs.declared.cells.Head.{Head}
use Rattle.routing.specs.declared.cells.Place.{Place}
use Rattle.routing.specs.declared.cells.Road.{Road}
use Rattle.texts.specs.declared.faults.TextFault.{TextFault}
use Rattle.texts.specs.declared.faults.TextFault.TheVariants.{ShortTable}
use Rattle.texts.specs.Judging.{State, Judged, start, ◌>>=◌, nothing_after}
use Rattle.texts.specs.Arcs.{road_fields}
use Rattle.texts.specs.Lines.{Heading, Stop, head_due, head_fields, place_fields}
use Rattle.texts.specs.Tables.{places_due, rows_due}

-- a head's numbers, each place's, and the arcs row by row
pub record Case : Type 0 where
  pub head : Heading
  pub places : List Stop
  pub arcs : List (Option (ℕ × ℕ))

-- the number of places: the customers and the depot
abbrev pub side : Heading → ℕ
side h = h.customers + 1

-- the lines of a case
abbrev pub case_due : State → Judged Case
case_due s =
    head_due s >>= λ h s.
    places_due (side h) s >>= λ places s.
    rows_due (side h) s >>= λ arcs s.
    Ok (record { head = h; places = places; arcs = arcs }, s)

abbrev pub when : {X : Type 0} → Result (Unit {0}) TextFault → X → Result X TextFault
when (Ok u) x = Ok x
when (Err f) x = Err f

unfoldable pub case_judged : List ℕ → Result Case TextFault
case_judged text = case_due (start text) >>= λ c s. when (nothing_after s) c

-- the tables' lengths are looked at last
abbrev pub fits_tables : ℕ → ℕ → Result Case TextFault → Result Case TextFault
fits_tables places arcs (Err f) = Err f
fits_tables places arcs (Ok c) =
    cond (nat_lt places (side c.head) || nat_lt arcs (side c.head * side c.head)) (Err ShortTable) (Ok c)

-- what reading a text answers, with tables of these lengths lent
abbrev pub case_answer : List ℕ → ℕ → ℕ → Result Case TextFault
case_answer text places arcs = fits_tables places arcs (case_judged text)

-- the case in a head and the fronts of two tables
abbrev pub case_of : Head → List Place → List (Option Road) → Case
case_of h places arcs = record {
  head = head_fields h;
  places = map place_fields (take (side (head_fields h)) places);
  arcs = map (option_map road_fields) (take (side (head_fields h) * side (head_fields h)) arcs);
}

abbrev pub CaseJudged : Result Head TextFault → List Place → List (Option Road) → Result Case TextFault → Type 0
CaseJudged (Err f) places arcs j = j ≡ Err f
CaseJudged (Ok h) places arcs j = j ≡ Ok (case_of h places arcs)

-- granted, the case stands in the fronts of the tables, which are else as they were
pub record Granted (text : List ℕ) (places : List Place) (arcs : List (Option Road)) (h : Head) (places' : List Place) (arcs' : List (Option Road)) : Type 0 where
  pub answer : case_answer text (length places) (length arcs) ≡ Ok (case_of h places' arcs')
  pub places_kept : drop (side (head_fields h)) places' ≡ drop (side (head_fields h)) places
  pub arcs_kept : drop (side (head_fields h) * side (head_fields h)) arcs' ≡ drop (side (head_fields h) * side (head_fields h)) arcs

-- refused, nothing was written
pub record Denied (text : List ℕ) (places : List Place) (arcs : List (Option Road)) (f : TextFault) (places' : List Place) (arcs' : List (Option Road)) : Type 0 where
  pub answer : case_answer text (length places) (length arcs) ≡ Err f
  pub places_kept : places' ≡ places
  pub arcs_kept : arcs' ≡ arcs

abbrev pub CaseRead : List ℕ → List Place → List (Option Road) → Result Head TextFault → List Place → List (Option Road) → Type 0
CaseRead text places arcs (Ok h) places' arcs' = Granted text places arcs h places' arcs'
CaseRead text places arcs (Err f) places' arcs' = Denied text places arcs f places' arcs'
