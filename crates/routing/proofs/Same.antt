-- Two cells with the same numbers are the same cell.
use Rattle.std.proofs.Common.{◌≡◌, ◌≤◌}
use mathlib.Core.HLevel.{is_prop→PathP}
use native.Mathlib.Bridge.{le_prop}
use Rattle.routing.specs.declared.cells.Place.{Place}
use Rattle.routing.specs.declared.cells.Road.{Road}

pub same_place : (p q : Place) → p.load ≡ q.load → p.opening ≡ q.opening → p.closing ≡ q.closing → p.service ≡ q.service → p ≡ q
same_place p q a b c d = λ i. record {
  load = a i;
  opening = b i;
  closing = c i;
  service = d i;
  loads = is_prop→PathP (λ j. a j ≤ 10000) (λ j. le_prop) p.loads q.loads i;
  opens = is_prop→PathP (λ j. b j ≤ c j) (λ j. le_prop) p.opens q.opens i;
  closes = is_prop→PathP (λ j. c j ≤ 60000) (λ j. le_prop) p.closes q.closes i;
  serves = is_prop→PathP (λ j. d j ≤ 60000) (λ j. le_prop) p.serves q.serves i;
}

pub same_road : (p q : Road) → p.cost ≡ q.cost → p.travel ≡ q.travel → p ≡ q
same_road p q a b = λ i. record {
  cost = a i;
  travel = b i;
  cheap = is_prop→PathP (λ j. a j ≤ 1000000) (λ j. le_prop) p.cheap q.cheap i;
  short = is_prop→PathP (λ j. b j ≤ 60000) (λ j. le_prop) p.short q.short i;
}
