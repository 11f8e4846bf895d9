-- What is left of a network under decisions keeps the limits.
use Rattle.std.specs.Prelude.{◌≡◌, Bool, true, false, cond, List, [], ◌∷◌, Some, None, Option}
use Rattle.routing.specs.Network.{Meaning, Limits}
use Rattle.decisions.specs.declared.decision.Decision.{Decision}
use Rattle.decisions.specs.Decisions.{under, decided, removes}

-- an arc that is left was there
pub left : {X : Type 0} (gone : Bool) (o : Option X) (x : X) → cond gone None o ≡ Some x → o ≡ Some x
left true o x e = cc
left false o x e = e

pub under_limits : (m : Meaning) (d : Decision) → Limits m → Limits (under d m)
under_limits m d limits = record {
  some = limits.some;
  few = limits.few;
  present = limits.present;
  absent = limits.absent;
  depot = limits.depot;
  capacity = limits.capacity;
  arcs = λ i j road e.
      let a = limits.arcs i j road (left (removes d i j) (m.arc i j) road e) in
      record { start = a.start; end = a.end; apart = a.apart };
}

pub decided_limits : (m : Meaning) (ds : List Decision) → Limits m → Limits (decided m ds)
decided_limits m [] limits = limits
decided_limits m (d ∷ ds) limits = decided_limits (under d m) ds (under_limits m d limits)
