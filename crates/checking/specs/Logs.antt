-- A log of calls run against a check: what is answered and what is left.
use Rattle.std.specs.Prelude.{◌≡◌, ◌<◌, ◌≤◌, List, map, length, take, drop, Ok, Err, Result}
use Rattle.routing.specs.Network.{Meaning}
use Rattle.measures.specs.Measure.{Measuring}
use Rattle.checking.specs.declared.calls.Call.{Call}
use Rattle.checking.specs.declared.calls.Call.TheVariants.{Present, Fork, Close, Ask}
use Rattle.checking.specs.declared.calls.Grant.{Grant}
use Rattle.checking.specs.declared.faults.CheckFault.{CheckFault}
use Rattle.checking.specs.Calls.{Request, presenting, forking, closing, asking}
use Rattle.checking.specs.Promise.{Promise}

abbrev pub request : Call → Request
request (Present listing) = presenting listing.now
request (Fork bytes) = forking bytes.now
request (Close bytes) = closing bytes.now
request Ask = asking

-- run: the network comes back, the answers stand in the list's front and keep the promise, and the rest is as it was
pub record Run {S N : Type 0} (μ : Measuring S) (m : Meaning) (network : N) (calls : List Call) (old new : List (Result Grant CheckFault)) (back : N) : Type 0 where
  pub network_back : back ≡ network
  pub room : length calls ≤ length old
  pub promise : Promise μ m (map request calls) (take (length calls) new)
  pub rest : drop (length calls) new ≡ drop (length calls) old

-- not run: the list is too short, and all is as it was
pub record NotRun {N : Type 0} (network : N) (calls : List Call) (old new : List (Result Grant CheckFault)) (back : N) : Type 0 where
  pub network_back : back ≡ network
  pub short : length old < length calls
  pub same : new ≡ old

abbrev pub Logged : {S N : Type 0} → Measuring S → Meaning → N → List Call → List (Result Grant CheckFault) → List (Result Grant CheckFault) → Result N N → Type 0
Logged μ m network calls old new (Ok back) = Run μ m network calls old new back
Logged μ m network calls old new (Err back) = NotRun network calls old new back
