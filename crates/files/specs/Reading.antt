-- What reading a case and a plan answers: a network with a listing, or the first text that is refused.
use Rattle.std.specs.Prelude.{◌≡◌, ℕ, List, Ok, Err, Option, Result}
use Rattle.routing.specs.declared.cells.Head.{Head}
use Rattle.routing.specs.declared.cells.Place.{Place}
use Rattle.routing.specs.declared.cells.Road.{Road}
use Rattle.routing.specs.Network.{Meaning}
use Rattle.routing.specs.Tables.{table_meaning}
use Rattle.texts.specs.Cases.{case_judged, case_answer, case_of}
use Rattle.texts.specs.Plans.{plan_answer}
use Rattle.texts.specs.Written.{CaseText, PlanText}
use Rattle.files.specs.declared.faults.RefusedText.{RefusedText}
use Rattle.files.specs.declared.faults.RefusedText.TheVariants.{Case, Plan}
use Rattle.files.specs.declared.held.Texts.{Texts}

-- the case text is that of a network: its words are those of a head and of the fronts of tables, written out, with this
-- meaning
pub record CaseNetwork (text : List ℕ) (m : Meaning) : Type 0 where
  pub head : Head
  pub places : List Place
  pub arcs : List (Option Road)
  pub written : CaseText text (case_of head places arcs)
  pub read : case_judged text ≡ Ok (case_of head places arcs)
  pub means : m ≡ table_meaning head places arcs

-- the plan text lists these numbers
pub record PlanListing (text listing : List ℕ) : Type 0 where
  pub written : PlanText text listing
  pub read : plan_answer text 120 ≡ Ok listing

-- the network and the listing that the tables hold
abbrev pub means : Texts → Meaning
means t = table_meaning t.head t.places t.arcs

abbrev pub lists : Texts → List ℕ
lists t = t.listing.items

pub record Granted (case plan : List ℕ) (t : Texts) : Type 0 where
  pub network : CaseNetwork case (means t)
  pub listing : PlanListing plan (lists t)

abbrev pub Denied : List ℕ → List ℕ → RefusedText → Type 0
Denied case plan (Case f) = case_answer case 61 3721 ≡ Err f
Denied case plan (Plan f) = (m : Meaning) × CaseNetwork case m × (plan_answer plan 120 ≡ Err f)

abbrev pub TextsRead : List ℕ → List ℕ → Result Texts RefusedText → Type 0
TextsRead case plan (Ok t) = Granted case plan t
TextsRead case plan (Err f) = Denied case plan f

-- the same of texts that were read where they stand
abbrev pub Filled : List ℕ → List ℕ → Texts → Result (Unit {0}) RefusedText → Type 0
Filled case plan t (Ok u) = Granted case plan t
Filled case plan t (Err f) = Denied case plan f
