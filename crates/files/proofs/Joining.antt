-- From what the readers and the replay promise to what two files are answered.
use Rattle.std.proofs.Common.{◌≡◌, ℕ, ◌*◌, Bool, true, false, cond, ◌||◌, ltb, List, length, take, Ok, Err, Option, Result, sym, refl, ap, ◌∙◌, subst, arith}
use Rattle.std.specs.Result.{MatchResult, IsErrAnd}
use Rattle.routing.specs.declared.cells.Head.{Head}
use Rattle.routing.specs.declared.cells.Place.{Place}
use Rattle.routing.specs.declared.cells.Road.{Road}
use Rattle.routing.specs.Network.{Meaning}
use Rattle.routing.specs.Tables.{table_meaning}
use Rattle.replay.specs.declared.vans.Priced.{Priced}
use Rattle.replay.specs.declared.faults.ListingFault.{ListingFault}
use Rattle.replay.specs.Answer.{price_answer}
use Rattle.replay.specs.Prices.{Prices}
use Rattle.texts.specs.declared.faults.TextFault.{TextFault}
use Rattle.texts.specs.declared.faults.TextFault.TheVariants.{ShortTable}
use Rattle.texts.specs.Cases.{Case as CaseSaid, Granted, CaseRead, side, case_judged, fits_tables, case_of}
use Rattle.texts.specs.Plans.{PlanRead, plan_judged, fits_listing, plan_answer}
use Rattle.texts.specs.Written.{CasesAsWritten, PlanText, PlansAsWritten}
use Rattle.files.specs.declared.faults.RefusedText.{RefusedText}
use Rattle.files.specs.declared.faults.RefusedText.TheVariants.{Case, Plan}
use Rattle.files.specs.Reading.{CaseNetwork, PlanListing, Denied}
use Rattle.files.specs.Pricing.{FilesPriced, listing_answer}

-- a result that was granted although a table might have been short
not_short : {X : Type 0} (b : Bool) (x y : X) → cond b (Err ShortTable) (Ok x) ≡ Ok y → ◌≡◌ {A = Result X TextFault} (Ok x) (Ok y)
not_short true x y e = absurd (let z : ◌≡◌ {A = ℕ} 0 1 = cc in omega arith)
not_short false x y e = e

pub fitted : (places arcs : ℕ) (r : Result CaseSaid TextFault) (c : CaseSaid) → fits_tables places arcs r ≡ Ok c → r ≡ Ok c
fitted places arcs (Err f) c e = e
fitted places arcs (Ok d) c e = not_short (ltb places (side d.head) || ltb arcs (side d.head * side d.head)) d c e

pub listed : (room : ℕ) (r : Result (List ℕ) TextFault) (ns : List ℕ) → fits_listing room r ≡ Ok ns → r ≡ Ok ns
listed room (Err f) ns e = e
listed room (Ok xs) ns e = not_short (ltb room 120) xs ns e

-- a reader's result whose fault was said to be one of a text
abbrev Said : {X : Type 0} → (TextFault → RefusedText) → Result X TextFault → Result X RefusedText → Type 0
Said text r s = MatchResult r (λ x. s ≡ Ok x) (λ f. IsErrAnd s (λ g. g ≡ text f))

pub case_read : (text : List ℕ) (r : Result Head TextFault) (h : Head) (places places' : List Place) (arcs arcs' : List (Option Road)) → Said (λ f. Case f) r (Ok h) → CaseRead text places arcs r places' arcs' → CasesAsWritten text → CaseNetwork text (table_meaning h places' arcs')
case_read text (Err f) h places places' arcs arcs' said read same = absurd said
case_read text (Ok g) h places places' arcs arcs' said read same =
    let is : g ≡ h = cc in
    let granted : Granted text places arcs h places' arcs' = subst (λ x. Granted text places arcs x places' arcs') is read in
    let judged = fitted (length places) (length arcs) (case_judged text) (case_of h places' arcs') granted.answer in
    record { head = h; places = places'; arcs = arcs'; written = (same (case_of h places' arcs')).0 judged; read = judged; means = refl }

pub plan_read : (text : List ℕ) (r : Result ℕ TextFault) (count : ℕ) (listing listing' : List ℕ) → length listing ≡ 120 → Said (λ f. Plan f) r (Ok count) → PlanRead text listing r listing' → PlansAsWritten text → PlanListing text (take count listing')
plan_read text (Err f) count listing listing' long said read same = absurd said
plan_read text (Ok n) count listing listing' long said read same =
    let is : n ≡ count = cc in
    let answer : plan_answer text 120 ≡ Ok (take count listing') = ap (plan_answer text) (sym long) ∙ read.0 ∙ ap (λ k. Ok (take k listing')) is in
    record { written = (same (take count listing')).0 (listed 120 (plan_judged text) (take count listing') answer); read = answer }

-- the same where the reader's result is matched as it is
pub case_there : (text : List ℕ) (r : Result Head TextFault) (h : Head) (places places' : List Place) (arcs arcs' : List (Option Road)) → r ≡ Ok h → CaseRead text places arcs r places' arcs' → CasesAsWritten text → CaseNetwork text (table_meaning h places' arcs')
case_there text r h places places' arcs arcs' is read same =
    case_read text r h places places' arcs arcs' (subst (λ x. Said (λ f. Case f) x (Ok h)) (sym is) refl) read same

pub plan_there : (text : List ℕ) (r : Result ℕ TextFault) (count : ℕ) (listing listing' : List ℕ) → length listing ≡ 120 → r ≡ Ok count → PlanRead text listing r listing' → PlansAsWritten text → PlanListing text (take count listing')
plan_there text r count listing listing' long is read same =
    plan_read text r count listing listing' long (subst (λ x. Said (λ f. Plan f) x (Ok count)) (sym is) refl) read same

pub plan_refused : (case text : List ℕ) (m : Meaning) → CaseNetwork case m → (r : Result ℕ TextFault) (f : RefusedText) (listing listing' : List ℕ) → length listing ≡ 120 → Said (λ f. Plan f) r (Err f) → PlanRead text listing r listing' → Denied case text f
plan_refused case text m network (Ok n) f listing listing' long said read = absurd (let z : ◌≡◌ {A = ℕ} 0 1 = cc in omega arith)
plan_refused case text m network (Err e) f listing listing' long said read =
    subst (Denied case text) (sym said) (m, network, ap (plan_answer text) (sym long) ∙ read.0)

module _ (case plan listing : List ℕ) (m : Meaning) (network : CaseNetwork case m) (lists : PlanListing plan listing) where
  -- what the listing's price makes of both texts
  pub priced : (r : Result Priced ListingFault) → r ≡ price_answer m listing → Prices m listing r → FilesPriced case plan (listing_answer r)
  priced (Err f) e prices = record { network = m; is_network = network; listing = listing; is_listing = lists.read; answer = ap listing_answer e }
  priced (Ok p) e prices =
      let found = prices.priced_is_plan p refl in (
        record { network = m; is_network = network; listing = listing; is_listing = lists.read; answer = ap listing_answer e },
        record { network = m; is_network = network; routes = found.0; is_listing = subst (PlanText plan) found.1 lists.written; is_plan = found.2; price = found.3 },
      )
