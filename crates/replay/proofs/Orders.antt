-- The answer due to a listing, by how far it comes.
use Rattle.std.proofs.Common.{◌≡◌, ℕ, ◌≤◌, false, List, [], length, Ok, Err, Result, sym, ap, ◌∙◌, arith}
use Rattle.routing.specs.Network.{Meaning, Limits}
use Rattle.replay.specs.declared.faults.ListingFault.{ListingFault}
use Rattle.replay.specs.declared.faults.ListingFault.TheVariants.{Misplaced, Repeated, Missing}
use Rattle.replay.specs.declared.vans.Priced.{Priced}
use Rattle.replay.specs.Answer.{price_answer, form_answer, once_answer, fleet_answer, unless, after}
use Rattle.replay.specs.Drive.{drive_answer}
use Rattle.replay.specs.Listing.{misplaced, repeated, missing}
use Rattle.replay.proofs.Plans.{passed_unless, listed, short}

module _ (m : Meaning) (l : List ℕ) (n : ℕ) (n_is : n ≡ m.customers) where
  abbrev driven_on : Result Priced ListingFault
  driven_on = after (drive_answer m l) (λ p. fleet_answer m.fleet p)

  abbrev visited_on : Result Priced ListingFault
  visited_on = after (once_answer m.customers l) (λ _. driven_on)

  form_is : (r : Result (Unit {0}) ListingFault) → r ≡ form_answer n l → price_answer m l ≡ after r (λ _. visited_on)
  form_is r e = ap (λ x. after x (λ _. visited_on)) (sym (e ∙ ap (λ k. form_answer k l) n_is))

  once_is : (r : Result (Unit {0}) ListingFault) → r ≡ once_answer n l → visited_on ≡ after r (λ _. driven_on)
  once_is r e = ap (λ x. after x (λ _. driven_on)) (sym (e ∙ ap (λ k. once_answer k l) n_is))

  pub ends_at_form : (f : ListingFault) → Err f ≡ form_answer n l → price_answer m l ≡ Err f
  ends_at_form f e = form_is (Err f) e

  module _ (formed : Ok tt ≡ form_answer n l) where
    pub ends_at_once : (f : ListingFault) → Err f ≡ once_answer n l → price_answer m l ≡ Err f
    ends_at_once f e = form_is (Ok tt) formed ∙ once_is (Err f) e

    module _ (once : Ok tt ≡ once_answer n l) where
      pub ends_at_drive : (r : Result Priced ListingFault) → r ≡ drive_answer m l → price_answer m l ≡ after r (λ p. fleet_answer m.fleet p)
      ends_at_drive r e = form_is (Ok tt) formed ∙ once_is (Ok tt) once ∙ ap (λ x. after x (λ p. fleet_answer m.fleet p)) (sym e)

      pub few_numbers : Limits m → length l ≤ 120
      few_numbers lawful =
          let placed = passed_unless (misplaced n false 0 l) Misplaced (Ok tt) tt (sym formed) in
          let distinct = passed_unless (repeated [] 0 l) Repeated (unless (missing l 1 n) Missing (Ok tt)) tt (sym once) in
          let all = passed_unless (missing l 1 n) Missing (Ok tt) tt distinct.1 in
          omega (arith, short n l (listed n l placed.0 distinct.0 all.0), n_is, lawful.few)
