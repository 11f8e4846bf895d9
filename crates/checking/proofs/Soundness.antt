-- What every state of a check keeps: the plan held is there, and every cheaper plan is open.
use Rattle.std.proofs.Common.{◌≡◌, ℕ, ◌<◌, ◌≤◌, Bool, true, false, cond, not, ltb, List, length, Some, None, Ok, Err, MatchBool, Option, Result, sym, refl, ap, ◌∙◌, subst, inl, ⊎_elim, arith}
use Rattle.std.proofs.lemmas.Bool.{cases_lt, leb-false, true≢false}
use Rattle.routing.specs.Network.{Meaning, Limits}
use Rattle.routing.specs.Routes.{Plan, plan_cost}
use Rattle.replay.specs.declared.faults.ListingFault.{ListingFault}
use Rattle.replay.specs.declared.vans.Priced.{Priced}
use Rattle.replay.specs.Answer.{price_answer}
use Rattle.replay.proofs.Plans.{priced_is_plan}
use Rattle.measures.specs.Measure.{Measuring}
use Rattle.leaf.specs.declared.faults.LeafFault.{LeafFault}
use Rattle.leaf.specs.Answer.{leaf_answer}
use Rattle.decisions.specs.Decisions.{decided}
use Rattle.decisions.specs.Branches.{trimmed}
use Rattle.decisions.specs.Forks.{Open, Ahead}
use Rattle.decisions.specs.Lawful.{decided_limits}
use Rattle.decisions.proofs.Parts.{cost_below}
use Rattle.decisions.proofs.Search.{fork_open, back_up_goes_on}
use Rattle.checking.specs.declared.faults.CheckFault.{CheckFault}
use Rattle.checking.specs.declared.calls.Grant.{Grant}
use Rattle.checking.specs.declared.calls.Standing.TheVariants.{Proved}
use Rattle.checking.specs.declared.faults.CheckFault.TheVariants.{Finished, NoSuchArc, Full}
use Rattle.checking.specs.Calls.{State, opening, Attempt, no_dearer, holding, hold, present, fork_arc, no_arc, pushed, push, fork_on, fork, next_branch, leaf_closed, close_for, close, standing, standing_for, Request, presenting, forking, closing, asking, granted, attempt, after}
use Rattle.checking.specs.Promise.{Cheapest}

-- below the cost held, where one is
abbrev pub Cheaper : Option ℕ → ℕ → Type 0
Cheaper None cost = Unit {0}
Cheaper (Some held) cost = cost < held

pub record Sound (m : Meaning) (s : State) : Type 0 where
  pub there : (c : ℕ) → s.held ≡ Some c → (routes : List (List ℕ)) × Plan m routes × (plan_cost m routes ≡ c)
  pub covers : (routes : List (List ℕ)) → Plan m routes → Cheaper s.held (plan_cost m routes) → MatchBool s.finished ⊥ (Open m s.decisions routes)

pub opening_sound : (m : Meaning) → Sound m opening
opening_sound m = record {
  there = λ c e. cc;
  covers = λ routes plan cheaper. inl plan;
}

-- a property of the state after a call, where a test denies it or lets it on
on_or_denied : {X : Type 0} (P : State → Type 0) (s : State) (b : Bool) (f : CheckFault) (t : Attempt X) → P s → (b ≡ false → P (after s t)) → P (after s (cond b (Err f) t))
on_or_denied P s true f t here on = here
on_or_denied P s false f t here on = on refl

on_or_full : {X : Type 0} (P : State → Type 0) (s : State) (b : Bool) (f : CheckFault) (t : Attempt X) → P s → P (after s t) → P (after s (cond b t (Err f)))
on_or_full P s true f t here on = on
on_or_full P s false f t here on = here

pub after_granted : {X : Type 0} (s : State) (grant : X → Grant) (t : Attempt X) → after s (granted grant t) ≡ after s t
after_granted s grant (Ok a) = refl
after_granted s grant (Err f) = refl

open_now : (b : Bool) (P : Type 0) → b ≡ false → MatchBool b ⊥ P → P
open_now true P e w = absurd w
open_now false P e w = w

still_open : (b : Bool) (P : Type 0) → b ≡ false → P → MatchBool b ⊥ P
still_open true P e p = absurd (true≢false e)
still_open false P e p = p

flipped : (b : Bool) (P : Type 0) → MatchBool b P ⊥ → MatchBool (not b) ⊥ P
flipped true P w = w
flipped false P w = w

cheaper_than : (held : Option ℕ) (new cost : ℕ) → no_dearer held new ≡ false → cost < new → Cheaper held cost
cheaper_than None new cost e lt = tt
cheaper_than (Some h) new cost e lt = omega (arith, leb-false h new e)

some_same : (a b : ℕ) → ◌≡◌ {A = Option ℕ} (Some a) (Some b) → a ≡ b
some_same a b e = cc

module _ (m : Meaning) (lawful : Limits m) where
  held_sound : (s : State) (p : Priced) → Sound m s → (routes : List (List ℕ)) → Plan m routes → plan_cost m routes ≡ p.cost → no_dearer s.held p.cost ≡ false → Sound m (holding s p.cost)
  held_sound s p sound routes plan costs new = record {
    there = λ c e. (routes, plan, costs ∙ some_same p.cost c e);
    covers = λ others is cheaper. sound.covers others is (cheaper_than s.held p.cost (plan_cost m others) new cheaper);
  }

  present_sound : (s : State) (listing : List ℕ) (r : Result Priced ListingFault) → r ≡ price_answer m listing → Sound m s → Sound m (after s (hold s r))
  present_sound s listing (Err f) e sound = sound
  present_sound s listing (Ok p) e sound =
      let found = priced_is_plan m lawful listing p (sym e) in
      on_or_denied (Sound m) s _ _ _ sound (λ new. held_sound s p sound found.0 found.2 (ap (λ q. q.cost) (sym found.3)) new)

  forked_sound : (s : State) (i j : ℕ) → s.finished ≡ false → Sound m s → Sound m (pushed s i j)
  forked_sound s i j on sound = record {
    there = sound.there;
    covers = λ routes plan cheaper. still_open s.finished _ on (fork_open m s.decisions i j routes (open_now s.finished _ on (sound.covers routes plan cheaper)));
  }

  fork_sound : (s : State) (arc : Option (ℕ × ℕ)) → Sound m s → Sound m (after s (fork_on m s arc))
  fork_sound s None sound = sound
  fork_sound s (Some arc) sound =
      let i = arc.0 in
      let j = arc.1 in
      on_or_denied (Sound m) s s.finished Finished (cond (no_arc m i j) (Err NoSuchArc) (push s i j)) sound (λ on.
      on_or_denied (Sound m) s (no_arc m i j) NoSuchArc (push s i j) sound (λ _.
      on_or_full (Sound m) s (ltb (length s.decisions) 64) Full (Ok (pushed s i j, tt)) sound (forked_sound s i j on sound)))

  -- a leaf that bounds every plan of the present branch
  closed_sound : (s : State) (z : ℕ) → s.finished ≡ false → s.held ≡ Some z → ((routes : List (List ℕ)) → Plan (decided m s.decisions) routes → z ≤ plan_cost (decided m s.decisions) routes) → Sound m s → Sound m (next_branch s)
  closed_sound s z on held bounds sound = record {
    there = sound.there;
    covers = λ routes plan cheaper.
        let below : plan_cost m routes < z = subst (λ h. Cheaper h (plan_cost m routes)) held cheaper in
        let open' = open_now s.finished _ on (sound.covers routes plan cheaper) in
        let ahead : Ahead m s.decisions routes = ⊎_elim (λ here. absurd (omega (arith, bounds routes here, cost_below m s.decisions routes here))) (λ a. a) open' in
        flipped (ltb 0 (length (trimmed s.decisions))) _ (back_up_goes_on m s.decisions routes ahead);
  }

  module _ {S : Type 0} (μ : Measuring S) (bounds : (n : Meaning) → Limits n → (bytes : List ℕ) (z : ℕ) → leaf_answer μ n bytes z ≡ Ok tt → (routes : List (List ℕ)) → Plan n routes → z ≤ plan_cost n routes) where
    leaf_sound : (s : State) (bytes : List ℕ) (z : ℕ) (r : Result (Unit {0}) LeafFault) → r ≡ leaf_answer μ (decided m s.decisions) bytes z → s.finished ≡ false → s.held ≡ Some z → Sound m s → Sound m (after s (leaf_closed s r))
    leaf_sound s bytes z (Err f) e on held sound = sound
    leaf_sound s bytes z (Ok u) e on held sound =
        closed_sound s z on held (bounds (decided m s.decisions) (decided_limits m s.decisions lawful) bytes z (sym e)) sound

    close_sound : (s : State) (bytes : List ℕ) (held : Option ℕ) → s.held ≡ held → s.finished ≡ false → Sound m s → Sound m (after s (close_for μ m s bytes held))
    close_sound s bytes None e on sound = sound
    close_sound s bytes (Some z) e on sound = leaf_sound s bytes z _ refl on e sound

    -- every call keeps it
    pub step_sound : (s : State) (r : Request) → Sound m s → Sound m (after s (attempt μ m s r))
    step_sound s (presenting listing) sound = subst (Sound m) (sym (after_granted s _ (present m s listing))) (present_sound s listing _ refl sound)
    step_sound s (forking bytes) sound = subst (Sound m) (sym (after_granted s _ (fork m s bytes))) (fork_sound s (fork_arc bytes) sound)
    step_sound s (closing bytes) sound =
        subst (Sound m) (sym (after_granted s _ (close μ m s bytes))) (on_or_denied (Sound m) s s.finished Finished _ sound (λ on. close_sound s bytes s.held refl on sound))
    step_sound s asking sound = sound

-- where ask says proved, the cost is that of a cheapest plan
proved_for : (f : Bool) (held : Option ℕ) (k c : ℕ) → standing_for f held k ≡ Proved c → (f ≡ true) × (held ≡ Some c)
proved_for true (Some h) k c e = (refl, ap Some (let same : h ≡ c = cc in same))
proved_for true None k c e = cc
proved_for false held k c e = cc

closed_now : (b : Bool) (P : Type 0) → b ≡ true → MatchBool b ⊥ P → ⊥
closed_now true P e w = w
closed_now false P e w = absurd (true≢false (sym e))

pub proved_true : (m : Meaning) (s : State) (c : ℕ) → Sound m s → standing s ≡ Proved c → Cheapest m c
proved_true m s c sound e =
    let parts = proved_for s.finished s.held (length s.decisions) c e in
    let found = sound.there c parts.1 in
    record {
      routes = found.0;
      is_plan = found.1;
      costs = found.2;
      none_cheaper = λ others plan.
          ⊎_elim
          (λ lt. absurd (closed_now s.finished _ parts.0 (sound.covers others plan (subst (λ h. Cheaper h (plan_cost m others)) (sym parts.1) lt))))
          (λ le. le)
          (cases_lt (plan_cost m others) c);
    }
