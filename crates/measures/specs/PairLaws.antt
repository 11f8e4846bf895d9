-- A pair keeps the laws of a measure where its parts do.
use Rattle.std.specs.Prelude.{◌≡◌, ℕ, ◌+◌, ◌≤◌, true, List, Some, None, Option}
use Rattle.std.proofs.Common.{ap, ap₂, arith}
use Rattle.std.proofs.lemmas.Bool.{cond_both, ltb-false, and_parts, and_from}
use Rattle.routing.specs.Network.{Meaning}
use Rattle.measures.specs.declared.moves.Move.{Move}
use Rattle.measures.specs.declared.pair.Both.{Both}
use Rattle.measures.specs.Measure.{Measuring, Laws, Steps, move, moved}
use Rattle.measures.specs.Measure.Steps.{home, stop}
use Rattle.measures.specs.Pair.{two, both, pair_measuring}

-- both parts of what is there
pub record Parts {S T : Type 0} (s : Option S) (t : Option T) (y : Both S T) : Type 0 where
  pub first : s ≡ Some y.first
  pub second : t ≡ Some y.second

parts : {S T : Type 0} (s : Option S) (t : Option T) (y : Both S T) → both s t ≡ Some y → Parts s t y
parts None t y e = absurd (let z : ◌≡◌ {A = ℕ} 0 1 = cc in omega arith)
parts (Some s) None y e = absurd (let z : ◌≡◌ {A = ℕ} 0 1 = cc in omega arith)
parts (Some s) (Some t) y e = let same : two s t ≡ y = cc in record { first = ap (λ b. Some b.first) same; second = ap (λ b. Some b.second) same }

module _ {S T : Type 0} (μ : Measuring S) (ν : Measuring T) where
  abbrev pair : Measuring (Both S T)
  pair = pair_measuring μ ν

  -- from a state at most another in both parts
  alike : Laws μ → Laws ν → (a b : Both S T) (by : Move) (y : Both S T) → pair.at_most a b ≡ true → pair.step b by ≡ Some y → (x : Both S T) × (pair.step a by ≡ Some x) × (pair.at_most x y ≡ true)
  alike ls rs a b by y le e =
      let low = and_parts _ _ le in
      let p = parts _ _ y e in
      let l = ls.steps_alike a.first b.first by y.first low.0 p.first in
      let r = rs.steps_alike a.second b.second by y.second low.1 p.second in
      (two l.0 r.0, ap₂ both l.1 r.1, and_from _ _ l.2 r.2)

  moved_both : (o : Option Move) (s : S) (t : T) (y : S) (z : T) → moved μ s o ≡ Some y → moved ν t o ≡ Some z → moved pair (two s t) o ≡ Some (two y z)
  moved_both None s t y z p q = absurd (let c : ◌≡◌ {A = ℕ} 0 1 = cc in omega arith)
  moved_both (Some by) s t y z p q = ap₂ both p q

  -- steps of both parts are steps of the pair
  zipped : (m : Meaning) {s : S} {t : T} {i : ℕ} {rest : List ℕ} → Steps μ m s i rest → Steps ν m t i rest → Steps pair m (two s t) i rest
  zipped m {s} {t} {i} (home y p) (home z q) = home (two y z) (moved_both (move m i 0) s t y z p q)
  zipped m {s} {t} {i} (stop {j = j} y p on) (stop z q along) = stop (two y z) (moved_both (move m i j) s t y z p q) (zipped m on along)

pub pair_laws : {S T : Type 0} {μ : Measuring S} {ν : Measuring T} → Laws μ → Laws ν → Laws (pair_measuring μ ν)
pair_laws {S} {T} {μ} {ν} ls rs = record {
  few_words = cond_both _ 100 (μ.words + ν.words) (λ n. n ≤ 100) (λ e. omega arith) (λ e. ltb-false 100 (μ.words + ν.words) e);
  reflexive = λ a. and_from _ _ (ls.reflexive a.first) (rs.reflexive a.second);
  transitive = λ a b c p q.
      let low = and_parts _ _ p in
      let high = and_parts _ _ q in
      and_from _ _ (ls.transitive a.first b.first c.first low.0 high.0) (rs.transitive a.second b.second c.second low.1 high.1);
  steps_alike = alike μ ν ls rs;
  never_absent = λ m limits depot depot_is stops drivable. zipped μ ν m (ls.never_absent m limits depot depot_is stops drivable) (rs.never_absent m limits depot depot_is stops drivable);
}
