-- The whole promise about logs.
use Rattle.std.proofs.Common.{◌≡◌, ℕ, ◌≤◌, List, [], ◌∷◌, Ok, Err, refl}
use Rattle.std.specs.List.{AllByRecursion}
use Rattle.routing.specs.Network.{Meaning, Limits}
use Rattle.routing.specs.Routes.{Plan, plan_cost}
use Rattle.measures.specs.Measure.{Measuring}
use Rattle.leaf.specs.Answer.{leaf_answer}
use Rattle.leaf.specs.Record.{Reads}
use Rattle.leaf.specs.Rule.{Leaf, Holds}
use Rattle.checking.specs.declared.calls.Grant.{Grant}
use Rattle.checking.specs.declared.calls.Grant.TheVariants.{Presented, Forked, Closed, Stands}
use Rattle.checking.specs.declared.calls.Standing.{Standing}
use Rattle.checking.specs.declared.calls.Standing.TheVariants.{Proved}
use Rattle.checking.specs.Calls.{State, opening, Attempt, present, fork, close, standing, Request, presenting, forking, closing, asking, granted, attempt, after, answer_of, answers}
use Rattle.checking.specs.Promise.{Cheapest, lines, Promise}
use Rattle.checking.proofs.Soundness.{Sound, opening_sound, step_sound, proved_true}
use Rattle.checking.proofs.Trees.{Follows, never_withheld}

-- only a question is answered with how far the tree has come
not_standing : {X : Type 0} (grant : X → Grant) (t : Attempt X) (g : Standing) → ((x : X) → grant x ≡ Stands g → ⊥) → answer_of (granted grant t) ≡ Ok (Stands g) → ⊥
not_standing grant (Ok a) g other e = other a.1 (let same : grant a.1 ≡ Stands g = cc in same)
not_standing grant (Err f) g other e = cc

module _ {S : Type 0} (μ : Measuring S) (m : Meaning) (lawful : Limits m) (bounds : (n : Meaning) → Limits n → (bytes : List ℕ) (z : ℕ) → leaf_answer μ n bytes z ≡ Ok tt → (routes : List (List ℕ)) → Plan n routes → z ≤ plan_cost n routes) where
  true_answer : (s : State) → Sound m s → (r : Request) (c : ℕ) → answer_of (attempt μ m s r) ≡ Ok (Stands (Proved c)) → Cheapest m c
  true_answer s sound (presenting listing) c e =
      absurd (not_standing (λ p. Presented p) (present m s listing) (Proved c) (λ x d. cc) e)
  true_answer s sound (forking bytes) c e =
      absurd (not_standing (λ _. Forked) (fork m s bytes) (Proved c) (λ x d. cc) e)
  true_answer s sound (closing bytes) c e =
      absurd (not_standing (λ _. Closed) (close μ m s bytes) (Proved c) (λ x d. cc) e)
  true_answer s sound asking c e = proved_true m s c sound (let same : standing s ≡ Proved c = cc in same)

  true_answers : (s : State) → Sound m s → (calls : List Request) → AllByRecursion (λ a. (c : ℕ) → a ≡ Ok (Stands (Proved c)) → Cheapest m c) (answers μ m s calls)
  true_answers s sound [] = tt
  true_answers s sound (r ∷ calls) = (true_answer s sound r, true_answers (after s (attempt μ m s r)) (step_sound m lawful μ bounds s r sound) calls)

  follows : (s : State) (calls : List Request) → Follows μ m s (lines calls (answers μ m s calls))
  follows s [] = tt
  follows s (r ∷ calls) = (refl, follows (after s (attempt μ m s r)) calls)

  pub promise : ((n : Meaning) → Limits n → (bytes : List ℕ) (z : ℕ) (l : Leaf S) → Reads μ n.customers bytes l → Holds μ n l z → leaf_answer μ n bytes z ≡ Ok tt) → (calls : List Request) → Promise μ m calls (answers μ m opening calls)
  promise opens calls = record {
    due = refl;
    true_word = true_answers opening (opening_sound m) calls;
    never_withheld = λ routes tree got rest plan full deep makes. never_withheld μ m lawful bounds opens (lines calls (answers μ m opening calls)) (follows opening calls) routes tree got rest plan full deep makes;
  }
