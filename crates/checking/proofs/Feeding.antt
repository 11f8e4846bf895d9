-- A log run call by call gives the answers of the rules' check.
use Rattle.std.proofs.Common.{◌≡◌, ℕ, ◌+◌, ◌<◌, List, [], ◌∷◌, ◌++◌, map, length, get_or, take, drop, set, Result, sym, refl, ap, ◌∙◌, subst, ap₂, append_assoc, append-nil, arith, drop-set-lt}
use Rattle.std.proofs.lemmas.List.{take_more_set, drop_more, drop-drop, drop_all}
use Rattle.routing.specs.Network.{Meaning}
use Rattle.measures.specs.Measure.{Measuring}
use Rattle.checking.specs.declared.calls.Call.{Call}
use Rattle.checking.specs.declared.calls.Grant.{Grant}
use Rattle.checking.specs.declared.checks.Check.{Check}
use Rattle.checking.specs.declared.faults.CheckFault.{CheckFault}
use Rattle.checking.specs.Calls.{State, opening, attempt, answers}
use Rattle.checking.specs.Logs.{request}
use Rattle.checking.specs.States.{network_of, state_of, Does}

-- so many calls answered, and the others still to be
abbrev pub Answered : {S : Type 0} → Measuring S → Meaning → State → List Call → List (Result Grant CheckFault) → ℕ → Type 0
Answered μ m s calls given k =
    take k given ++ answers μ m s (map request (drop k calls)) ≡ answers μ m opening (map request calls)

module _ {S N : Type 0} (μ : Measuring S) (meaning : N → Meaning) (calls : List Call) (given : List (Result Grant CheckFault)) (k : ℕ) (call : Call) (old new : Check N) (a : Result Grant CheckFault) (network : N) where
  pub one_more : k < length calls → k < length given → Does old (attempt μ (meaning (network_of old)) (state_of old) (request (get_or calls k call))) new a → network_of old ≡ network → Answered μ (meaning network) (state_of old) calls given k → Answered μ (meaning network) (state_of new) calls (set given k a) (k + 1)
  one_more within room does same so_far =
      let m = meaning network in
      let r = request (get_or calls k call) in
      let d = subst (λ n. Does old (attempt μ (meaning n) (state_of old) r) new a) same does in
      let rest = map request (drop (k + 1) calls) in
      ap₂ ◌++◌ (take_more_set given k a room) refl
      ∙ append_assoc (take k given) (a ∷ []) (answers μ m (state_of new) rest)
      ∙ ap (λ x. take k given ++ x) (ap₂ (λ x s. x ∷ answers μ m s rest) d.answer d.state)
      ∙ ap (λ x. take k given ++ answers μ m (state_of old) (map request x)) (sym (drop_more calls k call within))
      ∙ so_far

pub all_answered : {S : Type 0} (μ : Measuring S) (m : Meaning) (s : State) (calls : List Call) (given : List (Result Grant CheckFault)) (k : ℕ) → k ≡ length calls → Answered μ m s calls given k → take (length calls) given ≡ answers μ m opening (map request calls)
all_answered μ m s calls given k e so_far =
    ap (λ n. take n given) (sym e) ∙ sym (append-nil (take k given)) ∙ ap (λ x. take k given ++ answers μ m s (map request x)) (sym (drop_all k calls (omega arith))) ∙ so_far

pub rest_kept : {X : Type 0} (given old : List X) (k : ℕ) (a : X) → drop k given ≡ drop k old → drop (k + 1) (set given k a) ≡ drop (k + 1) old
rest_kept given old k a same =
    drop-set-lt (k + 1) given k a (omega arith) ∙ sym (drop-drop 1 k given) ∙ ap (drop 1) same ∙ drop-drop 1 k old
