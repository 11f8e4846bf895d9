-- What a call does, as an answer of a log.
use Rattle.std.proofs.Common.{◌≡◌, Ok, Err, Result, sym, ap, ◌∙◌}
use Rattle.std.specs.Result.{MatchResult, IsOkAnd}
use Rattle.checking.specs.declared.calls.Grant.{Grant}
use Rattle.checking.specs.declared.checks.Check.{Check}
use Rattle.checking.specs.declared.faults.CheckFault.{CheckFault}
use Rattle.checking.specs.Calls.{Attempt, granted, answer_of}
use Rattle.checking.specs.States.{state_of, Does}
use Rattle.checking.proofs.Soundness.{after_granted}

answer_granted : {X : Type 0} (grant : X → Grant) (t : Attempt X) (r : Result X CheckFault) (s : Result Grant CheckFault) → r ≡ answer_of t → MatchResult r (λ x. IsOkAnd s (λ y. y ≡ grant x)) (λ f. s ≡ Err f) → s ≡ answer_of (granted grant t)
answer_granted grant (Ok a) (Ok x) (Ok y) e is = let same : x ≡ a.1 = cc in cc (ap grant same)
answer_granted grant (Ok a) (Ok x) (Err f) e is = absurd is
answer_granted grant (Ok a) (Err f) s e is = cc
answer_granted grant (Err g) (Ok x) s e is = cc
answer_granted grant (Err g) (Err f) s e is = cc

pub does_granted : {N X : Type 0} (old new : Check N) (grant : X → Grant) (t : Attempt X) (r : Result X CheckFault) (s : Result Grant CheckFault) → Does old t new r → MatchResult r (λ x. IsOkAnd s (λ y. y ≡ grant x)) (λ f. s ≡ Err f) → Does old (granted grant t) new s
does_granted old new grant t r s d is = record { network = d.network; state = d.state ∙ sym (after_granted (state_of old) grant t); answer = answer_granted grant t r s d.answer is }
