use Rattle.std.proofs.Common.{◌≡◌, ◌≤◌, length, drop}
use Rattle.checking.specs.States.{network_of, state_of}
use Rattle.checking.proofs.Feeding.{Answered}
use Rattle.checking.proofs.running.run_log.Given as goal

abbrev pub invariant-loop-k : goal.invariant-loop-k
invariant-loop-k g l =
    record {
      within : l.k ≤ length l.calls;
      network : network_of l.check ≡ network_of l.initial.check;
      answered : Answered (g.M.Measure.meaning l.measure) (g.N.Network.meaning (network_of l.initial.check)) (state_of l.check) l.calls l.answers l.k;
      rest : drop l.k l.answers ≡ drop l.k l.initial.answers;
      room : length l.answers ≡ length l.initial.answers;
    }
