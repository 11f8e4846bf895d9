-- The bytes of the line that is printed, and which line an answer gets.
use Rattle.std.specs.Prelude.{ℕ, List, ◌++◌, Ok, Err, codes, decimal, Result}
use Rattle.routing.specs.declared.denials.Denial.{Denial}
use Rattle.replay.specs.declared.vans.Priced.{Priced}
use Rattle.files.specs.declared.faults.FileFault.{FileFault}
use Rattle.files.specs.declared.faults.Part.{Part}
use Rattle.files.specs.declared.faults.Part.TheVariants.{Case, Plan, Tree}
use Rattle.files.specs.declared.lines.Line.{Line}
use Rattle.files.specs.declared.lines.Line.TheVariants.{Priced as PricedLine, Optimal, Open, Fault}
use Rattle.files.specs.Faults.{file_denial, file_part}

abbrev pub part_bytes : Part → List ℕ
part_bytes Case = codes "case"
part_bytes Plan = codes "plan"
part_bytes Tree = codes "tree"

-- `priced COST routes K`, `optimal COST`, `open K`, or `fault NUMBER PART node N arc I J place P`
abbrev pub line_bytes : Line → List ℕ
line_bytes (PricedLine p) = codes "priced " ++ (decimal p.cost ++ (codes " routes " ++ decimal p.routes))
line_bytes (Optimal cost) = codes "optimal " ++ decimal cost
line_bytes (Open decisions) = codes "open " ++ decimal decisions
line_bytes (Fault part node d) =
    codes "fault " ++ (decimal d.number ++ (codes " " ++ (part_bytes part ++ (codes " node " ++ (decimal node ++ (codes " arc " ++ (decimal d.from ++ (codes " " ++ (decimal d.to ++ (codes " place " ++ decimal d.place))))))))))

-- the line of a denial, by the file and the node that it is found in
abbrev pub fault_line : Part → ℕ → Denial → Line
fault_line part node d = Fault part node d

abbrev pub line_of : Result Priced FileFault → Line
line_of (Ok p) = PricedLine p
line_of (Err f) = fault_line (file_part f) 0 (file_denial f)
