-- A fault's number, its place in the text, and its denial.
use Rattle.std.specs.Prelude.{ℕ}
use Rattle.routing.specs.declared.denials.Denial.{Denial}
use Rattle.texts.specs.declared.faults.TextFault.{TextFault}
use Rattle.texts.specs.declared.faults.TextFault.TheVariants.{Form, Count, Range, ShortTable}

abbrev pub fault_number : TextFault → ℕ
fault_number (Form at) = 1
fault_number (Count at) = 2
fault_number (Range at) = 3
fault_number ShortTable = 4

-- where the fault is not the text's, 0
abbrev pub fault_place : TextFault → ℕ
fault_place (Form at) = at
fault_place (Count at) = at
fault_place (Range at) = at
fault_place ShortTable = 0

-- a text's fault names no arc
abbrev pub text_denial : TextFault → Denial
text_denial f = record { number = fault_number f; from = 0; to = 0; place = fault_place f }
