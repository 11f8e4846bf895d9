-- The number, arc and place of each fault of a file, and the file that it is found in.
use Rattle.routing.specs.declared.denials.Denial.{Denial}
use Rattle.texts.specs.Faults.{text_denial}
use Rattle.replay.specs.Faults.{listing_denial}
use Rattle.files.specs.declared.faults.RefusedText.{RefusedText}
use Rattle.files.specs.declared.faults.RefusedText.TheVariants.{Case as CaseRefused, Plan as PlanRefused}
use Rattle.files.specs.declared.faults.FileFault.{FileFault}
use Rattle.files.specs.declared.faults.FileFault.TheVariants.{Refused, Listing}
use Rattle.files.specs.declared.faults.Part.{Part}
use Rattle.files.specs.declared.faults.Part.TheVariants.{Case, Plan}

abbrev pub refused_denial : RefusedText → Denial
refused_denial (CaseRefused f) = text_denial f
refused_denial (PlanRefused f) = text_denial f

abbrev pub refused_part : RefusedText → Part
refused_part (CaseRefused f) = Case
refused_part (PlanRefused f) = Plan

abbrev pub file_denial : FileFault → Denial
file_denial (Refused f) = refused_denial f
file_denial (Listing f) = listing_denial f

abbrev pub file_part : FileFault → Part
file_part (Refused f) = refused_part f
file_part (Listing f) = Plan
