-- How a run ends that opened no document.
use Rattle.doc_opening.specs.declared.opening.StartCause.{StartCause}
use Rattle.doc_opening.specs.declared.opening.StartCause.TheVariants as cause
use Rattle.grist_run.specs.declared.status.Status.{Status}
use Rattle.grist_run.specs.declared.status.Status.TheVariants.{StoreFault, NoMemory, BadStore}

abbrev pub start_status : StartCause → Status
start_status cause.StoreFault = StoreFault
start_status (cause.BadStore number) = BadStore number
start_status cause.NoMemory = NoMemory
