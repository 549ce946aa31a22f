-- Refusals as messages: a code and two numbers.
use Rattle.srv_edge.specs.declared.code.TheConstants as code
use Rattle.srv_edge.specs.Frames.{Message, refused}
use Rattle.srv_edge.specs.declared.failed.Refusal.{Refusal}
use Rattle.srv_edge.specs.declared.failed.Refusal.TheVariants.{Malformed, NotGiven, Full, Underway, DiskFault, OutOfMemory}

-- the message of a refusal
abbrev pub refusal_message : Refusal → Message
refusal_message (Malformed at what) = refused code.MALFORMED at what
refusal_message (NotGiven space index) = refused code.NOT_GIVEN space index
refusal_message (Full which needed) = refused code.FULL which needed
refusal_message OutOfMemory = refused code.OUT_OF_MEMORY 0 0
refusal_message (DiskFault number) = refused code.DISK_FAULT number 0
refusal_message (Underway number) = refused code.UNDERWAY number 0
