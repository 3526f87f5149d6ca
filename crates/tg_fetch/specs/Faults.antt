-- Faults from below, and the causes of a fault of out.
use Rattle.std.specs.Prelude.{Err, Result}
use Rattle.tg_client.specs.declared.fault.ClientFault.{ClientFault}
use Rattle.tg_client.specs.declared.fault.ClientFault.TheVariants as clients
use Rattle.tg_fetch.specs.declared.fault.FetchFault.{FetchFault}
use Rattle.tg_fetch.specs.declared.fault.FetchFault.TheVariants as faults
use Rattle.tg_http.specs.declared.fault.HttpFault.{HttpFault}
use Rattle.tg_http.specs.declared.fault.HttpFault.TheVariants as https
use Rattle.tg_streams.specs.Streams.{Output, OutputQuiet, OutputRose}
use Rattle.tg_verify.specs.declared.fault.Refusal.{Refusal}
use Rattle.tg_verify.specs.declared.fault.Refusal.TheVariants as refusals

-- a refusal of the verifier; its want of memory is the client's own
abbrev pub fault_of_refusal : Refusal → FetchFault
fault_of_refusal refusals.OutOfMemory = faults.OutOfMemory
fault_of_refusal refusal = faults.Refused refusal

-- a fault of the CAR that a body is
abbrev pub fault_of_client : ClientFault → FetchFault
fault_of_client (clients.Refused refusal) = faults.Refused refusal
fault_of_client (clients.BadCar car) = faults.BadCar car
fault_of_client clients.InputFault = faults.PeerFault
fault_of_client clients.KeepFault = faults.KeepFault
fault_of_client clients.OutOfMemory = faults.OutOfMemory

-- a fault of the CAR that shows that a path leads nowhere: bytes behind the terminal's section say that it leads to one
abbrev pub absence_fault : ClientFault → FetchFault
absence_fault (clients.Refused (refusals.Extra number)) = faults.Status 404
absence_fault fault = fault_of_client fault

-- a fault of a head or of a framing
abbrev pub fault_of_http : HttpFault → FetchFault
fault_of_http https.BadHead = faults.BadReplyHead
fault_of_http https.HeadLimit = faults.BadReplyHead
fault_of_http https.BadFraming = faults.BadFraming
fault_of_http https.OutOfMemory = faults.OutOfMemory

-- a fault of out comes where one was counted, and nowhere else; and none is of a keeper
abbrev pub QuietUnlessSink : {A : Type 0} → Output → Result A FetchFault → Type 0
QuietUnlessSink out (Err (faults.Refused refusals.SinkFault)) = OutputRose out
QuietUnlessSink out (Err faults.KeepFault) = ⊥
QuietUnlessSink out result = OutputQuiet out
