use Rattle.std.proofs.Common.{◌-◌, ◌≤◌, length, refl, subst, arith}
use Rattle.spectro_hmltext.specs.declared.stop.Stop.TheVariants.{Fault}
use Rattle.spectro_hmltext.specs.Faults.{IsFirstFault, IsTextFault}
use Rattle.spectro_hmltext.specs.Stops.{StopsAt}
use Rattle.spectro_hmltext.proofs.Parsings.{IsFirstFault-stopped}
use Rattle.spectro_hmltext.proofs.TextsLeft.{left-within}
use Rattle.spectro_hmltext.proofs.parser.parse.Goals as goal

pub overflow_sub-result : goal.overflow_sub-result
overflow_sub-result c =
    let bytes = c.as_bytes-bytes.result.now in
    left-within bytes c.in-Err-Fault.left c.in-Err-Fault.kind (subst (StopsAt (IsTextFault bytes)) c.in-Err-Fault.field-0-is c.in-Err-Fault.ensures.stopped)

pub returns-in-Err-Fault-clause-refused : goal.returns-in-Err-Fault-clause-refused
returns-in-Err-Fault-clause-refused c =
    let bytes = c.as_bytes-bytes.result.now in
    let left = c.in-Err-Fault.left in
    let kind = c.in-Err-Fault.kind in
    let short : length bytes ≤ 65536 = omega arith in
    let stops : StopsAt (IsTextFault bytes) (Fault left kind) = subst (StopsAt (IsTextFault bytes)) c.in-Err-Fault.field-0-is c.in-Err-Fault.ensures.stopped in
    subst (λ text. IsFirstFault text (record { at = length bytes - left; kind = kind })) c.as_bytes-bytes.ensures.value
    (IsFirstFault-stopped bytes left kind (length bytes - left) short stops refl)
