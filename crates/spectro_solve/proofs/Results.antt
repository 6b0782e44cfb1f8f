-- What holds of an answer that is there.
use Rattle.std.proofs.Common.{Ok, Err}
use Rattle.std.specs.Result.{OnOk}
use Rattle.std.specs.declared.result.Result.{Result}

pub on_ok_both : {T E P Q R : Type 0} (r : Result T E) → (P → Q → R) → OnOk r P → OnOk r Q → OnOk r R
on_ok_both (Ok v) make p q = make p q
on_ok_both (Err e) make p q = tt
