use Rattle.std.proofs.Common.{◌<◌, length, ap, arith}
use Rattle.spectro_hmltext.proofs.WrittenLabels.{escaped-longer}
use Rattle.spectro_hmltext.proofs.label.label_bytes.Goals as goal

pub loop-byte-preserved : goal.loop-byte-preserved
loop-byte-preserved c =
    let within : c.loop-byte.byte-index < length c.args.label.now = omega (arith, ap length c.as_bytes-byte-items.ensures.value) in
    let value = rw c.as_bytes-byte-items.ensures.value at c.escaped_bytes-bytes.ensures.value in
    record {
      value = omega (arith, value, c.loop-byte.invariant.value, escaped-longer c.args.label.now c.loop-byte.byte-index 0 within);
      few = omega (arith, c.escaped_bytes-bytes.ensures.few, c.loop-byte.invariant.few);
    }
