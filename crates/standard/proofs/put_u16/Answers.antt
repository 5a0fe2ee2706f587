-- `standard::put_u16` meets its contract: the library's bytes of a u16 are those of the definition. Assumes nothing.
use Rattle.std.proofs.Common.{◌≡◌, ◌/◌, ◌%◌, arith}
use Rattle.encoding.specs.Encoding.{u16_bytes}
use Rattle.standard.proofs.put_u16.Goals as goal

pub returns : goal.returns
unfolding u16_bytes
returns c =
    let e : c.args.x / 256 % 256 ≡ c.args.x / 256 = omega arith in
    rw (c.copy_from_slice.ensures.after, c.to_le_bytes.ensures, e)
