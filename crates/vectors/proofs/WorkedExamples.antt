-- The worked examples of document 01 hold of the definitions: one theorem over the one list.
use mathlib.Core.Path.{◌≡◌, refl}
use mathlib.Core.Bool.{true, xor}
use Rattle.wire.specs.Bits.{bit}
use Rattle.wire.specs.Checksum.{with_carry, sum, covered, model_of, inverted, checksum_byte, checksum_of}
use Rattle.wire.specs.Identifier.{p0, p1, protected_byte, protected_of}
use Rattle.signal.specs.Signal.{number, bit_at, bytes_of, inside, replaced, put_bits, put_scalar}
use Rattle.transport.specs.Cutting.{count_of, cut_of, message_frames, data_bytes, single_frame, first_frame, next_frame, message_frame}
use Rattle.vectors.specs.Examples.{holds, examples, all_hold}

pub worked_examples : all_hold examples ≡ true
unfolding all_hold examples holds bit with_carry sum covered model_of inverted checksum_byte checksum_of p0 p1 xor protected_byte
    protected_of number bit_at bytes_of inside replaced put_bits put_scalar count_of cut_of message_frames data_bytes single_frame
    first_frame next_frame message_frame
worked_examples = refl
