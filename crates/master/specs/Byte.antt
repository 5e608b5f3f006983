-- Document 01, "Byte in".
use Rattle.std.specs.Prelude.{ℕ, ◌+◌, ◌*◌, Bool, true, cond, List, ltb, eqb, length, get_or, set, take}
use Rattle.refusal.specs.Numbers as number
use Rattle.cluster.specs.Check.{then}
use Rattle.transport.specs.Reassembly as lent
use Rattle.master.specs.declared.state.Opened.{Opened}
use Rattle.master.specs.declared.state.Opened.TheVariants.{Nothing, Frame, Request, Response}
use Rattle.master.specs.declared.state.Transfer.{Transfer}
use Rattle.master.specs.declared.state.State.{State}
use Rattle.master.specs.declared.byte.ByteAnswer.TheVariants as answer
use Rattle.master.specs.Admit.{unless, admitted, answered, Step}
use Rattle.master.specs.Transfers.{is_open, open_length, open_checksum, sends}
use Rattle.master.specs.State.{with_transfer}
use Rattle.master.specs.Closing.{failed, sent, received}
use Rattle.std.specs.Prelude.{Ok}
use Rattle.cluster.specs.Check.{Verdict}
use Rattle.std.specs.Prelude.{Err}
use Rattle.master.specs.Answers.{Took, handed}

-- "answers its eight bytes"
abbrev pub responding : State → List ℕ → Took
responding s nine = handed s (Ok (answer.Response (take 8 nine)))

-- one more byte has passed; a received one is kept
unfoldable pub passed : State → List ℕ → State
passed s nine =
    with_transfer s (record {
      opened = s.transfer.opened;
      count = s.transfer.count + 1;
      bytes = nine;
      written = s.transfer.written;
    })

-- the byte is not the last one: fewer than length bytes passed before it
abbrev pub early : List ℕ → Transfer → Bool
early t x = ltb x.count (open_length t x.opened)

-- "Sent frames: the byte must equal the copied one; the first difference closes the transfer as failed, the last equal byte as successful."
unfoldable pub sent_byte : List ℕ → State → ℕ → Took
sent_byte t s b =
    cond (eqb (get_or s.transfer.bytes s.transfer.count 0) b)
    (cond (early t s.transfer)
    (handed (passed s s.transfer.bytes) (Ok answer.More))
    (handed (sent t s) (Ok answer.Success)))
    (handed (failed t s true) (Ok answer.Failure))

-- "a right checksum": of the data, in the byte behind them
unfoldable pub checksum_right : List ℕ → Opened → List ℕ → Bool
checksum_right t o nine = eqb (get_or nine (open_length t o) 0) (open_checksum t o (take (open_length t o) nine))

-- "stores the data and succeeds"; "A successful response frame stores nothing in the buffer and answers its eight bytes."
unfoldable pub accepted : List ℕ → State → Opened → List ℕ → List ℕ → Step Took
accepted t s Nothing nine bs = record { given = handed (received t s) (Ok answer.Success); left = bs }
accepted t s (Frame f) nine bs =
    record { given = handed (received t s) (Ok answer.Success); left = lent.written bs (8 * f) (take (open_length t (Frame f)) nine) }
accepted t s Request nine bs = record { given = handed (received t s) (Ok answer.Success); left = bs }
accepted t s Response nine bs =
    record { given = responding (received t s) nine; left = bs }

-- "after length + 1 bytes a right checksum stores the data and succeeds; a wrong one stores nothing and fails"
unfoldable pub last_byte : List ℕ → State → List ℕ → List ℕ → Step Took
last_byte t s nine bs =
    cond (checksum_right t s.transfer.opened nine)
    (accepted t s s.transfer.opened nine bs)
    (record { given = handed (failed t s true) (Ok answer.Failure); left = bs })

-- the nine bytes with one more
abbrev pub with_byte : Transfer → ℕ → List ℕ
with_byte x b = set x.bytes x.count b

-- "Received frames"
unfoldable pub received_byte : List ℕ → State → List ℕ → ℕ → Step Took
received_byte t s bs b =
    cond (early t s.transfer)
    (record { given = handed (passed s (with_byte s.transfer b)) (Ok answer.More); left = bs })
    (last_byte t s (with_byte s.transfer b) bs)

-- "Byte in belongs to the open transfer."
unfoldable pub byte_effect : List ℕ → State → List ℕ → ℕ → Step Took
byte_effect t s bs b =
    cond (sends t s.transfer.opened)
    (record { given = sent_byte t s b; left = bs })
    (received_byte t s bs b)

-- refusals of byte in: 1, 2, 3, 8 "byte in with no transfer open"
unfoldable pub byte_verdict : List ℕ → ℕ → State → Verdict
byte_verdict t size s =
    then (admitted t size s)
    (unless (is_open s.transfer.opened) number.no_transfer (Ok tt))

-- what byte in hands back, and the frame bytes it leaves
unfoldable pub byte_of : List ℕ → State → List ℕ → ℕ → Step Took
byte_of t s bs b =
    answered (byte_verdict t (length bs) s)
    (λ r. record { given = handed s (Err r); left = bs })
    (byte_effect t s bs b)
