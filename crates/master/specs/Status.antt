-- Document 01, "Status": the parts, what a closed transfer does to them, and the word that is read.
use Rattle.std.specs.Prelude.{ℕ, ◌+◌, ◌*◌, Bool, cond, not, ◌||◌, List}
use Rattle.wire.specs.Bits.{digit}
use Rattle.master.specs.declared.state.Status.{Status}
use Rattle.master.specs.declared.state.State.{State}
use Rattle.master.specs.Answers.{StatusRead}
use Rattle.master.specs.Fresh.{no_status}
use Rattle.master.specs.State.{with_status}
use Rattle.master.specs.Admit.{admitted, answered, buffer_size}
use Rattle.std.specs.Prelude.{Ok, Err}

-- "a failed one sets bit 0, a successful one bit 1, and either stays set until read; overrun means two or more since the last reading"
unfoldable pub with_counted : Status → Bool → ℕ → Status
with_counted x success last =
    record {
      error = x.error || not success;
      success = x.success || success;
      overrun = x.overrun || (x.error || x.success);
      last = last;
    }

-- "Only closed transfers with at least one response byte count"
abbrev pub status_after : Status → Bool → Bool → ℕ → Status
status_after x counts success last = cond counts (with_counted x success last) x

-- "bit 0 error in response, bit 1 successful transfer, bit 2 overrun, bits 8 to 15 the protected identifier of the last transfer
-- counted, other bits 0"
unfoldable pub status_word : Status → ℕ
status_word x = digit x.error + 2 * digit x.success + 4 * digit x.overrun + 256 * x.last

-- what a status reading hands back: "Reading sets it to 0."
unfoldable pub status_of : List ℕ → State → StatusRead
status_of t s =
    answered (admitted t (buffer_size t) s)
    (λ r. record { state = s; answer = Err r })
    (record { state = with_status s no_status; answer = Ok (status_word s.status) })
