-- The status over the transfers counted since the last reading: a device of the proofs, between the state and the word.
use mathlib.Core.Path.{◌≡◌, refl}
use mathlib.Core.Bool.{Bool, true, false, not, ◌||◌}
use Rattle.master.specs.declared.state.Status.{Status}
use Rattle.master.specs.Status.{with_counted, status_word}
use Rattle.master.specs.Seq.{Seq, ∅, ◌▹◌}
use Rattle.master.specs.Answering.{Closed, any_closed, two_closed, last_closed, word_over}
use Rattle.master.proofs.Tests.{or_true}

-- "a failed one sets bit 0, a successful one bit 1, and either stays set until read; overrun means two or more since the last reading"
unfoldable pub status_over : Seq Closed → Status
status_over cs = record { error = any_closed false cs; success = any_closed true cs; overrun = two_closed cs; last = last_closed cs }

-- its word
pub word_over_lem : (cs : Seq Closed) → status_word (status_over cs) ≡ word_over cs
unfolding status_word status_over word_over
word_over_lem cs = refl

-- of two or more transfers, one failed or succeeded
some_closed : (a b s : Bool) → ((a || not s) || (b || s)) ≡ true
some_closed true b s = refl
some_closed false b true = or_true b
some_closed false b false = refl

overrun_over : (cs : Seq Closed) (c : Closed) → two_closed (cs ▹ c) ≡ (two_closed cs || (any_closed false cs || any_closed true cs))
unfolding two_closed any_closed
overrun_over ∅ c = refl
overrun_over (∅ ▹ b) c = rw (some_closed false false b.success)
overrun_over (cs ▹ a ▹ b) c = refl

-- one more transfer is counted
pub status_counted : (cs : Seq Closed) (c : Closed) → status_over (cs ▹ c) ≡ with_counted (status_over cs) c.success c.protected
unfolding status_over with_counted any_closed last_closed
status_counted cs c = rw (overrun_over cs c)
