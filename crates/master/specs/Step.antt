-- Document 01, "Refusal numbers": every call is a verdict and then, where it is accepted, an effect. What the calls answer and leave stands in
-- specs/Run.antt, by the definitions that their contracts cite; the laws that hold for every call (proofs/StepLaws.antt) go by these.
use Rattle.std.specs.Prelude.{ℕ, true, false, List, length}
use Rattle.refusal.specs.declared.Refusal.{Refusal}
use Rattle.refusal.specs.Answers.{Told}
use Rattle.master.specs.declared.state.Message.TheVariants.{Sending}
use Rattle.master.specs.Fresh.{no_status}
use Rattle.master.specs.State.{with_plan, with_message, with_status}
use Rattle.master.specs.Admit.{admitted, buffer_size}
use Rattle.master.specs.Write.{marked, write_verdict}
use Rattle.master.specs.Read.{read_verdict}
use Rattle.master.specs.Plan.{asking}
use Rattle.master.specs.Select.{select_verdict}
use Rattle.master.specs.Tick.{tick_effect, tick_verdict}
use Rattle.master.specs.Byte.{byte_effect, byte_verdict}
use Rattle.master.specs.Message.{send_verdict}
use Rattle.master.specs.Ahead.{ahead_verdict}
use Rattle.master.specs.Answers.{write_told, read_told, array_told, select_told, tick_told, byte_told, status_told, send_told, message_told, ahead_told}
use Rattle.master.specs.Calls as call
use Rattle.master.specs.Calls.{Call, Answer}
use Rattle.master.specs.Run.{Held, held}
use Rattle.master.specs.Put.{with_value}
use Rattle.cluster.specs.Check.{Verdict}
use Rattle.std.specs.Prelude.{Err}

-- the verdict on a call
unfoldable pub verdict_of : List ℕ → Held → Call → Verdict
verdict_of t x (call.write w) = write_verdict t (length x.bytes) x.state w
verdict_of t x (call.read s) = read_verdict t (length x.bytes) x.state s false
verdict_of t x (call.read_array s) = read_verdict t (length x.bytes) x.state s true
verdict_of t x (call.select n) = select_verdict t x.state n
verdict_of t x (call.tick m) = tick_verdict t (length x.bytes) (length m) x.state
verdict_of t x (call.byte_in b) = byte_verdict t (length x.bytes) x.state
verdict_of t x call.read_status = admitted t (buffer_size t) x.state
verdict_of t x (call.send nad n) = send_verdict t x.state n
verdict_of t x call.message_state = admitted t (buffer_size t) x.state
verdict_of t x (call.number_ahead f) = ahead_verdict t x.state f

-- what an accepted call leaves; one that only asks leaves all
unfoldable pub effect_of : List ℕ → Held → Call → Held
effect_of t x (call.write w) = held (marked t w.signal x.state) (with_value t x.bytes w.signal w.value)
effect_of t x (call.read s) = x
effect_of t x (call.read_array s) = x
effect_of t x (call.select n) = held (with_plan x.state (asking x.state.plan n)) x.bytes
effect_of t x (call.tick m) = held (tick_effect t x.bytes m x.state).state x.bytes
effect_of t x (call.byte_in b) = held (byte_effect t x.state x.bytes b).given.state (byte_effect t x.state x.bytes b).left
effect_of t x call.read_status = held (with_status x.state no_status) x.bytes
effect_of t x (call.send nad n) = held (with_message x.state (Sending (record { nad = nad; length = n; next = 0 }))) x.bytes
effect_of t x call.message_state = x
effect_of t x (call.number_ahead f) = x

-- how a call answers a refusal: with it alone
unfoldable pub refusal_of : (c : Call) → Refusal → Answer c
refusal_of (call.write w) r = Err r
refusal_of (call.read s) r = Err r
refusal_of (call.read_array s) r = Err r
refusal_of (call.select n) r = Err r
refusal_of (call.tick m) r = Err r
refusal_of (call.byte_in b) r = Err r
refusal_of call.read_status r = Err r
refusal_of (call.send nad n) r = Err r
refusal_of call.message_state r = Err r
refusal_of (call.number_ahead f) r = Err r

-- what an answer tells in the paper's terms
unfoldable pub told_of : (c : Call) → Answer c → Told
told_of (call.write w) a = write_told a
told_of (call.read s) a = read_told a
told_of (call.read_array s) a = array_told a
told_of (call.select n) a = select_told a
told_of (call.tick m) a = tick_told a
told_of (call.byte_in b) a = byte_told a
told_of call.read_status a = status_told a
told_of (call.send nad n) a = send_told a
told_of call.message_state a = message_told a
told_of (call.number_ahead f) a = ahead_told a
