-- Document 01, "Diagnostic messages": the message being sent, from send to its last frame.
use Rattle.std.specs.Prelude.{ℕ, ◌+◌, cond, not, List, ltb}
use Rattle.refusal.specs.Numbers as number
use Rattle.cluster.specs.Check.{then}
use Rattle.transport.specs.Cutting.{is_length, message_frames}
use Rattle.master.specs.declared.state.Sending as state
use Rattle.master.specs.declared.state.Message.{Message}
use Rattle.master.specs.declared.state.Message.TheVariants.{None, Sending, Completed, Failed}
use Rattle.master.specs.declared.state.Opened.{Opened}
use Rattle.master.specs.declared.state.Opened.TheVariants as opened
use Rattle.master.specs.declared.state.State.{State}
use Rattle.master.specs.Answers.{Sent}
use Rattle.master.specs.declared.send.MessageAnswer.{MessageAnswer}
use Rattle.master.specs.declared.send.MessageAnswer.TheVariants as tells
use Rattle.master.specs.State.{with_message}
use Rattle.master.specs.Fits.{is_sending}
use Rattle.master.specs.Admit.{unless, admitted, answered, buffer_size}
use Rattle.std.specs.Prelude.{Ok}
use Rattle.cluster.specs.Check.{Verdict}
use Rattle.std.specs.Prelude.{Err}
use Rattle.master.specs.Calls.{MessageResult}

-- the message at one of its frames, or completed behind the last of them
abbrev pub sending_at : state.Sending → ℕ → ℕ → Message
sending_at x next frames = cond (ltb next frames) (Sending (record { nad = x.nad; length = x.length; next = next })) Completed

-- "A successful request transfer moves to the next frame or completes"
unfoldable pub moved : Message → Message
moved None = None
moved (Sending x) = sending_at x (x.next + 1) (message_frames x.length)
moved Completed = Completed
moved Failed = Failed

-- what a successful transfer does to the message
abbrev pub message_sent : Opened → Message → Message
message_sent opened.Nothing x = x
message_sent (opened.Frame f) x = x
message_sent opened.Request x = moved x
message_sent opened.Response x = x

-- "a failed one ends the message as failed"
abbrev pub message_failed : Opened → Message → Message
message_failed opened.Nothing x = x
message_failed (opened.Frame f) x = x
message_failed opened.Request x = Failed
message_failed opened.Response x = x

-- refusals of send: 1, 3, 9 "message length 0 or above 4,095", 10 "send while a message is being sent"
unfoldable pub send_verdict : List ℕ → State → ℕ → Verdict
send_verdict t s n =
    then (admitted t (buffer_size t) s)
    (unless (is_length n) number.message_length
    (unless (not (is_sending s.message)) number.sending
    (Ok tt)))

-- what send hands back: "Send takes any NAD and the length."
unfoldable pub send_of : List ℕ → State → ℕ → ℕ → Sent
send_of t s nad n =
    answered (send_verdict t s n)
    (λ r. record { state = s; answer = Err r })
    (record { state = with_message s (Sending (record { nad = nad; length = n; next = 0 })); answer = Ok tt })

-- "A public call tells none, sending, completed or failed."
abbrev pub told : Message → MessageAnswer
told None = tells.None
told (Sending x) = tells.Sending
told Completed = tells.Completed
told Failed = tells.Failed

-- what the message state answers
unfoldable pub message_of : List ℕ → State → MessageResult
message_of t s = answered (admitted t (buffer_size t) s) (λ r. Err r) (Ok (told s.message))
