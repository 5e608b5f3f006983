-- What the reassembler's private functions do, each a part of `step`; only their own contracts cite this file.
use Rattle.std.specs.Prelude.{cond, List, ℕ, ltb, length, None, Some, Ok}
use Rattle.refusal.specs.Numbers.{buffer}
use Rattle.transport.specs.Answers.{take_refused}
use Rattle.transport.specs.Reassembly.{State, Step, Kind, step_to, kind_ignored, kind_step, counter_due, continued}
use Rattle.transport.specs.declared.reassembly.Assembly.{Assembly}
use Rattle.transport.specs.declared.reassembly.Answer.TheVariants.{Ignored, Broken}

-- a frame of a kind, ignored or not
unfoldable pub kind_outcome : Kind → State → List ℕ → List ℕ → Step
kind_outcome k s f b = cond (kind_ignored k s f b) (step_to s (Ok Ignored)) (kind_step k s f)

-- a next frame for an open message
unfoldable pub message_outcome : Assembly → List ℕ → List ℕ → Step
message_outcome m f b =
    cond (counter_due m f)
    (cond (ltb (length b) m.length) (step_to (Some m) (take_refused buffer)) (continued m f))
    (step_to None (Ok Broken))

-- a next frame of a NAD that is not ignored
unfoldable pub next_outcome : State → List ℕ → List ℕ → Step
next_outcome None f b = step_to None (Ok Ignored)
next_outcome (Some m) f b = message_outcome m f b
