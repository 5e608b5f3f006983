-- A message on its way: the frames of one message taken one after the other, with frames of other nodes between them.
use Rattle.std.specs.Prelude.{ℕ, zero, suc, ◌+◌, cond, ◌≡◌, List, [], ◌∷◌, eqb, length, Ok}
use Rattle.transport.specs.Answers.{Answered}
use Rattle.transport.specs.Cutting.{message_frames, message_frame}
use Rattle.transport.specs.Reassembly.{State, step, written, frame_nad}
use Rattle.transport.specs.declared.reassembly.Answer.TheVariants.{Started, More, Done}

-- the reassembler's state and the buffer between two frames
pub record Between : Type 0 where
  pub state : State
  pub buffer : List ℕ

-- the answer to one frame
abbrev pub answer_to : Between → List ℕ → Answered
answer_to x f = (step x.state f x.buffer).taken.answer

-- after one frame
unfoldable pub after : Between → List ℕ → Between
after x f =
    record {
      state = (step x.state f x.buffer).taken.state;
      buffer = written x.buffer (step x.state f x.buffer).place (step x.state f x.buffer).bytes;
    }

-- after some frames
unfoldable pub after_all : Between → List (List ℕ) → Between
after_all x [] = x
after_all x (f ∷ fs) = after_all (after x f) fs

-- after the first k frames of a message
unfoldable pub after_frames : ℕ → List ℕ → Between → ℕ → Between
after_frames nad m x zero = x
after_frames nad m x (suc k) = after (after_frames nad m x k) (message_frame nad m k)

-- the answer due at frame k of a message of n bytes: done at the last frame, started at the first, more at the others
unfoldable pub answer_due : ℕ → ℕ → Answered
answer_due n k = cond (eqb (k + 1) (message_frames n)) (Ok (Done n)) (cond (eqb k 0) (Ok Started) (Ok More))

-- a frame of eight bytes for another node
pub record Foreign (nad : ℕ) (f : List ℕ) : Type 0 where
  pub eight : length f ≡ 8
  pub elsewhere : frame_nad f ≡ nad → ⊥

-- after the first k frames of a message, with the frames `others i` taken before frame i
unfoldable pub after_mixed : ℕ → List ℕ → (ℕ → List (List ℕ)) → Between → ℕ → Between
after_mixed nad m others x zero = x
after_mixed nad m others x (suc k) = after (after_all (after_mixed nad m others x k) (others k)) (message_frame nad m k)
