-- Document 01, "Diagnostic messages": the reassembler. What a frame does to a state and to the lent buffer.
use Rattle.std.specs.Prelude.{ℕ, ◌+◌, ◌-◌, ◌*◌, ◌/◌, ◌%◌, min, ◌≡◌, Bool, true, false, cond, not, ◌&&◌, ◌||◌, List, [], ◌∷◌, ◌++◌, leb, ltb, eqb, length, get_or, take, drop}
use Rattle.std.specs.Prelude.{Option, None, Some, Ok}
use Rattle.refusal.specs.Numbers.{buffer, state, frame}
use Rattle.refusal.specs.Answers.{Test, test}
use Rattle.transport.specs.Answers.{Answered, take_refused}
use Rattle.transport.specs.Cutting.{longest}
use Rattle.transport.specs.declared.reassembly.Assembly.{Assembly}
use Rattle.transport.specs.declared.reassembly.Answer.TheVariants.{Ignored, Started, More, Done, Broken}

-- the state from frame to frame: the open message, if there is one
abbrev pub State : Type 0
State = Option Assembly

-- the answer to a frame, and the state handed back
pub record Taken : Type 0 where
  pub state : State
  pub answer : Answered

-- what a frame does: the answer and the state handed back, and the bytes that it delivers to a place of the buffer
pub record Step : Type 0 where
  pub taken : Taken
  pub place : ℕ
  pub bytes : List ℕ

-- the buffer with some bytes delivered to a place
unfoldable pub written : List ℕ → ℕ → List ℕ → List ℕ
written b at ds = take at b ++ (ds ++ drop (at + length ds) b)

-- a step that delivers no byte and changes no buffer
abbrev pub step_to : State → Answered → Step
step_to s a = record { taken = record { state = s; answer = a }; place = 0; bytes = [] }

-- the NAD of a frame
abbrev pub frame_nad : List ℕ → ℕ
frame_nad f = get_or f 0 0

-- the PCI of a frame
abbrev pub frame_pci : List ℕ → ℕ
frame_pci f = get_or f 1 0

-- the four kinds of frame
pub data Kind : Type 0 where
  single : Kind
  first : Kind
  next : Kind
  other : Kind

-- a number from a to b
abbrev pub between : ℕ → ℕ → ℕ → Bool
between a b n = leb a n && leb n b

-- "PCI = length" of 1..6: single; 16 + length / 256: first; 32 + counter: next; "PCI 0, 7..15 or 48 and above": none of these
unfoldable pub kind_of : ℕ → Kind
kind_of pci = cond (between 1 6 pci) single (cond (between 16 31 pci) first (cond (between 32 47 pci) next other))

-- the length that a first frame tells
abbrev pub first_length : List ℕ → ℕ
first_length f = 256 * (frame_pci f - 16) + get_or f 2 0

-- the next frames that are in a count of bytes of 5 + 6k: k
abbrev pub next_frames : ℕ → ℕ
next_frames count = (count - 5) / 6

-- refusal 3: "an open reassembly with NAD 0, length not 7..4095, a count of bytes not 5 + 6k below the length, or a counter that
-- isn't the one due then"
unfoldable pub assembly_fits : Assembly → Bool
assembly_fits m =
    not (eqb m.nad 0)
    && between 7 longest m.length
    && eqb m.count (5 + 6 * next_frames m.count)
    && ltb m.count m.length
    && eqb m.counter ((1 + next_frames m.count) % 16)

-- a state that is not refused with 3
unfoldable pub fits : State → Bool
fits None = true
fits (Some m) = assembly_fits m

-- a message is open
abbrev pub is_assembling : State → Bool
is_assembling None = false
is_assembling (Some m) = true

-- a NAD that is not ignored; ignored are "NAD 0; .. another NAD than the open one"
unfoldable pub listens : State → ℕ → Bool
listens None nad = not (eqb nad 0)
listens (Some m) nad = not (eqb nad 0) && eqb nad m.nad

-- the next frame brings the counter due
unfoldable pub counter_due : Assembly → List ℕ → Bool
counter_due m f = eqb (frame_pci f) (32 + m.counter)

-- "a next frame that would be taken": eight bytes, of the open NAD and with the counter due
unfoldable pub would_be_taken : Assembly → List ℕ → Bool
would_be_taken m f = eqb (length f) 8 && eqb (frame_nad f) m.nad && counter_due m f

-- refusal 2: "a next frame that would be taken, in a state 3 doesn't refuse, meets a buffer shorter than its open message"
unfoldable pub too_short : State → List ℕ → List ℕ → Bool
too_short None f b = false
too_short (Some m) f b = assembly_fits m && would_be_taken m f && ltb (length b) m.length

-- what is ignored by its kind: "PCI 0, 7..15 or 48 and above; a first length below 7 or above the buffer; a single length above
-- the buffer; a next frame with none open"
unfoldable pub kind_ignored : Kind → State → List ℕ → List ℕ → Bool
kind_ignored single s f b = ltb (length b) (frame_pci f)
kind_ignored first s f b = ltb (first_length f) 7 || ltb (length b) (first_length f)
kind_ignored next s f b = not (is_assembling s)
kind_ignored other s f b = true

-- "Ignored": for its NAD, or by its kind
unfoldable pub ignored : State → List ℕ → List ℕ → Bool
ignored s f b = not (listens s (frame_nad f)) || kind_ignored (kind_of (frame_pci f)) s f b

-- a single frame: done, with as many bytes as its PCI says
unfoldable pub single_step : List ℕ → Step
single_step f =
    record {
      taken = record { state = None; answer = Ok (Done (frame_pci f)) };
      place = 0;
      bytes = take (frame_pci f) (drop 2 f);
    }

-- a first frame: a message is open, with five bytes
unfoldable pub first_step : List ℕ → Step
first_step f =
    record {
      taken = record {
        state = Some (record { nad = frame_nad f; length = first_length f; count = 5; counter = 1 });
        answer = Ok Started;
      };
      place = 0;
      bytes = take 5 (drop 3 f);
    }

-- the state and the answer once n bytes of an open message are there
unfoldable pub reached : Assembly → ℕ → Taken
reached m n =
    cond (ltb n m.length)
    (record {
      state = Some (record { nad = m.nad; length = m.length; count = n; counter = (m.counter + 1) % 16 });
      answer = Ok More;
    })
    (record { state = None; answer = Ok (Done m.length) })

-- the bytes that a next frame brings: six, or the rest where fewer are left
unfoldable pub bytes_due : Assembly → ℕ
bytes_due m = min 6 (m.length - m.count)

-- a next frame with the counter due
unfoldable pub continued : Assembly → List ℕ → Step
continued m f =
    record {
      taken = reached m (m.count + bytes_due m);
      place = m.count;
      bytes = take (bytes_due m) (drop 2 f);
    }

-- a next frame of the open NAD: "A wrong counter answers broken and closes."
unfoldable pub next_step : State → List ℕ → Step
next_step None f = step_to None (Ok Ignored)
next_step (Some m) f = cond (counter_due m f) (continued m f) (step_to None (Ok Broken))

-- a frame that is neither refused nor ignored, by its kind
unfoldable pub kind_step : Kind → State → List ℕ → Step
kind_step single s f = single_step f
kind_step first s f = first_step f
kind_step next s f = next_step s f
kind_step other s f = step_to s (Ok Ignored)

-- what a frame does: refusals 2, 3 and 11, "the lowest number is given"; ignored; or by its kind
unfoldable pub step : State → List ℕ → List ℕ → Step
step s f b =
    cond (too_short s f b) (step_to s (take_refused buffer))
    (cond (not (fits s)) (step_to s (take_refused state))
    (cond (not (eqb (length f) 8)) (step_to s (take_refused frame))
    (cond (ignored s f b) (step_to s (Ok Ignored))
    (kind_step (kind_of (frame_pci f)) s f))))

-- what a step leaves: the answer with the state handed back, and the buffer ("Only the bytes delivered by a frame are written,
-- directly behind those before them.")
pub record Leaves (st : Step) (b : List ℕ) (r : Taken) (after : List ℕ) : Type 0 where
  pub handed : r ≡ st.taken
  pub left : after ≡ written b st.place st.bytes

-- ---- the tests of the paper's table

-- 2 "a next frame that would be taken .. meets a buffer shorter than its open message"; 3 an open reassembly that does not fit; 11 "a frame for the
-- reassembler not of eight bytes"
abbrev pub take_tests : State → List ℕ → List ℕ → List Test
take_tests s f b = test 2 (not (too_short s f b)) ∷ test 3 (fits s) ∷ test 11 (eqb (length f) 8) ∷ []

-- "done with the length": what is told of a frame that is not refused, of a single one its own length, and of a next one that of the message where that is
-- all there with it
abbrev pub kind_values : Kind → State → List ℕ → List ℕ
kind_values single s f = frame_pci f ∷ []
kind_values first s f = []
kind_values next None f = []
kind_values next (Some m) f = cond (counter_due m f && leb m.length (m.count + bytes_due m)) (m.length ∷ []) []
kind_values other s f = []

abbrev pub take_values : State → List ℕ → List ℕ → List ℕ
take_values s f b = cond (ignored s f b) [] (kind_values (kind_of (frame_pci f)) s f)
