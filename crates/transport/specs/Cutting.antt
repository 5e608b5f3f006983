-- Document 01, "Diagnostic messages": how a message is cut into frames of eight bytes.
use Rattle.std.specs.Prelude.{ℕ, zero, suc, ◌+◌, ◌-◌, ◌*◌, ◌/◌, ◌%◌, Bool, cond, ◌&&◌, List, [], ◌∷◌, leb, ltb, length, get_or, replicate}
use Rattle.std.specs.Prelude.{Some, None, Ok, Err}
use Rattle.refusal.specs.Numbers.{message_length}
use Rattle.transport.specs.Answers.{Counted, Cut, count_refused, cut_refused}

-- "4095": the length of the longest message
abbrev pub longest : ℕ
longest = 4095

-- refusal 9: "message length 0 or above 4,095"
abbrev pub is_length : ℕ → Bool
is_length n = leb 1 n && leb n longest

-- a number divided by six, "rounded up"
abbrev pub sixths : ℕ → ℕ
sixths n = (n + 5) / 6

-- "Frames: 1, or 1 + (length - 5) / 6 rounded up"
unfoldable pub message_frames : ℕ → ℕ
message_frames n = cond (leb n 6) 1 (1 + sixths (n - 5))

-- n data bytes of a message from a place on; "unused bytes are 255"
unfoldable pub data_bytes : List ℕ → ℕ → ℕ → List ℕ
data_bytes m at zero = []
data_bytes m at (suc n) = get_or m at 255 ∷ data_bytes m (at + 1) n

-- "Length 1..6: one frame, PCI = length"
unfoldable pub single_frame : ℕ → List ℕ → List ℕ
single_frame nad m = nad ∷ length m ∷ data_bytes m 0 6

-- "Length 7..4095: first frame with PCI 16 + length / 256, then length mod 256, then 5 bytes"
unfoldable pub first_frame : ℕ → List ℕ → List ℕ
first_frame nad m = nad ∷ (16 + length m / 256) ∷ (length m % 256) ∷ data_bytes m 0 5

-- "next frames with PCI 32 + counter and 6 bytes, counter 1, 2, .. 15, 0, 1": next frame i, counted from 0
unfoldable pub next_frame : ℕ → List ℕ → ℕ → List ℕ
next_frame nad m i = nad ∷ (32 + (1 + i) % 16) ∷ data_bytes m (5 + 6 * i) 6

-- frame k of a message, counted from 0
unfoldable pub message_frame : ℕ → List ℕ → ℕ → List ℕ
message_frame nad m zero = cond (leb (length m) 6) (single_frame nad m) (first_frame nad m)
message_frame nad m (suc i) = next_frame nad m i

-- what is answered for a length
unfoldable pub count_of : ℕ → Counted
count_of n = cond (is_length n) (Ok (message_frames n)) (count_refused message_length)

-- what is answered for frame k of a message
unfoldable pub cut_of : ℕ → List ℕ → ℕ → Cut
cut_of nad m k =
    cond (is_length (length m))
    (cond (ltb k (message_frames (length m))) (Ok (Some (message_frame nad m k))) (Ok None))
    (cut_refused message_length)

-- the bytes of what is answered, eight of 255 where there is no frame
abbrev pub cut_bytes : Cut → List ℕ
cut_bytes (Ok (Some f)) = f
cut_bytes (Ok None) = replicate 8 255
cut_bytes (Err r) = replicate 8 255
