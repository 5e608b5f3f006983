-- The answers in the paper's terms: of each case the refusal number, 0 where it refuses nothing, the place and the values.
use Rattle.std.specs.Prelude.{ℕ, List, [], ◌∷◌, Option, Result, Ok, Err}
use Rattle.refusal.specs.Answers.{Told, gives, refuses}
use Rattle.refusal.specs.Numbers.{refused}
use Rattle.refusal.specs.declared.Refusal.{Refusal}
use Rattle.transport.specs.declared.reassembly.Answer.{Answer}
use Rattle.transport.specs.declared.reassembly.Answer.TheVariants as taken

-- what is answered for a length: the number of frames, or the refusal
abbrev pub Counted : Type 0
Counted = Result ℕ Refusal

-- for a frame's number: the frame's bytes, none where there is no such frame, or the refusal
abbrev pub Cut : Type 0
Cut = Result (Option (List ℕ)) Refusal

-- for a frame that the reassembler takes
abbrev pub Answered : Type 0
Answered = Result Answer Refusal

-- what is told of a length: its number of frames
abbrev pub count_told : Counted → Told
count_told (Ok n) = gives (n ∷ [])
count_told (Err r) = refuses r

-- of a frame's number; the frame's bytes stand in the answer
abbrev pub cut_told : Cut → Told
cut_told (Ok f) = gives []
cut_told (Err r) = refuses r

-- of a frame that the reassembler takes: "done with the length"
abbrev pub take_told : Answered → Told
take_told (Ok taken.Ignored) = gives []
take_told (Ok taken.Started) = gives []
take_told (Ok taken.More) = gives []
take_told (Ok (taken.Done n)) = gives (n ∷ [])
take_told (Ok taken.Broken) = gives []
take_told (Err r) = refuses r

-- the answers that refuse with a number and no place
abbrev pub count_refused : ℕ → Counted
count_refused n = Err (refused n)

abbrev pub cut_refused : ℕ → Cut
cut_refused n = Err (refused n)

abbrev pub take_refused : ℕ → Answered
take_refused n = Err (refused n)
