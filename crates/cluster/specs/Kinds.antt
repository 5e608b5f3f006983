-- Document 01, "The cluster table": the kinds of an entry by their names.
use Rattle.std.specs.Prelude.{ℕ, ◌≡◌, ◌<◌, cond, eqb, Option, Some, None}
use Rattle.cluster.specs.declared.entries.EntryKind.{EntryKind}
use Rattle.cluster.specs.declared.entries.EntryKind.TheVariants.{Frame, List, Request, Response}

-- "kind 0 frame, 1 list, 2 request, 3 response"
unfoldable pub kind_of : ℕ → Option EntryKind
kind_of w =
    cond (eqb w 0) (Some Frame)
    (cond (eqb w 1) (Some List)
    (cond (eqb w 2) (Some Request)
    (cond (eqb w 3) (Some Response)
    None)))

-- and the number of each
unfoldable pub kind_word : EntryKind → ℕ
kind_word Frame = 0
kind_word List = 1
kind_word Request = 2
kind_word Response = 3

-- what a word is that stands for a kind, or for none
abbrev pub KindSays : ℕ → Option EntryKind → Type 0
KindSays w (Some Frame) = w ≡ 0
KindSays w (Some List) = w ≡ 1
KindSays w (Some Request) = w ≡ 2
KindSays w (Some Response) = w ≡ 3
KindSays w None = 3 < w
