-- Document 01, "The log program": "one frame a line", "the last newline may be missing".
use Rattle.std.specs.Prelude.{ℕ, cond, List, [], ◌∷◌, ◌++◌, ◌==◌}

-- the whole lines of a text, without their newlines, where `begun` stands before the text
unfoldable pub whole_lines : List ℕ → List ℕ → List (List ℕ)
whole_lines begun [] = []
whole_lines begun (c ∷ rest) = cond (c == 10) (begun ∷ whole_lines [] rest) (whole_lines (begun ++ (c ∷ [])) rest)

-- what stands behind the last newline
unfoldable pub unfinished : List ℕ → List ℕ → List ℕ
unfinished begun [] = begun
unfinished begun (c ∷ rest) = cond (c == 10) (unfinished [] rest) (unfinished (begun ++ (c ∷ [])) rest)

-- a last line whose newline is missing; an empty one is none
unfoldable pub last_line : List ℕ → List (List ℕ)
last_line [] = []
last_line (c ∷ rest) = (c ∷ rest) ∷ []

-- the lines of a whole log
unfoldable pub log_lines : List ℕ → List (List ℕ)
log_lines log = whole_lines [] log ++ last_line (unfinished [] log)
