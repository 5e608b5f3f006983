-- Document 02, Req 01, "A whole panel of values at once": two lent rows, signal numbers and scalar values, are written as one, or not at all.
use Rattle.std.specs.Prelude.{ℕ, suc, Bool, List, [], ◌∷◌, eqb, length}
use Rattle.refusal.specs.Numbers as number
use Rattle.cluster.specs.Check.{then}
use Rattle.master.specs.declared.state.Transfer.{Transfer}
use Rattle.master.specs.declared.state.State.{State}
use Rattle.master.specs.Answers.{Wrote}
use Rattle.master.specs.State.{with_pending, with_transfer}
use Rattle.master.specs.Admit.{unless, admitted, answered, Step}
use Rattle.master.specs.Put.{Put, with_value, puts}
use Rattle.master.specs.Write.{is_bytes, fits_signal, writable, marked_from, rewritten, refused_write}
use Rattle.std.specs.Prelude.{Ok, Err}
use Rattle.cluster.specs.Check.{Verdict}

-- "with its place": a refusal of the pair at a place
abbrev pub at_place : ℕ → Verdict → Verdict
at_place i (Ok tt) = Ok tt
at_place i (Err r) = Err (number.refused_at r.number i)

-- refusals 4 to 7 of one pair
abbrev pub put_verdict : List ℕ → Put → Verdict
put_verdict t w = writable t w.signal (is_bytes w.value) (fits_signal t w.signal w.value)

-- "the number of the first bad pair, with its place, by 4 to 7"; the first of these pairs has place i
unfoldable pub first_bad : List ℕ → ℕ → List Put → Verdict
first_bad t i [] = Ok tt
first_bad t i (w ∷ ws) = then (at_place i (put_verdict t w)) (first_bad t (suc i) ws)

-- "rows of unequal length are 12, tested after 1 to 3; then the number of the first bad pair"
unfoldable pub row_verdict : List ℕ → ℕ → State → List ℕ → List ℕ → Verdict
row_verdict t size x ss vs = then (admitted t size x) (unless (eqb (length ss) (length vs)) number.rows (first_bad t 0 (puts ss vs)))

-- the pending bits with those of the frames that the signals of a row touch
unfoldable pub marked_bits : List ℕ → List ℕ → List Bool → List Bool
marked_bits t [] bits = bits
marked_bits t (s ∷ ss) bits = marked_bits t ss (marked_from t s 0 bits)

-- the transfer, its frame written since its opening where a signal of a row touches it
unfoldable pub rewritten_by : List ℕ → List ℕ → Transfer → Transfer
rewritten_by t [] x = x
rewritten_by t (s ∷ ss) x = rewritten_by t ss (rewritten t s x)

-- the frame bytes with all values of a row put in, in row order
unfoldable pub with_row : List ℕ → List ℕ → List Put → List ℕ
with_row t bs [] = bs
with_row t bs (w ∷ ws) = with_row t (with_value t bs w.signal w.value) ws

-- the state after a row
unfoldable pub marked_row : List ℕ → List ℕ → State → State
marked_row t ss x = with_transfer (with_pending x (marked_bits t ss x.pending)) (rewritten_by t ss x.transfer)

-- what a row hands back and leaves; "If one would be refused, none is written."
unfoldable pub row_of : List ℕ → State → List ℕ → List ℕ → List ℕ → Step Wrote
row_of t x bs ss vs =
    answered (row_verdict t (length bs) x ss vs)
    (λ r. record { given = refused_write x r; left = bs })
    (record { given = record { state = marked_row t ss x; answer = Ok tt }; left = with_row t bs (puts ss vs) })
