-- What each order answers, by the table and the history before it alone; of a call that is `Replies` (master, specs/Replies.antt). Nothing here is taken from
-- the definition of the row.
use Rattle.std.specs.Prelude.{ℕ, suc, ◌≡◌, cond, List, [], ◌∷◌, eqb, length}
use Rattle.refusal.specs.Numbers.{refused, refused_at}
use Rattle.master.specs.Put.{Put, puts}
use Rattle.master.specs.Seq.{Seq}
use Rattle.master.specs.Schedule.{Scheduled}
use Rattle.master.specs.Replies.{put_number, Replies}
use Rattle.orders.specs.Orders.{Order, one, row, OrderAnswer}
use Rattle.std.specs.Prelude.{Ok, Err}
use Rattle.master.specs.Calls.{WriteAnswer}

-- "then the number of the first bad pair, with its place, by 4 to 7", where the first of these pairs has place i
unfoldable pub pairs_reply : List ℕ → ℕ → List Put → WriteAnswer
pairs_reply t i [] = Ok tt
pairs_reply t i (w ∷ ws) =
    cond (eqb (put_number t w.signal w.value) 0)
    (pairs_reply t (suc i) ws)
    (Err (refused_at (put_number t w.signal w.value) i))

-- "rows of unequal length are 12"
unfoldable pub row_reply : List ℕ → List ℕ → List ℕ → WriteAnswer
row_reply t ss vs = cond (eqb (length ss) (length vs)) (pairs_reply t 0 (puts ss vs)) (Err (refused 12))

-- what an order answers after a history
abbrev pub OrderReplies : List ℕ → Seq Scheduled → (o : Order) → OrderAnswer o → Type 0
OrderReplies t h (one c) a = Replies t h c a
OrderReplies t h (row ss vs) a = a ≡ row_reply t ss vs
