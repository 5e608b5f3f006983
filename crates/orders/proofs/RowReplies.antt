-- Behind tests 1 to 3 a row answers what the table and its pairs say.
use Prim.Native.Nat.{ℕ, suc}
use mathlib.Core.Path.{◌≡◌, refl, ◌∙◌}
use mathlib.Core.Bool.{Bool, true, false, cond, beq}
use mathlib.Core.List.{List, [], ◌∷◌}
use lib.Dec.{ltb, eqb}
use lib.ListN.{length}
use Rattle.refusal.specs.Numbers.{refused_at}
use Rattle.cluster.specs.Check.{then}
use Rattle.cluster.specs.Table.{signal_count, is_array}
use Rattle.cluster.specs.Values.{signal_published, value_fits, array_fits}
use Rattle.master.specs.declared.state.State.{State}
use Rattle.master.specs.Answers.{Wrote}
use Rattle.master.specs.Admit.{unless, answered, Step}
use Rattle.master.specs.Put.{Value, scalar, array, Put, put, puts}
use Rattle.master.specs.Write.{writable, refused_write}
use Rattle.master.specs.WriteRow.{at_place, put_verdict, first_bad, row_verdict, row_of}
use Rattle.master.specs.Run.{Held}
use Rattle.master.specs.RowInWords.{Admitted}
use Rattle.master.specs.Replies.{test, write_number, put_number}
use Rattle.orders.specs.Orders.{row}
use Rattle.orders.specs.Run.{order_answer}
use Rattle.orders.specs.Replies.{pairs_reply, row_reply}
use Rattle.std.specs.Prelude.{Ok, Err}
use Rattle.cluster.specs.Check.{Verdict}
use Rattle.master.specs.Calls.{WriteAnswer}

-- a verdict as the answer of a write
abbrev reply_to : Verdict → WriteAnswer
reply_to v = answered v Err (Ok tt)

-- the verdict on a pair, and then what the later ones answer
pair_reply : (i : ℕ) (a b c d : Bool) (v : Verdict) (x : WriteAnswer) → reply_to v ≡ x
    → reply_to (then (at_place i (unless a 4 (unless b 5 (unless c 6 (unless d 7 (Ok tt)))))) v)
    ≡ cond (eqb (test a 4 (test b 5 (test c 6 (test d 7 0)))) 0) x (Err (refused_at (test a 4 (test b 5 (test c 6 (test d 7 0)))) i))
pair_reply i true true true true v x e = e
pair_reply i true true true false v x e = refl
pair_reply i true true false d v x e = refl
pair_reply i true false c d v x e = refl
pair_reply i false b c d v x e = refl

put_reply : (t : List ℕ) (i s : ℕ) (w : Value) (v : Verdict) (x : WriteAnswer) → reply_to v ≡ x
    → reply_to (then (at_place i (put_verdict t (put s w))) v) ≡ cond (eqb (put_number t s w) 0) x (Err (refused_at (put_number t s w) i))
unfolding writable write_number
put_reply t i s (scalar n) v x e =
    pair_reply i (ltb s (signal_count t)) (signal_published t s) (beq (is_array t s) false) (value_fits t s n) v x e
put_reply t i s (array ns) v x e =
    pair_reply i (ltb s (signal_count t)) (signal_published t s) (beq (is_array t s) true) (array_fits t s ns) v x e

pairs_reply_lem : (t : List ℕ) (i : ℕ) (ws : List Put) → reply_to (first_bad t i ws) ≡ pairs_reply t i ws
unfolding first_bad pairs_reply
pairs_reply_lem t i [] = refl
pairs_reply_lem t i (w ∷ ws) = put_reply t i w.signal w.value (first_bad t (suc i) ws) (pairs_reply t (suc i) ws) (pairs_reply_lem t (suc i) ws)

length_reply : (b : Bool) (v : Verdict) (x : WriteAnswer) → reply_to v ≡ x
    → reply_to (unless b 12 v) ≡ cond b x (Err (refused_at 12 0))
length_reply true v x e = e
length_reply false v x e = refl

-- a row answers its verdict
answers_verdict : (v : Verdict) (x : State) (bs : List ℕ) (go : Step Wrote) → go.given.answer ≡ Ok tt
    → (answered v (λ r. record { given = refused_write x r; left = bs }) go).given.answer ≡ reply_to v
answers_verdict (Ok tt) x bs go e = e
answers_verdict (Err r) x bs go e = refl

row_verdict_lem : (t : List ℕ) (x : Held) → Admitted t x → (ss vs : List ℕ) → reply_to (row_verdict t (length x.bytes) x.state ss vs) ≡ row_reply t ss vs
unfolding row_verdict row_reply
row_verdict_lem t x ad ss vs =
    rw ad (length_reply (eqb (length ss) (length vs)) (first_bad t 0 (puts ss vs)) (pairs_reply t 0 (puts ss vs)) (pairs_reply_lem t 0 (puts ss vs)))

pub row_replies : (t : List ℕ) (x : Held) → Admitted t x → (ss vs : List ℕ) → order_answer t x (row ss vs) ≡ row_reply t ss vs
unfolding order_answer row_of
row_replies t x ad ss vs =
    answers_verdict (row_verdict t (length x.bytes) x.state ss vs) x.state x.bytes _ refl ∙ row_verdict_lem t x ad ss vs
