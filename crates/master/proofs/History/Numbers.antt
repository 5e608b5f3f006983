-- The refusal number of a call by the history is that of its verdict.
use Prim.Native.Nat.{ℕ}
use mathlib.Core.Path.{◌≡◌, refl, sym, ap, ◌∙◌}
use mathlib.Core.Bool.{Bool, true, false, cond, not, beq}
use mathlib.Core.List.{List}
use lib.Dec.{ltb, eqb}
use Rattle.refusal.specs.declared.Refusal.{Refusal}
use Rattle.refusal.specs.Numbers as number
use Rattle.cluster.specs.Table.{signal_count, schedule_count, is_array}
use Rattle.cluster.specs.Values.{signal_published}
use Rattle.transport.specs.Cutting.{is_length}
use Rattle.transport.proofs.Tests.{whether}
use Rattle.master.specs.declared.state.Message.{Message}
use Rattle.master.specs.Admit.{unless, answered}
use Rattle.master.specs.Fits.{is_sending}
use Rattle.master.specs.Write.{writable}
use Rattle.master.specs.Replies.{test, write_number, read_number, select_number, is_being_sent, send_number}
use Rattle.master.proofs.History.Words.{being_sent}
use Rattle.master.specs.Put.{Value, scalar, array}
use Rattle.master.specs.Write.{is_bytes, fits_signal}
use Rattle.master.specs.Replies.{put_number}
use Rattle.cluster.specs.Values.{value_fits, array_fits}
use Rattle.std.specs.Prelude.{Ok, Err}
use Rattle.cluster.specs.Check.{Verdict}

-- 0 accepts
abbrev pub by_number : ℕ → Verdict
by_number n = cond (eqb n 0) (Ok tt) (Err (number.refused n))

-- one test in front of others
tested : (b : Bool) (n later : ℕ) → eqb n 0 ≡ false → unless b n (by_number later) ≡ by_number (test b n later)
tested true n later e = refl
tested false n later e = rw e

-- what is answered by a verdict is what is answered by its number
pub answered_by_number : {A : Type 0} (n : ℕ) (refuse : Refusal → A) (go : A) → answered (by_number n) refuse go ≡ cond (eqb n 0) go (refuse (number.refused n))
answered_by_number n refuse go = whether (eqb n 0) (λ e. rw e) (λ e. rw e)

-- where the verdict is known
pub reply_is : {A : Type 0} (n : ℕ) (refuse : Refusal → A) (go : A) (v : Verdict) → by_number n ≡ v
    → answered v refuse go ≡ cond (eqb n 0) go (refuse (number.refused n))
reply_is n refuse go v e = ap (λ (w : Verdict). answered w refuse go) (sym e) ∙ answered_by_number n refuse go

-- ---- each call

write_verdict_lem : (t : List ℕ) (s : ℕ) (as_array fits : Bool) → writable t s as_array fits ≡ by_number (write_number t s as_array fits)
unfolding writable write_number
write_verdict_lem t s as_array fits =
    let k = beq (is_array t s) as_array in
    ap (λ (v : Verdict). unless (ltb s (signal_count t)) 4 (unless (signal_published t s) 5 (unless k 6 v))) (tested fits 7 0 refl)
    ∙ ap (λ (v : Verdict). unless (ltb s (signal_count t)) 4 (unless (signal_published t s) 5 v)) (tested k 6 (test fits 7 0) refl)
    ∙ ap (λ (v : Verdict). unless (ltb s (signal_count t)) 4 v) (tested (signal_published t s) 5 (test k 6 (test fits 7 0)) refl)
    ∙ tested (ltb s (signal_count t)) 4 (test (signal_published t s) 5 (test k 6 (test fits 7 0))) refl

pub put_verdict_lem : (t : List ℕ) (s : ℕ) (v : Value) → writable t s (is_bytes v) (fits_signal t s v) ≡ by_number (put_number t s v)
put_verdict_lem t s (scalar v) = write_verdict_lem t s false (value_fits t s v)
put_verdict_lem t s (array vs) = write_verdict_lem t s true (array_fits t s vs)

pub read_verdict_lem : (t : List ℕ) (s : ℕ) (as_array : Bool)
    → unless (ltb s (signal_count t)) number.unknown (unless (beq (is_array t s) as_array) number.kind (Ok tt)) ≡ by_number (read_number t s as_array)
unfolding read_number
read_verdict_lem t s as_array =
    let k = beq (is_array t s) as_array in
    ap (λ (v : Verdict). unless (ltb s (signal_count t)) 4 v) (tested k 6 0 refl)
    ∙ tested (ltb s (signal_count t)) 4 (test k 6 0) refl

pub select_verdict_lem : (t : List ℕ) (n : ℕ) → unless (ltb n (schedule_count t)) number.unknown (Ok tt) ≡ by_number (select_number t n)
unfolding select_number
select_verdict_lem t n = tested (ltb n (schedule_count t)) 4 0 refl

pub send_verdict_lem : (x : Message) (n : ℕ)
    → unless (is_length n) number.message_length (unless (not (is_sending x)) number.sending (Ok tt)) ≡ by_number (send_number x n)
unfolding send_number
send_verdict_lem x n =
    rw (being_sent x)
    (ap (λ (v : Verdict). unless (is_length n) 9 v) (tested (not (is_being_sent x)) 10 0 refl)
    ∙ tested (is_length n) 9 (test (not (is_being_sent x)) 10 0) refl)
