-- The transfer record is what the history says of the open transfer: what is open, its bytes, and whether its frame was written since.
use Prim.Native.Nat.{ℕ, suc, ◌+◌, ◌-◌, ◌≤◌}
use mathlib.Core.Path.{◌≡◌, refl, sym, ap, ◌∙◌}
use mathlib.Core.Bool.{true, false, cond, false≢true}
use mathlib.Core.List.{List, [], ◌∷◌, ◌++◌}
use native.Mathlib.Omega.{arith}
use lib.Dec.{eqb}
use lib.ListN.{length, get_or, take, replicate, length-append}
use lib.Seq.{take-suc}
use borrow.Author.Tests.{eqb-true}
use Rattle.master.specs.declared.state.Opened.{Opened}
use Rattle.master.specs.declared.state.Opened.TheVariants.{Nothing, Frame, Request, Response}
use Rattle.master.specs.declared.state.Transfer.{Transfer}
use Rattle.master.specs.declared.byte.ByteAnswer.TheVariants.{More}
use Rattle.master.specs.Fresh.{no_transfer}
use Rattle.master.specs.Transfers.{format_of, is_open, open_length, sends}
use Rattle.master.specs.Write.{touches_open, rewritten}
use Rattle.master.specs.Byte.{with_byte}
use Rattle.master.specs.Seq.{Seq, ∅, ◌▹◌}
use Rattle.master.specs.Acts.{wrote, took}
use Rattle.master.specs.Schedule.{Scheduled, act}
use Rattle.master.specs.History.{writes, opens, closes, open_after, got_by, got_after}
use Rattle.master.specs.Answering.{due_after}
use Rattle.master.proofs.Tests.{never, or_false}
use Rattle.master.proofs.History.Opening.{open_new, open_kept}
use Rattle.master.proofs.History.Computed.{hits, rewritten_after, rewritten_new, rewritten_on}
use Rattle.master.proofs.History.Quiet.{is_quiet, got_quiet, due_quiet, rewritten_quiet}
use Rattle.master.proofs.History.NineBytes.{nine_of, nine_snoc, nine_set, nine_at}
use Rattle.master.specs.Put.{Value}
use Rattle.std.specs.Prelude.{Ok}
use Rattle.master.specs.Calls.{ByteResult}

-- the bytes of the open transfer: those due where the master sends, and else those that came
abbrev pub held_bytes : List ℕ → Seq Scheduled → List ℕ
held_bytes t h = cond (sends t (open_after t h)) (due_after t h) (got_after h)

pub record TransferIs (t : List ℕ) (h : Seq Scheduled) (x : Transfer) : Type 0 where
  pub opened_is : x.opened ≡ open_after t h
  pub count_is : x.count ≡ length (got_after h)
  pub nine_is : x.bytes ≡ nine_of (held_bytes t h)
  pub rewritten_is : x.written ≡ rewritten_after t h
  -- where nothing is open, no byte has come
  pub closed_is : open_after t h ≡ Nothing → got_after h ≡ []
  -- where the master sends, data and checksum are due, and what came so far is their beginning
  pub due_length : sends t (open_after t h) ≡ true → length (due_after t h) ≡ suc (open_length t (open_after t h))
  pub matched : sends t (open_after t h) ≡ true → got_after h ≡ take (length (got_after h)) (due_after t h)

module _ (t : List ℕ) where
  -- after fresh
  pub transfer_fresh : TransferIs t ∅ no_transfer
  unfolding open_after got_after due_after rewritten_after format_of
  transfer_fresh = record {
    opened_is = refl;
    count_is = refl;
    nine_is = refl;
    rewritten_is = refl;
    closed_is = λ o. refl;
    due_length = λ s. never s;
    matched = λ s. never s;
  }

  -- a closing that opens nothing
  pub transfer_closed : (h : Seq Scheduled) (y : Scheduled) → closes y ≡ true → opens t y ≡ Nothing → TransferIs t (h ▹ y) no_transfer
  unfolding got_after due_after format_of
  transfer_closed h y c n =
      let o = open_new t h y c ∙ n in
      record {
        opened_is = sym o;
        count_is = rw c;
        nine_is = rw (o, c);
        rewritten_is = sym (rewritten_new t h y c);
        closed_is = λ p. rw c;
        due_length = λ s. never (rw o at s);
        matched = λ s. never (rw o at s);
      }

-- a byte hits no frame
missed : (t : List ℕ) (y : Scheduled) (b : ℕ) (c : ByteResult) → act y ≡ took b c → (o : Opened) → hits t o y ≡ false
unfolding writes
missed t y b c a Nothing = refl
missed t y b c a (Frame f) = rw a
missed t y b c a Request = refl
missed t y b c a Response = refl

-- what is open is not nothing
pub not_nothing : (o : Opened) → is_open o ≡ true → o ≡ Nothing → ⊥
not_nothing o p e = let z : false ≡ true = rw e at p in false≢true z

sends_open : (t : List ℕ) (o : Opened) → sends t o ≡ true → o ≡ Nothing → ⊥
unfolding format_of
sends_open t o s e = let z : false ≡ true = rw e at s in false≢true z

-- what is due of a transfer that the master sends
module _ (t : List ℕ) (h : Seq Scheduled) (x : Transfer) (is : TransferIs t h x) where
  -- the byte due is the one at the number of those that came
  pub due_byte : sends t (open_after t h) ≡ true → x.count ≤ open_length t (open_after t h)
      → get_or x.bytes x.count 0 ≡ get_or (due_after t h) (length (got_after h)) 0
  due_byte s n =
      rw (is.nine_is, s, is.count_is)
      (nine_at (due_after t h) (length (got_after h)) (rw (is.due_length s) (omega (arith, is.count_is, n))))

  -- what came with it is the beginning of what is due
  next_due : (b : ℕ) → sends t (open_after t h) ≡ true → x.count ≤ open_length t (open_after t h) → eqb (get_or x.bytes x.count 0) b ≡ true
      → got_after h ++ (b ∷ []) ≡ take (length (got_after h ++ (b ∷ []))) (due_after t h)
  next_due b s n e =
      let g = got_after h in
      let d = due_after t h in
      let l : length (g ++ (b ∷ [])) ≡ suc (length g) = omega (arith, length-append g (b ∷ [])) in
      let at : get_or d (length g) 0 ≡ b = sym (due_byte s n) ∙ eqb-true _ b e in
      rw (l, take-suc d (length g) 0 (rw (is.due_length s) (omega (arith, is.count_is, n))), at)
      (ap (λ (r : List ℕ). r ++ (b ∷ [])) (is.matched s))

  -- the nine bytes with one more that was received
  pub received_nine : (b : ℕ) → sends t (open_after t h) ≡ false → x.count ≤ 8
      → with_byte x b ≡ got_after h ++ (b ∷ replicate (8 - length (got_after h)) 255)
  received_nine b s n =
      rw (is.nine_is, s, is.count_is) (nine_set (got_after h) b (omega (arith, is.count_is, n)))

module _ (t : List ℕ) (h : Seq Scheduled) (x : Transfer) (is : TransferIs t h x) where
  -- an event that neither writes, nor brings a byte, nor closes
  pub transfer_quiet : (y : Scheduled) → is_quiet (act y) ≡ true → closes y ≡ false → TransferIs t (h ▹ y) x
  transfer_quiet y q c =
      let o = open_kept t h y c in
      let g = got_quiet t h y q c in
      let d = due_quiet t h y q c in
      record {
        opened_is = is.opened_is ∙ sym o;
        count_is = rw g is.count_is;
        nine_is = rw (o, d, g) is.nine_is;
        rewritten_is = is.rewritten_is ∙ sym (rewritten_quiet t h y q c);
        closed_is = λ p. g ∙ is.closed_is (sym o ∙ p);
        due_length = λ s. rw (o, d) (is.due_length (rw o at s));
        matched = λ s. rw (g, d) (is.matched (rw o at s));
      }

  -- an accepted write
  module _ (y : Scheduled) (s : ℕ) (v : Value) (a : act y ≡ wrote s v) where
    wrote_closes : closes y ≡ false
    unfolding closes
    wrote_closes = rw a

    wrote_hits : (o : Opened) → touches_open t s o ≡ hits t o y
    unfolding writes
    wrote_hits Nothing = refl
    wrote_hits (Frame f) = rw a
    wrote_hits Request = refl
    wrote_hits Response = refl

    pub transfer_wrote : TransferIs t (h ▹ y) (rewritten t s x)
    unfolding rewritten got_after got_by due_after
    transfer_wrote =
        let c = wrote_closes in
        let o = open_kept t h y c in
        record {
          opened_is = is.opened_is ∙ sym o;
          count_is = rw (c, a) is.count_is;
          nine_is = rw (o, c, a) is.nine_is;
          rewritten_is = rw (is.rewritten_is, is.opened_is, wrote_hits (open_after t h)) (sym (rewritten_on t h y c));
          closed_is = λ p. rw (c, a) (is.closed_is (sym o ∙ p));
          due_length = λ z. rw (o, c) (is.due_length (rw o at z));
          matched = λ z. rw (c, a) (is.matched (rw o at z));
        }

  -- one more byte, which does not end the transfer
  module _ (y : Scheduled) (b : ℕ) (a : act y ≡ took b (Ok More)) where
    more_closes : closes y ≡ false
    unfolding closes
    more_closes = rw a

    more_got : got_after (h ▹ y) ≡ got_after h ++ (b ∷ [])
    unfolding got_after got_by
    more_got = rw (more_closes, a)

    more_due : due_after t (h ▹ y) ≡ due_after t h
    unfolding due_after
    more_due = rw more_closes

    more_rewritten : rewritten_after t (h ▹ y) ≡ rewritten_after t h
    more_rewritten = rewritten_on t h y more_closes ∙ rw (misses (open_after t h)) (or_false (rewritten_after t h))
      where
        misses : (o : Opened) → hits t o y ≡ false
        misses = missed t y b (Ok More) a

    more_count : x.count + 1 ≡ length (got_after (h ▹ y))
    more_count = rw more_got (omega (arith, is.count_is, length-append (got_after h) (b ∷ [])))

    -- of a transfer that the master sends: it is the one due
    pub transfer_more_sent : sends t (open_after t h) ≡ true → x.count ≤ open_length t (open_after t h)
        → eqb (get_or x.bytes x.count 0) b ≡ true
        → TransferIs t (h ▹ y) (record { opened = x.opened; count = x.count + 1; bytes = x.bytes; written = x.written })
    transfer_more_sent s n e =
        let o = open_kept t h y more_closes in
        record {
          opened_is = is.opened_is ∙ sym o;
          count_is = more_count;
          nine_is = rw (o, s, more_due) (rw s at is.nine_is);
          rewritten_is = is.rewritten_is ∙ sym more_rewritten;
          closed_is = λ p. absurd (sends_open t (open_after t h) s (sym o ∙ p));
          due_length = λ z. rw (o, more_due) (is.due_length s);
          matched = λ z. rw (more_got, more_due) (next_due t h x is b s n e);
        }

    -- of one that it receives: it is kept
    pub transfer_more_received : sends t (open_after t h) ≡ false → is_open (open_after t h) ≡ true → x.count ≤ 8
        → TransferIs t (h ▹ y) (record { opened = x.opened; count = x.count + 1; bytes = with_byte x b; written = x.written })
    transfer_more_received s p n =
        let o = open_kept t h y more_closes in
        record {
          opened_is = is.opened_is ∙ sym o;
          count_is = more_count;
          nine_is = rw (o, s, more_got) (received_nine t h x is b s n ∙ sym (nine_snoc (got_after h) b));
          rewritten_is = is.rewritten_is ∙ sym more_rewritten;
          closed_is = λ q. absurd (not_nothing (open_after t h) p (sym o ∙ q));
          due_length = λ z. never (sym s ∙ rw o at z);
          matched = λ z. never (sym s ∙ rw o at z);
        }
