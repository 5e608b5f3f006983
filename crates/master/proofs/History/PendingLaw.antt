-- `pending_after` computes `Pending`.
use Prim.Native.Nat.{ℕ}
use mathlib.Core.Path.{◌≡◌, refl, sym, ap, ◌∙◌}
use mathlib.Core.Logic.{◌↔◌}
use mathlib.Core.Bool.{true, false}
use mathlib.Core.List.{List}
use Rattle.transport.proofs.Tests.{whether}
use Rattle.master.specs.Seq.{Seq, ∅, ◌▹◌, ◌⋈◌}
use Rattle.master.specs.Schedule.{Scheduled}
use Rattle.master.specs.History.{writes, succeeds, open_after, carries, Succeeded, Pending}
use Rattle.master.proofs.Tests.{never}
use Rattle.master.proofs.History.Opening.{open_part}
use Rattle.master.proofs.History.Success.{same_past, same_last, not_empty, success_now, success_before, unsent_next, unsent_empty, unsent_quiet_next}
use Rattle.master.proofs.History.Computed.{rewritten_after, wipes, pending_after, pending_wrote, pending_stays, pending_was, wipes_when, wiped_by}
use Rattle.master.proofs.History.Rewriting.{started_after, WrittenSince, written_since}

-- f was pending before x, and x does not wipe it
module _ (t : List ℕ) (h : Seq Scheduled) (x : Scheduled) (f : ℕ) (q : Pending t h f) (z : wipes t h x f ≡ false) where
  -- the write that made it so serves still
  same_write : ¬ Succeeded t (q.after ▹ x) f → Pending t (h ▹ x) f
  same_write u = record {
    before = q.before;
    after = q.after ▹ x;
    write = q.write;
    split = ap (λ g. g ▹ x) q.split;
    accepted = q.accepted;
    unsent = u;
  }

  -- or, where x is the success of a transfer that started after that write, one since that start does
  later_write : WrittenSince t h f → Pending t (h ▹ x) f
  later_write w = record {
    before = w.before;
    after = w.after ▹ x;
    write = w.write;
    split = ap (λ g. g ▹ x) w.split;
    accepted = w.accepted;
    unsent = unsent_quiet_next t w.after x f w.quiet;
  }

  still_pending : Pending t (h ▹ x) f
  still_pending =
      whether (succeeds x)
      (λ s. whether (carries (open_after t q.after) f)
      (λ c.
      let o : carries (open_after t h) f ≡ true = rw (q.split, open_part t (q.before ▹ q.write) q.after f c) c in
      whether (rewritten_after t h)
      (λ r. later_write (written_since t h f r o))
      (λ r. never (sym z ∙ wipes_when t h x f s o r)))
      (λ c. same_write (unsent_next t q.after x f q.unsent (λ c' s'. never (sym c ∙ c')))))
      (λ s. same_write (unsent_next t q.after x f q.unsent (λ c' s'. never (sym s ∙ s'))))

pub pending_sound : (t : List ℕ) (h : Seq Scheduled) (f : ℕ) → pending_after t h f ≡ true → Pending t h f
unfolding pending_after
pending_sound t ∅ f p = never p
pending_sound t (h ▹ x) f p =
    whether (writes t x f)
    (λ w. record { before = h; after = ∅; write = x; split = refl; accepted = w; unsent = unsent_empty t f })
    (λ w. let was = pending_was t h x f w p in still_pending t h x f (pending_sound t h f was.1) was.0)

-- f was written before x, no transfer of f that started after that write succeeded up to x: then x does not wipe
module _ (t : List ℕ) (h : Seq Scheduled) (x : Scheduled) (f : ℕ) (before : Seq Scheduled) (w : Scheduled) (after : Seq Scheduled)
    (split : h ≡ before ▹ w ⋈ after) (a : writes t w f ≡ true) (u : ¬ Succeeded t (after ▹ x) f) where
  not_wiped : wipes t h x f ≡ false
  not_wiped =
      whether (wipes t h x f)
      (λ z.
      let y = wiped_by t h x f z in
      absurd (u (success_now t after x f (started_after t before w after f a (rw split at y.1) (rw split at y.2)) y.0)))
      (λ z. z)

  was_pending : Pending t h f
  was_pending = record { before = before; after = after; write = w; split = split; accepted = a; unsent = λ s. u (success_before t after x f s) }

pub pending_complete : (t : List ℕ) (h : Seq Scheduled) (f : ℕ) → Pending t h f → pending_after t h f ≡ true
pending_complete t ∅ f p = absurd (not_empty p.before p.write p.after p.split)
pending_complete t (h ▹ x) f p = go p.after p.split p.unsent (pending_complete t h f)
  where
    go : (after : Seq Scheduled) → h ▹ x ≡ p.before ▹ p.write ⋈ after → ¬ Succeeded t after f → (Pending t h f → pending_after t h f ≡ true)
        → pending_after t (h ▹ x) f ≡ true
    go ∅ s u ih = pending_wrote t h x f (rw (same_last s) p.accepted)
    go (after ▹ y) s u ih =
        let u' : ¬ Succeeded t (after ▹ x) f = rw (same_last s) u in
        pending_stays t h x f
        (not_wiped t h x f p.before p.write after (same_past s) p.accepted u')
        (ih (was_pending t h x f p.before p.write after (same_past s) p.accepted u'))

-- what is computed is what is meant
pub pending_iff : (t : List ℕ) (h : Seq Scheduled) (f : ℕ) → (pending_after t h f ≡ true) ↔ Pending t h f
pending_iff t h f = (pending_sound t h f, pending_complete t h f)
