-- The open transfer of f: not written since its start, it started after every write to f; written since, there is that write.
use Prim.Native.Nat.{ℕ}
use mathlib.Core.Path.{◌≡◌, refl, sym, ap, ◌∙◌}
use mathlib.Core.Logic.{⊎_elim}
use mathlib.Core.Bool.{true, false}
use mathlib.Core.List.{List}
use Rattle.transport.proofs.Tests.{whether, or_left}
use Rattle.master.specs.Seq.{Seq, ∅, ◌▹◌, ◌⋈◌, Each}
use Rattle.master.specs.Schedule.{Scheduled}
use Rattle.master.specs.History.{writes, closes, open_after, carries}
use Rattle.master.proofs.Tests.{never, or_cases, or_true}
use Rattle.master.proofs.History.Events.{wrote_keeps}
use Rattle.master.proofs.History.Opening.{open_new, open_kept}
use Rattle.master.proofs.History.Computed.{hits, rewritten_after, rewritten_new, rewritten_on, hits_carried}

module _ (t : List ℕ) where
  pub started_after : (before : Seq Scheduled) (w : Scheduled) (after : Seq Scheduled) (f : ℕ) → writes t w f ≡ true
      → carries (open_after t (before ▹ w ⋈ after)) f ≡ true → rewritten_after t (before ▹ w ⋈ after) ≡ false → carries (open_after t after) f ≡ true
  started_after before w ∅ f a o r =
      let k : closes w ≡ false = wrote_keeps t w f a in
      let c : carries (open_after t before) f ≡ true = rw (open_kept t before w k) at o in
      never (sym r ∙ rw (rewritten_on t before w k, hits_carried t (open_after t before) w f c, a) (or_true (rewritten_after t before)))
  started_after before w (after ▹ x) f a o r =
      let h = before ▹ w ⋈ after in
      whether (closes x)
      (λ c. rw (open_new t after x c) (rw (open_new t h x c) at o))
      (λ c. rw (open_kept t after x c) (started_after before w after f a
      (rw (open_kept t h x c) at o)
      (or_left (rewritten_after t h) (hits t (open_after t h) x) (sym (rewritten_on t h x c) ∙ r))))

  -- a write to f after which nothing closed
  pub record WrittenSince (h : Seq Scheduled) (f : ℕ) : Type 0 where
    pub before : Seq Scheduled
    pub after : Seq Scheduled
    pub write : Scheduled
    pub split : h ≡ before ▹ write ⋈ after
    pub accepted : writes t write f ≡ true
    pub quiet : Each (λ x. closes x ≡ false) after

  still_written : (h : Seq Scheduled) (x : Scheduled) (f : ℕ) → closes x ≡ false → WrittenSince h f → WrittenSince (h ▹ x) f
  still_written h x f c w = record {
    before = w.before;
    after = w.after ▹ x;
    write = w.write;
    split = ap (λ g. g ▹ x) w.split;
    accepted = w.accepted;
    quiet = (w.quiet, c);
  }

  pub written_since : (h : Seq Scheduled) (f : ℕ) → rewritten_after t h ≡ true → carries (open_after t h) f ≡ true → WrittenSince h f
  unfolding rewritten_after
  written_since ∅ f r o = never r
  written_since (h ▹ x) f r o =
      whether (closes x)
      (λ c. never (sym (rewritten_new t h x c) ∙ r))
      (λ c.
      let o' : carries (open_after t h) f ≡ true = rw (open_kept t h x c) at o in
      ⊎_elim
      (λ y. still_written h x f c (written_since h f y o'))
      (λ y. record { before = h; after = ∅; write = x; split = refl; accepted = sym (hits_carried t (open_after t h) x f o') ∙ y; quiet = tt })
      (or_cases (rewritten_after t h) (hits t (open_after t h) x) (sym (rewritten_on t h x c) ∙ r)))
