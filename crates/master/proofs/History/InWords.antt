-- `Pending` is demand 3's sentence (specs/InWords.antt). The claim's proof uses none of this.
use Prim.Native.Nat.{ℕ}
use mathlib.Core.Path.{◌≡◌, refl, sym, ap, ◌∙◌}
use mathlib.Core.Logic.{◌⊎◌, inl, inr, ⊎_elim, ◌↔◌}
use mathlib.Core.Bool.{true, false}
use mathlib.Core.List.{List}
use Rattle.transport.proofs.Tests.{whether}
use Rattle.master.specs.declared.state.Opened.TheVariants.{Nothing}
use Rattle.master.specs.Seq.{Seq, ∅, ◌▹◌, ◌⋈◌, Each}
use Rattle.master.specs.Schedule.{Scheduled}
use Rattle.master.specs.History.{closes, succeeds, open_after, carries, Succeeded, Pending}
use Rattle.master.specs.InWords.{Written, LastSent, since_opening, PendingInWords}
use Rattle.master.proofs.Tests.{never}
use Rattle.master.proofs.History.Events.{wrote_keeps, opens_closes, success_opens, success_closes}
use Rattle.master.proofs.History.Opening.{open_new, open_part, open_from_idle, open_quiet, Started, started}
use Rattle.master.proofs.History.Success.{same_past, same_last, success_now, success_before, success_cases, unsent_next, unsent_empty, unsent_quiet}

-- ---- sequences

join_assoc : {A : Type 0} (f g h : Seq A) → f ⋈ (g ⋈ h) ≡ f ⋈ g ⋈ h
join_assoc f g ∅ = refl
join_assoc f g (h ▹ x) = ap (λ k. k ▹ x) (join_assoc f g h)

-- two elements of one sequence: the first comes earlier, they are one, or it comes later
pub data Places {A : Type 0} (x : A) (after : Seq A) (y : A) (rest : Seq A) : Type 0 where
  earlier : (between : Seq A) → after ≡ between ▹ y ⋈ rest → Places x after y rest
  same : x ≡ y → after ≡ rest → Places x after y rest
  later : (between : Seq A) → rest ≡ between ▹ x ⋈ after → Places x after y rest

places : {A : Type 0} (g : Seq A) (x : A) (after : Seq A) (h : Seq A) (y : A) (rest : Seq A) → g ▹ x ⋈ after ≡ h ▹ y ⋈ rest → Places x after y rest
places g x ∅ h y ∅ p = same (same_last p) refl
places g x ∅ h y (rest ▹ z) p = later rest (ap (λ w. rest ▹ w) (sym (same_last p)))
places g x (after ▹ z) h y ∅ p = earlier after (ap (λ w. after ▹ w) (same_last p))
places g x (after ▹ z) h y (rest ▹ w) p = go (places g x after h y rest (same_past p))
  where
    last : z ≡ w
    last = same_last p

    go : Places x after y rest → Places x (after ▹ z) y (rest ▹ w)
    go (earlier between e) = earlier between (ap (λ k. k ▹ z) e ∙ ap (λ v. between ▹ y ⋈ rest ▹ v) last)
    go (same e q) = same e (ap (λ k. k ▹ z) q ∙ ap (λ v. rest ▹ v) last)
    go (later between e) = later between (ap (λ k. k ▹ w) e ∙ ap (λ v. between ▹ x ⋈ after ▹ v) (sym last))

module _ (t : List ℕ) (f : ℕ) where
  -- a success in a later part is one in the whole
  success_later : (g h : Seq Scheduled) → Succeeded t h f → Succeeded t (g ⋈ h) f
  success_later g h s = record {
    before = g ⋈ s.before;
    start = s.start;
    during = s.during;
    end = s.end;
    after = s.after;
    split = ap (λ k. g ⋈ k) s.split
        ∙ join_assoc g (s.before ▹ s.start ⋈ s.during ▹ s.end) s.after
        ∙ ap (λ k. k ▹ s.end ⋈ s.after) (join_assoc g (s.before ▹ s.start) s.during);
    opened = s.opened;
    open_on = s.open_on;
    well = s.well;
  }

  -- ---- the last successful transfer, or none

  last_sent : (h : Seq Scheduled) → LastSent t h f ⊎ (¬ Succeeded t h f)
  last_sent ∅ = inr (unsent_empty t f)
  last_sent (h ▹ x) =
      whether (succeeds x)
      (λ s. whether (carries (open_after t h) f)
      (λ c. inl (now (started t h f c) s))
      (λ c. ⊎_elim (λ l. inl (still l (λ c' s'. never (sym c ∙ c')))) (λ u. inr (unsent_next t h x f u (λ c' s'. never (sym c ∙ c')))) (last_sent h)))
      (λ s. ⊎_elim (λ l. inl (still l (λ c' s'. never (sym s ∙ s')))) (λ u. inr (unsent_next t h x f u (λ c' s'. never (sym s ∙ s')))) (last_sent h))
    where
      now : Started t h f → succeeds x ≡ true → LastSent t (h ▹ x) f
      now o w = record {
        sent = record {
          before = o.before;
          start = o.start;
          during = o.during;
          end = x;
          after = ∅;
          split = ap (λ g. g ▹ x) o.split;
          opened = o.opened;
          open_on = o.open_on;
          well = w;
        };
        last = unsent_empty t f;
      }

      still : (l : LastSent t h f) → (carries (open_after t h) f ≡ true → succeeds x ≡ true → ⊥) → LastSent t (h ▹ x) f
      still l n =
          let s = l.sent in
          record {
            sent = record {
              before = s.before;
              start = s.start;
              during = s.during;
              end = s.end;
              after = s.after ▹ x;
              split = ap (λ g. g ▹ x) s.split;
              opened = s.opened;
              open_on = s.open_on;
              well = s.well;
            };
            last = unsent_next t s.after x f l.last
                (λ c w. n (rw (s.split, open_part t (s.before ▹ s.start ⋈ s.during ▹ s.end) s.after f c) c) w);
          }

  -- a success in what follows the opening of a successful transfer is one behind its end
  success_behind : (during : Seq Scheduled) (end : Scheduled) (after : Seq Scheduled) → Each (λ x. closes x ≡ false) during → succeeds end ≡ true
      → Succeeded t (during ▹ end ⋈ after) f → Succeeded t after f
  success_behind during end ∅ q w s =
      ⊎_elim (λ u. absurd (unsent_quiet t during f q u)) (λ c. never (rw (open_quiet t during q) at c.0)) (success_cases t during end f s)
  success_behind during end (after ▹ x) q w s =
      let idle : open_after t (during ▹ end) ≡ Nothing = open_new t during end (success_closes t end w) ∙ success_opens t end w in
      ⊎_elim
      (λ u. success_before t after x f (success_behind during end after q w u))
      (λ c. success_now t after x f (rw (open_from_idle t (during ▹ end) after idle) at c.0) c.1)
      (success_cases t (during ▹ end ⋈ after) x f s)

  -- ---- both ways

  to_words : (h : Seq Scheduled) → Pending t h f → PendingInWords t h f
  to_words h p = ⊎_elim (λ l. inl (l, since l)) (λ u. inr (record { before = p.before; write = p.write; after = p.after; split = p.split; accepted = p.accepted }, u)) (last_sent h)
    where
      since : (l : LastSent t h f) → Written t (since_opening l) f
      since l =
          go (places p.before p.write p.after s.before s.start rest
          (sym p.split ∙ s.split ∙ sym (join_assoc (s.before ▹ s.start) (s.during ▹ s.end) s.after)))
        where
          s : Succeeded t h f
          s = l.sent

          rest : Seq Scheduled
          rest = s.during ▹ s.end ⋈ s.after

          inside : (between : Seq Scheduled) → p.after ≡ between ▹ s.start ⋈ rest → Succeeded t p.after f
          inside between e = record {
            before = between;
            start = s.start;
            during = s.during;
            end = s.end;
            after = s.after;
            split = e ∙ join_assoc (between ▹ s.start) (s.during ▹ s.end) s.after;
            opened = s.opened;
            open_on = s.open_on;
            well = s.well;
          }

          go : Places p.write p.after s.start rest → Written t rest f
          go (earlier between e) = absurd (p.unsent (inside between e))
          go (same e q) = never (sym (wrote_keeps t p.write f p.accepted) ∙ rw e (opens_closes t s.start f s.opened))
          go (later between e) = record { before = between; write = p.write; after = p.after; split = e; accepted = p.accepted }

  from_words : (h : Seq Scheduled) → PendingInWords t h f → Pending t h f
  from_words h w = ⊎_elim (λ s. after_last s.0 s.1) (λ u. never_sent u.0 u.1) w
    where
      after_last : (l : LastSent t h f) → Written t (since_opening l) f → Pending t h f
      after_last l v =
          let s = l.sent in
          record {
            before = s.before ▹ s.start ⋈ v.before;
            write = v.write;
            after = v.after;
            split = s.split
                ∙ sym (join_assoc (s.before ▹ s.start) (s.during ▹ s.end) s.after)
                ∙ ap (λ k. s.before ▹ s.start ⋈ k) v.split
                ∙ join_assoc (s.before ▹ s.start) (v.before ▹ v.write) v.after;
            accepted = v.accepted;
            unsent = λ u. l.last (success_behind s.during s.end s.after s.open_on s.well
                (rw v.split (success_later (v.before ▹ v.write) v.after u)));
          }

      never_sent : Written t h f → ¬ Succeeded t h f → Pending t h f
      never_sent v u = record {
        before = v.before;
        write = v.write;
        after = v.after;
        split = v.split;
        accepted = v.accepted;
        unsent = λ s. u (rw v.split (success_later (v.before ▹ v.write) v.after s));
      }

  -- a frame is pending exactly when demand 3's sentence says so
  pub pending_in_words : (h : Seq Scheduled) → Pending t h f ↔ PendingInWords t h f
  pending_in_words h = (to_words h, from_words h)
