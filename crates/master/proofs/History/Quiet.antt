-- Events that neither write, nor bring a byte, nor close: what they leave of what a history says.
use Prim.Native.Nat.{ℕ}
use mathlib.Core.Path.{◌≡◌, refl}
use mathlib.Core.Bool.{Bool, true, false}
use mathlib.Core.List.{List, ◌∷◌, [], ◌++◌}
use Rattle.cluster.specs.Values.{touches}
use Rattle.master.specs.declared.state.Opened.{Opened}
use Rattle.master.specs.declared.state.Opened.TheVariants.{Nothing, Frame, Request, Response}
use Rattle.master.specs.Seq.{Seq, ◌▹◌}
use Rattle.master.specs.Schedule.{Scheduled, act}
use Rattle.master.specs.Acts.{Act, nothing, wrote, selected, ticked, took, status_read, sending, on_write, on_byte}
use Rattle.master.specs.History.{writes, closes, is_success, succeeds, open_after, written_bytes, got_by, got_after}
use Rattle.master.specs.Answering.{due_after}
use Rattle.master.proofs.Tests.{never, or_false}
use Rattle.master.proofs.History.Computed.{hits, rewritten_after, rewritten_on}
use Rattle.master.specs.Put.{Value, with_value}
use Rattle.master.specs.Calls.{ByteResult}

-- neither a write nor a byte
abbrev pub is_quiet : Act → Bool
is_quiet nothing = true
is_quiet (wrote s v) = false
is_quiet (selected n) = true
is_quiet (ticked m a) = true
is_quiet (took b a) = false
is_quiet status_read = true
is_quiet (sending nad n) = true

pub quiet_write : {A : Type 0} (f : ℕ → Value → A) (other : A) (a : Act) → is_quiet a ≡ true → on_write f other a ≡ other
quiet_write f other nothing q = refl
quiet_write f other (wrote s v) q = never q
quiet_write f other (selected n) q = refl
quiet_write f other (ticked m a) q = refl
quiet_write f other (took b a) q = refl
quiet_write f other status_read q = refl
quiet_write f other (sending nad n) q = refl

pub quiet_byte : {A : Type 0} (f : ℕ → ByteResult → A) (other : A) (a : Act) → is_quiet a ≡ true → on_byte f other a ≡ other
quiet_byte f other nothing q = refl
quiet_byte f other (wrote s v) q = refl
quiet_byte f other (selected n) q = refl
quiet_byte f other (ticked m a) q = refl
quiet_byte f other (took b a) q = never q
quiet_byte f other status_read q = refl
quiet_byte f other (sending nad n) q = refl

-- an event that is quiet is no success
pub quiet_unsuccessful : (y : Scheduled) → is_quiet (act y) ≡ true → succeeds y ≡ false
unfolding succeeds
quiet_unsuccessful y q = quiet_byte (λ b a. is_success a) false (act y) q

-- an event that is quiet writes nothing
module _ (t : List ℕ) (h : Seq Scheduled) (y : Scheduled) (q : is_quiet (act y) ≡ true) where
  pub quiet_writes : (f : ℕ) → writes t y f ≡ false
  unfolding writes
  quiet_writes f = quiet_write (λ s v. touches t s f) false (act y) q

  pub quiet_hits : (o : Opened) → hits t o y ≡ false
  quiet_hits Nothing = refl
  quiet_hits (Frame f) = quiet_writes f
  quiet_hits Request = refl
  quiet_hits Response = refl

  pub written_quiet : written_bytes t (h ▹ y) ≡ written_bytes t h
  unfolding written_bytes
  written_quiet = quiet_write (λ s v. with_value t (written_bytes t h) s v) (written_bytes t h) (act y) q

  -- and where it closes nothing either, all of these stay
  module _ (c : closes y ≡ false) where
    pub got_quiet : got_after (h ▹ y) ≡ got_after h
    unfolding got_after got_by
    got_quiet = rw (c, quiet_byte (λ b a. got_after h ++ (b ∷ [])) (got_after h) (act y) q)

    pub due_quiet : due_after t (h ▹ y) ≡ due_after t h
    unfolding due_after
    due_quiet = rw c

    pub rewritten_quiet : rewritten_after t (h ▹ y) ≡ rewritten_after t h
    rewritten_quiet = rw (rewritten_on t h y c, quiet_hits (open_after t h)) (or_false (rewritten_after t h))
