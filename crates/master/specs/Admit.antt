-- Document 01, "Refusal numbers": tests 1, 2 and 3 at the head of the calls, and how the later ones follow; "the lowest number is given".
use Rattle.std.specs.Prelude.{ℕ, ◌*◌, ◌≡◌, Bool, cond, List, eqb}
use Rattle.refusal.specs.declared.Refusal.{Refusal}
use Rattle.refusal.specs.Numbers.{refused, buffer, state}
use Rattle.cluster.specs.Table.{frame_count}
use Rattle.cluster.specs.Check.{taken_of, then}
use Rattle.master.specs.declared.state.State.{State}
use Rattle.master.specs.Fits.{state_fits}
use Rattle.std.specs.Prelude.{Ok, Err}
use Rattle.cluster.specs.Check.{Verdict}

-- a number is given unless a test holds, and else what comes behind it
abbrev pub unless : Bool → ℕ → Verdict → Verdict
unless test n v = cond test v (Err (refused n))

-- "a lent buffer of exactly 8F bytes"
unfoldable pub buffer_size : List ℕ → ℕ
buffer_size t = 8 * frame_count t

-- 1, 2 and 3; a call that is lent no frame bytes asks with the right number of them
unfoldable pub admitted : List ℕ → ℕ → State → Verdict
admitted t size s = then (taken_of t) (unless (eqb size (buffer_size t)) buffer (unless (state_fits t s) state (Ok tt)))

-- what a call answers: a refusal, or the rest
abbrev pub answered : {A : Type 0} → Verdict → (Refusal → A) → A → A
answered (Ok tt) refuse go = go
answered (Err r) refuse go = refuse r

-- what a call that changes lent bytes hands back, and the bytes it leaves
pub record Step (A : Type 0) : Type 0 where
  pub given : A
  pub left : List ℕ

-- what a contract says of such a call
pub record Leaves {A : Type 0} (step : Step A) (r : A) (after : List ℕ) : Type 0 where
  pub handed : r ≡ step.given
  pub kept : after ≡ step.left
