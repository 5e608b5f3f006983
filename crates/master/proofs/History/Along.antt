-- What holds of each element of a sequence with those before it.
use Rattle.master.specs.Seq.{Seq, ∅, ◌▹◌, ◌⋈◌}

abbrev pub Along : {A : Type 0} → (Seq A → A → Type 0) → Seq A → Type 0
Along P ∅ = Unit {0}
Along P (h ▹ e) = Along P h × P h e

-- at a split
pub along_at : {A : Type 0} (P : Seq A → A → Type 0) (before : Seq A) (e : A) (after : Seq A) → Along P (before ▹ e ⋈ after) → P before e
along_at P before e ∅ w = w.1
along_at P before e (after ▹ d) w = along_at P before e after w.0

-- what follows from it at each element
pub along_each : {A : Type 0} {P Q : Seq A → A → Type 0} → ((h : Seq A) (e : A) → P h e → Q h e) → (h : Seq A) → Along P h → Along Q h
along_each f ∅ w = tt
along_each f (h ▹ e) w = (along_each f h w.0, f h e w.1)
