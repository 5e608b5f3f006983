-- The first frame of a list that has a property: what a slot of the list opens.
use Prim.Native.Nat.{ℕ}
use mathlib.Core.Path.{◌≡◌, refl, sym, ap, ◌∙◌}
use mathlib.Core.Logic.{◌⊎◌, inl, inr, ⊎_elim, ◌↔◌}
use mathlib.Core.Bool.{Bool, true, false, cond}
use mathlib.Core.List.Memᴰ
use mathlib.Core.List.{List, [], ◌∷◌, ◌++◌, Memᴰ}
use lib.ListN.{get_or}
use Rattle.wire.specs.Identifier.{protected_byte}
use Rattle.cluster.specs.Table.{identifier}
use Rattle.transport.proofs.Tests.{whether}
use Rattle.master.specs.declared.state.Opened.{Opened}
use Rattle.master.specs.declared.state.Opened.TheVariants.{Nothing, Frame, Request, Response}
use Rattle.master.specs.declared.tick.TickAnswer.TheVariants.{Silent, Opened as opens}
use Rattle.master.specs.Tick.{first_pending}
use Rattle.master.specs.Replies.{Takes, takes, leaves}
use Rattle.master.proofs.Tests.{never}
use Rattle.std.specs.Prelude.{Ok}
use Rattle.master.specs.Calls.{TickResult}

unfoldable pub first_with : (ℕ → Bool) → List ℕ → Opened
first_with p [] = Nothing
first_with p (f ∷ fs) = cond (p f) (Frame f) (first_with p fs)

-- what a tick answers where its slot opens something or nothing
abbrev pub answer_for : List ℕ → Opened → TickResult
answer_for t Nothing = Ok Silent
answer_for t (Frame f) = Ok (opens (protected_byte (identifier t f)))
answer_for t Request = Ok (opens (protected_byte 60))
answer_for t Response = Ok (opens (protected_byte 61))

-- the first pending member of a list, by bits that say what p says
pub first_pending_lem : (bits : List Bool) (p : ℕ → Bool) → ((f : ℕ) → get_or bits f false ≡ p f) → (fs : List ℕ) → first_pending bits fs ≡ first_with p fs
unfolding first_pending first_with
first_pending_lem bits p e [] = refl
first_pending_lem bits p e (f ∷ fs) = rw (e f, first_pending_lem bits p e fs)

-- the first frame with p, where p decides P
module _ (t : List ℕ) (p : ℕ → Bool) (P : ℕ → Type 0) (decides : (f : ℕ) → (p f ≡ true) ↔ P f) where
  passed : (f : ℕ) (gs : List ℕ) → p f ≡ false → ((g : ℕ) → Memᴰ g gs → ¬ P g) → (g : ℕ) → Memᴰ g (f ∷ gs) → ¬ P g
  passed f gs b n g i x = ⊎_elim (λ e. never (sym b ∙ (ap p (sym e) ∙ (decides g).1 x))) (λ j. n g j x) (Memᴰ.cases_cons i)

  later : (f : ℕ) (fs : List ℕ) {a : TickResult} → p f ≡ false → Takes t P fs a → Takes t P (f ∷ fs) a
  later f fs b (takes ahead behind g e n x) = takes (f ∷ ahead) behind g (ap (λ gs. f ∷ gs) e) (passed f ahead b n) x
  later f fs b (leaves n) = leaves (passed f fs b n)

  pub first_takes : (fs : List ℕ) → Takes t P fs (answer_for t (first_with p fs))
  unfolding first_with
  first_takes [] = leaves (λ g i. absurd (Memᴰ.not-nil i))
  first_takes (f ∷ fs) =
      whether (p f)
      (λ b. rw b (takes [] fs f refl (λ g i. absurd (Memᴰ.not-nil i)) ((decides f).0 b)))
      (λ b. rw b (later f fs b (first_takes fs)))

-- a frame with p is reached: the slot (Ok opens) it, or one with p ahead of it
pub first_reaches : (p : ℕ → Bool) (ahead behind : List ℕ) (f : ℕ) → p f ≡ true
    → (g : ℕ) × (first_with p (ahead ++ (f ∷ behind)) ≡ Frame g) × ((g ≡ f) ⊎ (Memᴰ g ahead × (p g ≡ true)))
unfolding first_with
first_reaches p [] behind f x = (f, rw x, inl refl)
first_reaches p (k ∷ ahead) behind f x =
    whether (p k)
    (λ b. (k, rw b, inr (Memᴰ.head refl, b)))
    (λ b.
    let r = first_reaches p ahead behind f x in
    (r.0, rw b r.1, ⊎_elim (λ e. inl e) (λ z. inr (Memᴰ.tail z.0, z.1)) r.2))
