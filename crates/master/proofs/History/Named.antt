-- A protected identifier names one transfer: what a tick answers says what its slot opened.
use Prim.Native.Nat.{ℕ, ◌%◌, ◌≤◌, ◌<◌}
use mathlib.Core.Path.{◌≡◌, refl, sym, ap, ◌∙◌}
use mathlib.Core.Bool.{true, false}
use mathlib.Core.List.{List}
use native.Mathlib.Omega.{arith}
use lib.Dec.{eqb}
use borrow.Author.Tests.{eqb-true, eq-eqb, lt-ltb, le-ltb}
use Rattle.wire.specs.Identifier.{protected_byte}
use Rattle.wire.proofs.IdentifierLaws.{protected_identifier}
use Rattle.cluster.specs.Check.{RightTable}
use Rattle.cluster.specs.Table.{frame_count, identifier}
use Rattle.cluster.proofs.FrameLaws.{identifier_below, identifiers_distinct}
use Rattle.cluster.proofs.Searching.{first_holds, first_least}
use Rattle.transport.proofs.Tests.{order}
use Rattle.master.specs.declared.state.Opened.{Opened}
use Rattle.master.specs.declared.state.Opened.TheVariants.{Nothing, Frame, Request, Response}
use Rattle.master.specs.Transfers.{format_of, is_open, open_protected}
use Rattle.master.specs.Fits.{frame_there}
use Rattle.master.specs.History.{frame_named, transfer_named}
use Rattle.master.proofs.Tests.{never, false_unless}
use Rattle.master.proofs.Admitted.{frame_below}

-- two identifiers with one protected identifier are one
same_identifier : (a b : ℕ) → a < 64 → b < 64 → protected_byte a ≡ protected_byte b → a ≡ b
same_identifier a b h k e = sym (protected_identifier a h) ∙ ap (λ (n : ℕ). n % 64) e ∙ protected_identifier b k

module _ (t : List ℕ) (ok : RightTable t) where
  -- a frame that is found has the protected identifier
  found : (id : ℕ) → id < 64 → frame_named t (protected_byte id) < frame_count t → identifier t (frame_named t (protected_byte id)) ≡ id
  unfolding frame_named
  found id h b =
      let f = frame_named t (protected_byte id) in
      same_identifier (identifier t f) id (omega (arith, identifier_below t ok f b)) h
      (eqb-true (protected_byte (identifier t f)) (protected_byte id)
      (first_holds (λ g. eqb (protected_byte (identifier t g)) (protected_byte id)) 0 (frame_count t) (omega arith)))

  named_frame : (f : ℕ) → f < frame_count t → frame_named t (protected_byte (identifier t f)) ≡ f
  unfolding frame_named
  named_frame f h =
      let g = frame_named t (protected_byte (identifier t f)) in
      let le : g ≤ f = first_least (λ g. eqb (protected_byte (identifier t g)) (protected_byte (identifier t f))) 0 (frame_count t) f
      (omega arith) (eq-eqb (protected_byte (identifier t f)) (protected_byte (identifier t f)) refl) in
      let b : g < frame_count t = omega arith in
      identifiers_distinct t ok g f b h (found (identifier t f) (omega (arith, identifier_below t ok f h)) b)

  -- no frame has an identifier above 59
  named_none : (id : ℕ) → 60 ≤ id → id < 64 → frame_count t ≤ frame_named t (protected_byte id)
  named_none id l h =
      order (frame_count t) (frame_named t (protected_byte id)) (λ b. b)
      (λ b. absurd (omega (arith, found id h b, identifier_below t ok (frame_named t (protected_byte id)) b)))

  other_identifier : (a b : ℕ) → a < 64 → b < 64 → (a ≡ b → ⊥) → eqb (protected_byte a) (protected_byte b) ≡ false
  other_identifier a b h k n = false_unless (eqb (protected_byte a) (protected_byte b)) (λ e. n (same_identifier a b h k (eqb-true _ _ e)))

  -- what is opened is what its protected identifier names
  pub named : (o : Opened) → frame_there t o ≡ true → is_open o ≡ true → transfer_named t (open_protected t o) ≡ o
  unfolding transfer_named open_protected format_of
  named Nothing h p = never p
  named (Frame f) h p =
      let b = frame_below t ok f h in
      rw (named_frame f b, lt-ltb f (frame_count t) b)
  named Request h p =
      rw (le-ltb (frame_named t (protected_byte 60)) (frame_count t) (named_none 60 (omega arith) (omega arith)), eq-eqb (protected_byte 60) (protected_byte 60) refl)
  named Response h p =
      rw (
        le-ltb (frame_named t (protected_byte 61)) (frame_count t) (named_none 61 (omega arith) (omega arith)),
        other_identifier 61 60 (omega arith) (omega arith) (omega arith),
        eq-eqb (protected_byte 61) (protected_byte 61) refl,
      )
