-- The calls of this crate give a byte where the identifier and the number of bytes are right; and what they tell.
use Prim.Native.Nat.{ℕ, ◌%◌, ◌≤◌, ◌<◌}
use mathlib.Core.Path.{◌≡◌, refl, sym, ◌∙◌}
use mathlib.Core.Bool.{Bool, true, false, cond, ◌&&◌}
use mathlib.Core.List.{List, [], ◌∷◌}
use native.Mathlib.Omega.{arith}
use lib.Dec.{ltb, leb}
use lib.ListN.{length}
use borrow.Author.Tests.{lt-ltb, le-leb}
use Rattle.refusal.specs.declared.Refusal.{Refusal}
use Rattle.refusal.specs.Answers.{test, first_failing}
use Rattle.wire.specs.Answers.{told, refused_with}
use Rattle.wire.specs.Answers.{Answer}
use Rattle.std.specs.Prelude.{Ok, Err}
use Rattle.wire.specs.declared.checksum.Model.{Model}
use Rattle.wire.specs.Identifier.{protected_byte, protected_of, right_parity, read_of}
use Rattle.wire.specs.Checksum.{checksum_byte, checksum_of, checksum_tests}
use Rattle.wire.proofs.Tests.{whether}

module _ (id : ℕ) where
  gives : id < 64 → protected_of id ≡ Ok (protected_byte id)
  unfolding protected_of
  gives h = rw (lt-ltb id 64 h)

  pub built : (b : ℕ) → id < 64 → protected_of id ≡ Ok b → b ≡ protected_byte id
  built b h e = let q : Ok b ≡ Ok (protected_byte id) = sym e ∙ gives h in cc

  pub not_refused : (r : Refusal) → id < 64 → protected_of id ≡ Err r → ⊥
  not_refused r h e = let q : Err r ≡ Ok (protected_byte id) = sym e ∙ gives h in let z : ◌≡◌ {A = ℕ} 0 1 = cc in omega arith

module _ (id : ℕ) (wish : Model) (bs : List ℕ) where
  pub sums : (id < 64) × (1 ≤ length bs) × (length bs ≤ 8) → checksum_of id wish bs ≡ Ok (checksum_byte id wish bs)
  unfolding checksum_of
  sums h = rw (lt-ltb id 64 h.0, le-leb 1 (length bs) h.1, le-leb (length bs) 8 h.2)

  pub summed : (b : ℕ) → (id < 64) × (1 ≤ length bs) × (length bs ≤ 8) → checksum_of id wish bs ≡ Ok b → b ≡ checksum_byte id wish bs
  summed b h e = let q : Ok b ≡ Ok (checksum_byte id wish bs) = sym e ∙ sums h in cc

  pub not_summed : (r : Refusal) → (id < 64) × (1 ≤ length bs) × (length bs ≤ 8) → checksum_of id wish bs ≡ Err r → ⊥
  not_summed r h e = let q : Err r ≡ Ok (checksum_byte id wish bs) = sym e ∙ sums h in let z : ◌≡◌ {A = ℕ} 0 1 = cc in omega arith

-- ---- what the calls tell, from their answers

pub build_told : (id : ℕ) (r : Answer) → r ≡ protected_of id → (r ≡ protected_of id) × (told r ≡ first_failing (test 11 (ltb id 64) ∷ []) (protected_byte id ∷ []))
unfolding protected_of first_failing
build_told id r e = (e, rw e (whether (ltb id 64) (λ y. rw y) (λ n. rw n)))

pub read_told_lem : (byte : ℕ) (r : Answer) → r ≡ read_of byte → (r ≡ read_of byte) × (told r ≡ first_failing (test 11 (right_parity byte) ∷ []) (byte % 64 ∷ []))
unfolding read_of first_failing
read_told_lem byte r e = (e, rw e (whether (right_parity byte) (λ y. rw y) (λ n. rw n)))

pub sum_told : (id : ℕ) (wish : Model) (bs : List ℕ) (r : Answer) → r ≡ checksum_of id wish bs
    → (r ≡ checksum_of id wish bs) × (told r ≡ first_failing (checksum_tests id (length bs)) (checksum_byte id wish bs ∷ []))
unfolding checksum_of first_failing
sum_told id wish bs r e = (e, rw e (by (ltb id 64) (leb 1 (length bs)) (leb (length bs) 8)))
  where
    by : (a b c : Bool) → told (cond (a && b && c) (Ok (checksum_byte id wish bs)) (refused_with 11))
        ≡ first_failing (test 11 a ∷ test 11 b ∷ test 11 c ∷ []) (checksum_byte id wish bs ∷ [])
    by true true true = refl
    by true true false = refl
    by true false c = refl
    by false b c = refl
