-- The cases of the verdict, one by one.
use Rattle.std.proofs.Common.{◌≡◌, ℕ, ◌+◌, ◌-◌, ◌%◌, ◌<◌, ◌≤◌, true, false, ◌||◌, eqb, List, [], ◌∷◌, length, get_or, take, drop, sym, ap, ◌∙◌, arith, take_all, le-ltb, lt-ltb, eq-eqb, ne_eqb}
use Rattle.refusal.specs.declared.Refusal.{Refusal}
use Rattle.wire.specs.declared.checksum.Model.{Model}
use Rattle.wire.specs.declared.checksum.Model.TheVariants.{Classic}
use Rattle.refusal.specs.Numbers.{frame}
use Rattle.wire.specs.Answers.{refused_with}
use Rattle.wire.specs.Identifier.{right_parity, read_of}
use Rattle.wire.specs.Checksum.{checksum_byte}
use Rattle.wire.proofs.Tests.{whether}
use Rattle.cluster.specs.Table.{frame_count, frame_length, frame_model}
use Rattle.cluster.specs.Check.{taken_of}
use Rattle.buslog.specs.declared.judge.Verdict.{Verdict}
use Rattle.buslog.specs.declared.judge.Verdict.TheVariants.{Text, Parity, Unknown, Length, Checksum, Ok}
use Rattle.buslog.specs.Verdict.{frame_with, known_verdict, identifier_verdict, bytes_verdict, line_verdict, answered, judge_of}
use Rattle.buslog.specs.Pairs.{line_bytes}
use Rattle.std.specs.declared.result.Result.TheVariants as result

-- ---- a known identifier

module _ (id n : ℕ) (wish : Model) (rest : List ℕ) where
  pub other_length : (length rest ≡ n + 1 → ⊥) → Length id ≡ known_verdict id n wish rest
  unfolding known_verdict
  other_length h = rw (ne_eqb (length rest) (n + 1) h)

  pub right_sum : (sum : ℕ) → length rest ≡ n + 1 → sum ≡ checksum_byte id wish (take n rest) → get_or rest n 0 ≡ sum → Ok id ≡ known_verdict id n wish rest
  unfolding known_verdict
  right_sum sum h e q = rw (eq-eqb (length rest) (n + 1) h, eq-eqb (get_or rest n 0) (checksum_byte id wish (take n rest)) (q ∙ e))

  pub other_sum : (sum : ℕ) → length rest ≡ n + 1 → sum ≡ checksum_byte id wish (take n rest) → (get_or rest n 0 ≡ sum → ⊥)
      → Checksum id ≡ known_verdict id n wish rest
  unfolding known_verdict
  other_sum sum h e q =
      rw (eq-eqb (length rest) (n + 1) h, ne_eqb (get_or rest n 0) (checksum_byte id wish (take n rest)) (λ p. q (p ∙ sym e)))

-- ---- by the identifier

module _ (t : List ℕ) (id : ℕ) (rest : List ℕ) where
  pub diagnostic : (eqb id 60 || eqb id 61) ≡ true → known_verdict id 8 Classic rest ≡ identifier_verdict t id rest
  unfolding identifier_verdict
  diagnostic e = rw e

  module _ (e : (eqb id 60 || eqb id 61) ≡ false) where
    pub listed : (f n : ℕ) (wish : Model) → f ≡ frame_with t id → f < frame_count t → n ≡ frame_length t f → wish ≡ frame_model t f
        → known_verdict id n wish rest ≡ identifier_verdict t id rest
    unfolding identifier_verdict
    listed f n wish p h q w = rw (e, q, w, p) (rw (lt-ltb (frame_with t id) (frame_count t) (omega arith)))

    pub unlisted : (f : ℕ) → f ≡ frame_with t id → frame_count t ≤ f → Unknown id ≡ identifier_verdict t id rest
    unfolding identifier_verdict
    unlisted f p h = rw (e, le-ltb (frame_with t id) (frame_count t) (omega arith))

-- ---- the protected identifier

module _ (p : ℕ) where
  right_read : right_parity p ≡ true → read_of p ≡ result.Ok (p % 64)
  unfolding read_of
  right_read e = rw e

  wrong_read : right_parity p ≡ false → read_of p ≡ refused_with frame
  unfolding read_of
  wrong_read e = rw e

  parity_wrong : (r : Refusal) → read_of p ≡ result.Err r → right_parity p ≡ false
  parity_wrong r e =
      whether (right_parity p)
      (λ q. let m = right_read q in let z : ◌≡◌ {A = ℕ} 0 1 = cc in absurd (omega arith))
      (λ q. q)

  parity_right : (id : ℕ) → read_of p ≡ result.Ok id → right_parity p ≡ true
  parity_right id e =
      whether (right_parity p)
      (λ q. q)
      (λ q. let m = wrong_read q in let z : ◌≡◌ {A = ℕ} 0 1 = cc in absurd (omega arith))

  identifier_read : (id : ℕ) → read_of p ≡ result.Ok id → p % 64 ≡ id
  identifier_read id e = let m = right_read (parity_right id e) in cc

  pub read_below : (id : ℕ) → read_of p ≡ result.Ok id → id ≤ 63
  read_below id e = omega (arith, identifier_read id e)

module _ (t : List ℕ) where
  pub wrong_parity : (bytes : List ℕ) (r : Refusal) → 1 ≤ length bytes → read_of (get_or bytes 0 0) ≡ result.Err r → Parity ≡ bytes_verdict t bytes
  unfolding bytes_verdict
  wrong_parity [] r h e = absurd (omega arith)
  wrong_parity (p ∷ rest) r h e = rw (parity_wrong p r e)

  pub by_identifier : (bytes rest : List ℕ) (id : ℕ) → 1 ≤ length bytes → rest ≡ take (length bytes - 1) (drop 1 bytes) → read_of (get_or bytes 0 0) ≡ result.Ok id
      → identifier_verdict t id rest ≡ bytes_verdict t bytes
  unfolding bytes_verdict
  by_identifier [] rest id h q e = absurd (omega arith)
  by_identifier (p ∷ behind) rest id h q e =
      rw (parity_right p id e, identifier_read p id e, q)
      (ap (identifier_verdict t id) (take_all (length (p ∷ behind) - 1) behind (omega arith)))

-- ---- the whole line

module _ (t line : List ℕ) where
  pub no_bytes : line_bytes line ≡ [] → Text ≡ line_verdict t line
  unfolding line_verdict bytes_verdict
  no_bytes e = rw e

  pub by_bytes : (bytes : List ℕ) → bytes ≡ line_bytes line → bytes_verdict t bytes ≡ line_verdict t line
  unfolding line_verdict
  by_bytes bytes e = rw e

  pub judge_refused : (r : Refusal) → taken_of t ≡ result.Err r → result.Err r ≡ judge_of t line
  unfolding judge_of answered
  judge_refused r e = rw e

  pub judge_accepted : (v : Verdict) → taken_of t ≡ result.Ok tt → v ≡ line_verdict t line → result.Ok v ≡ judge_of t line
  unfolding judge_of answered
  judge_accepted v e q = rw (e, q)
