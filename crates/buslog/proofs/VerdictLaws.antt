-- The frames that a log may show with the verdict ok: protected identifier, data and checksum, spelled as pairs.
use Rattle.std.proofs.Common.{◌≡◌, ℕ, zero, suc, ◌+◌, ◌-◌, ◌<◌, ◌≤◌, true, eqb, ◌⊎◌, List, [], ◌∷◌, ◌++◌, length, sym, refl, ◌∙◌, ⊎_elim, arith, length-append, take_all, eq-eqb, ne_eqb, eqb-true}
use lib.Seq.{take-append_seam, get_or-append_seam}
use Rattle.wire.specs.Bits.{Bytes}
use Rattle.wire.specs.Identifier.{protected_byte}
use Rattle.wire.specs.Checksum.{sum, covered, model_of, checksum_byte}
use Rattle.wire.specs.declared.checksum.Model.{Model}
use Rattle.wire.specs.declared.checksum.Model.TheVariants.{Classic}
use Rattle.wire.proofs.ChecksumLaws.{inverted_below}
use Rattle.wire.proofs.IdentifierLaws.{protected_below, read_built}
use Rattle.cluster.specs.Check.{RightTable}
use Rattle.cluster.specs.Table.{frame_count, identifier, frame_length, frame_model}
use Rattle.cluster.proofs.FrameLaws.{identifier_below, identifiers_distinct, frame_length_low, frame_length_high}
use Rattle.cluster.proofs.Searching.{first_holds, first_least}
use Rattle.buslog.specs.declared.judge.Verdict.TheVariants.{Ok}
use Rattle.buslog.specs.Pairs.{spelled}
use Rattle.buslog.specs.Verdict.{frame_with, known_verdict, identifier_verdict, line_verdict}
use Rattle.buslog.proofs.PairLaws.{spelled_read}
use Rattle.buslog.proofs.Judging.{right_sum, diagnostic, listed, by_identifier, by_bytes}

-- a frame on the bus: protected identifier, data, checksum
abbrev pub on_bus : ℕ → Model → List ℕ → List ℕ
on_bus id wish ds = protected_byte id ∷ ds ++ (checksum_byte id wish ds ∷ [])

known_ok : (id : ℕ) (wish : Model) (ds : List ℕ) → Ok id ≡ known_verdict id (length ds) wish (ds ++ (checksum_byte id wish ds ∷ []))
known_ok id wish ds =
    right_sum id (length ds) wish (ds ++ (checksum_byte id wish ds ∷ [])) (checksum_byte id wish ds)
    (length-append ds (checksum_byte id wish ds ∷ []))
    (rw (take-append_seam ds (checksum_byte id wish ds ∷ [])))
    (get_or-append_seam ds (checksum_byte id wish ds) [] 0)

-- ---- a line of such a frame

bytes_behind : (xs : List ℕ) (c : ℕ) → Bytes xs → c < 256 → Bytes (xs ++ (c ∷ []))
bytes_behind [] c h b zero = b
bytes_behind [] c h b (suc i) = omega arith
bytes_behind (x ∷ xs) c h b zero = h 0
bytes_behind (x ∷ xs) c h b (suc i) = bytes_behind xs c (λ j. h (suc j)) b i

checksum_below : (id : ℕ) (wish : Model) (ds : List ℕ) → checksum_byte id wish ds < 256
unfolding checksum_byte
checksum_below id wish ds = inverted_below (sum 0 (covered (model_of id wish) id ds))

bus_bytes : (id : ℕ) (wish : Model) (ds : List ℕ) → id < 64 → Bytes ds → Bytes (on_bus id wish ds)
bus_bytes id wish ds h b zero = protected_below id h
bus_bytes id wish ds h b (suc i) = bytes_behind ds (checksum_byte id wish ds) b (checksum_below id wish ds) i

module _ (t : List ℕ) (id : ℕ) (wish : Model) (ds : List ℕ) (h : id < 64) (low : 1 ≤ length ds) (high : length ds ≤ 8) (b : Bytes ds) where
  ok_line : known_verdict id (length ds) wish (ds ++ (checksum_byte id wish ds ∷ [])) ≡ identifier_verdict t id (ds ++ (checksum_byte id wish ds ∷ []))
      → line_verdict t (spelled (on_bus id wish ds)) ≡ Ok id
  ok_line known =
      let n : length (on_bus id wish ds) ≡ length ds + 2 = omega (arith, length-append ds (checksum_byte id wish ds ∷ [])) in
      sym
      (known_ok id wish ds
      ∙ known
      ∙ by_identifier t (on_bus id wish ds) (ds ++ (checksum_byte id wish ds ∷ [])) id (omega arith)
      (sym (take_all (length (on_bus id wish ds) - 1) (ds ++ (checksum_byte id wish ds ∷ [])) (omega arith)))
      (read_built id h)
      ∙ by_bytes t (spelled (on_bus id wish ds)) (on_bus id wish ds)
      (sym (spelled_read (on_bus id wish ds) (omega arith) (omega arith) (bus_bytes id wish ds h b))))

-- a frame of the table with its data and its checksum is ok
module _ (t : List ℕ) (right : RightTable t) (f : ℕ) (h : f < frame_count t) where
  there : eqb (identifier t f) (identifier t f) ≡ true
  there = eq-eqb (identifier t f) (identifier t f) refl

  first : frame_with t (identifier t f) ≤ f
  unfolding frame_with
  first = first_least (λ g. eqb (identifier t g) (identifier t f)) 0 (frame_count t) f (omega arith) there

  pub found : frame_with t (identifier t f) ≡ f
  unfolding frame_with
  found =
      identifiers_distinct t right (frame_with t (identifier t f)) f (omega (arith, first)) h
      (eqb-true (identifier t (frame_with t (identifier t f))) (identifier t f)
      (first_holds (λ g. eqb (identifier t g) (identifier t f)) 0 (frame_count t) (omega (arith, first))))

  pub frame_ok : (ds : List ℕ) → length ds ≡ frame_length t f → Bytes ds
      → line_verdict t (spelled (on_bus (identifier t f) (frame_model t f) ds)) ≡ Ok (identifier t f)
  frame_ok ds l b =
      let i = identifier_below t right f h in
      ok_line t (identifier t f) (frame_model t f) ds (omega arith) (omega (arith, frame_length_low t right f h)) (omega (arith, frame_length_high t right f h)) b
      (listed t (identifier t f) (ds ++ (checksum_byte (identifier t f) (frame_model t f) ds ∷ []))
      (rw (ne_eqb (identifier t f) 60 (λ e. omega arith), ne_eqb (identifier t f) 61 (λ e. omega arith)))
      f (length ds) (frame_model t f) (sym found) h l refl)

-- and so are the request and the response with eight bytes and the classic checksum
pub diagnostic_ok : (t : List ℕ) (id : ℕ) (ds : List ℕ) → (id ≡ 60) ⊎ (id ≡ 61) → length ds ≡ 8 → Bytes ds
    → line_verdict t (spelled (on_bus id Classic ds)) ≡ Ok id
diagnostic_ok t id ds e l b =
    ok_line t id Classic ds (⊎_elim (λ q. omega arith) (λ q. omega arith) e) (omega arith) (omega arith) b
    (rw l
    (diagnostic t id (ds ++ (checksum_byte id Classic ds ∷ []))
    (⊎_elim (λ q. rw q) (λ q. rw q) e)))
