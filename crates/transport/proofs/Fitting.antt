-- What the code tests of an open message, and what it uses of one that fits.
use Prim.Native.Nat.{◌+◌, ◌*◌, ◌/◌, ◌%◌, ◌<◌, ◌≤◌}
use native.Mathlib.Omega.{arith}
use mathlib.Core.Path.{◌≡◌}
use mathlib.Core.Bool.{true, false}
use borrow.Author.Tests.{lt-ltb, le-leb, eq-eqb, ne_eqb, eqb-true, eqb-false, leb-true, ltb-true}
use lib.Dec.{eqb, leb, ltb}
use Rattle.transport.specs.Cutting.{longest}
use Rattle.transport.specs.Reassembly.{next_frames, assembly_fits, bytes_due}
use Rattle.transport.specs.declared.reassembly.Assembly.{Assembly}
use Rattle.transport.proofs.FitLaws.{fits_exactly}
use Rattle.transport.proofs.Tests.{whether}

-- the counter due is below 16
pub counter_below : (m : Assembly) → assembly_fits m ≡ true → m.counter < 16
counter_below m h = let f = (fits_exactly m).0 h in omega arith

-- an open message of which all but the counter is right fits where the counter is the one due
pub fits_by_counter : (m : Assembly) → (m.nad ≡ 0 → ⊥) → 7 ≤ m.length → m.length ≤ longest → m.count % 6 ≡ 5 → m.count < m.length
    → eqb m.counter ((1 + m.count / 6) % 16) ≡ assembly_fits m
unfolding assembly_fits
fits_by_counter m n l h w c =
    let k : m.count / 6 ≡ next_frames m.count = omega arith in
    let e : m.count ≡ 5 + 6 * next_frames m.count = omega arith in
    rw (ne_eqb _ _ n, le-leb _ _ l, le-leb _ _ h, eq-eqb _ _ e, lt-ltb _ _ c, k)

-- one of which some other part is wrong does not
pub not_fitting : (m : Assembly)
    → ((m.nad ≡ 0 → ⊥) × (7 ≤ m.length) × (m.length ≤ longest) × (m.count % 6 ≡ 5) × (m.count < m.length) → ⊥) → assembly_fits m ≡ false
unfolding assembly_fits
not_fitting m wrong =
    whether (eqb m.nad 0) (λ z. rw z)
    (λ z. whether (leb 7 m.length)
    (λ l. whether (leb m.length longest)
    (λ h. whether (eqb m.count (5 + 6 * next_frames m.count))
    (λ w. whether (ltb m.count m.length)
    (λ c. absurd (wrong (eqb-false _ _ z, leb-true _ _ l, leb-true _ _ h, omega (arith, eqb-true _ _ w), ltb-true _ _ c)))
    (λ c. rw (z, l, h, w, c)))
    (λ w. rw (z, l, h, w)))
    (λ h. rw (z, l, h)))
    (λ l. rw (z, l)))

-- a next frame brings at most six bytes, and never more than are left
pub due_high : (m : Assembly) → bytes_due m ≤ 6
unfolding bytes_due
due_high m = omega arith

pub due_left : (m : Assembly) → assembly_fits m ≡ true → m.count + bytes_due m ≤ m.length
unfolding bytes_due
due_left m h = let f = (fits_exactly m).0 h in omega arith
