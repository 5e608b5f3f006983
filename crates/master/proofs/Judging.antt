-- What a judge hands on where an earlier judge refuses: the refusal, whatever was to be tested next.
use Rattle.std.proofs.Common.{ℕ, ◌≡◌, List, Result, Err}
use Rattle.std.specs.Result.{IsErrAnd}
use Rattle.refusal.specs.declared.Refusal.{Refusal}
use Rattle.refusal.proofs.PassedOn.{passed_on}
use Rattle.cluster.specs.Check.{Verdict, then}
use Rattle.cluster.specs.declared.right.Right.{Right}
use Rattle.master.specs.Parts.{Judged}

pub refused_before : (t : List ℕ) (v w : Verdict) (r : Result Right Refusal) (e : Refusal) → IsErrAnd r (λ y. y ≡ e) → v ≡ Err e → Judged t (then v w) r
refused_before t v w r e p h = rw (passed_on r e p) (rw h)
