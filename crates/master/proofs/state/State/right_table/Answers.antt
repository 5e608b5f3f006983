-- Each way out has the tests that led to it, and what the calls answer is put in.
use borrow.Author.Tests.{eq-eqb, ne_eqb}
use Rattle.refusal.proofs.PassedOn.{passed_on}
use Rattle.master.specs.Admit.{admitted}
use Rattle.master.proofs.state.State.right_table.Goals as goal

pub returns-in_err-right : goal.returns-in_err-right
unfolding admitted
returns-in_err-right c = rw (passed_on _ _ c.from_residual.ensures.1) (rw c.in_err-right.ensures.refused)

pub returns-then-size-buffer_size : goal.returns-then-size-buffer_size
unfolding admitted
returns-then-size-buffer_size c =
    rw c.refused.ensures
    (rw (c.in_ok-right.ensures.right, ← c.buffer_size.ensures, ne_eqb _ _ c.if-size-buffer_size.true))

pub returns-then-not-fits : goal.returns-then-not-fits
unfolding admitted
returns-then-not-fits c =
    rw c.refused-then-not-fits.ensures
    (rw (c.in_ok-right.ensures.right, ← c.buffer_size.ensures, eq-eqb _ _ c.if-size-buffer_size.false, ← c.fits.ensures, c.if-not-fits.true))

pub returns : goal.returns
unfolding admitted
returns c = (
  rw (c.in_ok-right.ensures.right, ← c.buffer_size.ensures, eq-eqb _ _ c.if-size-buffer_size.false, ← c.fits.ensures, c.if-not-fits.false),
  c.in_ok-right.ensures.words,
)
