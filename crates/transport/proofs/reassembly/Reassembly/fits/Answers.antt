-- With none open the state fits, and an open message is asked.
use mathlib.Core.Path.{refl}
use borrow.Author.Rules.{rules}
use Rattle.transport.specs.Reassembly.{fits}
use Rattle.transport.proofs.StepCases.{none_or}
use Rattle.transport.proofs.reassembly.Reassembly.fits.Goals as goal

pub returns : goal.returns
unfolding fits
returns c = none_or fits _ _ _ refl (λ m h. search rules) c.is_none_or.ensures
