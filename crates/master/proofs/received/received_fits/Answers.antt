-- Each reception is tested with its number, so they fit just where each of them does.
use Rattle.std.proofs.Common.{refl, rules}
use native.Mathlib.Numerals.{add-one}
use Rattle.std.proofs.lemmas.Iterator.{cases_from_all, YieldsList-from_slice}
use Rattle.std.proofs.lemmas.Iterator.Consumers.{YieldsList-at, YieldsList-from_enumerate}
use Rattle.master.specs.Received.{last_fits, received_fits}
use Rattle.master.proofs.Numbered.{Passes, Fails, whole_is}
use Rattle.master.proofs.received.received_fits.Goals as goal

pub returns : goal.returns
unfolding received_fits
returns c =
    let t = c.args.t.now in
    whole_is (λ n x. last_fits t n x.last) (received_fits t) (λ n. refl) (λ n x xs. rw add-one) 0 c.args.received c.all.result
    (cases_from_all _ _ c.all.result (Passes (λ n x. last_fits t n x.last)) (Fails (λ n x. last_fits t n x.last)) c.all.ensures.ran
    (YieldsList-from_enumerate (YieldsList-at c.enumerate.ensures.source (YieldsList-from_slice c.args.received c.iter.ensures.rest)) c.enumerate.ensures.count)
    (λ x q k. search rules) (λ x q k. search rules))
