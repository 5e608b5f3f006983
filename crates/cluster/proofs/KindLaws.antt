-- The kinds of an entry by their names, in the paper's numbers: if and only if. These laws hold `kind_of` (specs/Kinds) by those numbers.
use Prim.Native.Nat.{ℕ}
use borrow.Author.Tests.{eqb-true}
use lib.Dec.{eqb}
use mathlib.Core.Path.{◌≡◌, refl, ap, ◌∙◌}
use Rattle.wire.proofs.Tests.{whether}
use Rattle.std.specs.Prelude.{Option, Some, None}
use Rattle.cluster.specs.Kinds.{kind_of, kind_word}
use Rattle.cluster.specs.declared.entries.EntryKind.{EntryKind}
use Rattle.cluster.specs.declared.entries.EntryKind.TheVariants.{Frame, List, Request, Response}

-- the number of a kind, and a word that stands for none
word_of : Option EntryKind → ℕ → ℕ
word_of None w = w
word_of (Some k) w = kind_word k

same_word : (w : ℕ) → w ≡ word_of (kind_of w) w
unfolding kind_of kind_word word_of
same_word w =
    whether (eqb w 0) (λ p. rw p (eqb-true w 0 p))
    (λ p. whether (eqb w 1) (λ q. rw (p, q) (eqb-true w 1 q))
    (λ q. whether (eqb w 2) (λ r. rw (p, q, r) (eqb-true w 2 r))
    (λ r. whether (eqb w 3) (λ s. rw (p, q, r, s) (eqb-true w 3 s))
    (λ s. rw (p, q, r, s)))))

-- "kind 0 frame, 1 list, 2 request, 3 response": a word that stands for a kind is its number
pub kind_number : (w : ℕ) (k : EntryKind) → kind_of w ≡ Some k → w ≡ kind_word k
unfolding kind_word word_of
kind_number w k h = same_word w ∙ ap (λ o. word_of o w) h

-- and the number of each stands for it
pub kind_named : (k : EntryKind) → kind_of (kind_word k) ≡ Some k
unfolding kind_of kind_word
kind_named Frame = refl
kind_named List = refl
kind_named Request = refl
kind_named Response = refl

-- a word that stands for none is the number of none
pub no_kind : (w : ℕ) → kind_of w ≡ None → (k : EntryKind) → w ≡ kind_word k → ⊥
no_kind w h k e = cc (h, ap kind_of e, kind_named k)
