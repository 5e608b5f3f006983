-- The reassembler in the paper's own words: when each answer is given, and what it leaves, in literal numbers.
use Prim.Native.Nat.{ℕ, ◌+◌, ◌-◌, ◌*◌, ◌%◌, min, ◌≤◌, ◌<◌}
use mathlib.Core.Path.{◌≡◌, refl, sym, ◌∙◌}
use mathlib.Core.Bool.{true, false, and-false}
use mathlib.Core.List.{List}
use mathlib.Core.Logic.{◌↔◌, ◌⊎◌, inl, inr, ⊎_elim}
use native.Mathlib.Decide.{ℕ_discrete}
use native.Mathlib.Omega.{arith}
use borrow.Author.Tests.{eq-eqb, ne_eqb, lt-ltb, le-ltb}
use lib.ListN.{length, get_or, take, drop}
use Rattle.refusal.specs.declared.Refusal.{Refusal}
use Rattle.transport.specs.Reassembly.{step_to, step, fits, listens, single, first, single_step, first_step, continued, reached, bytes_due, State}
use Rattle.transport.specs.Parts.{next_outcome, message_outcome}
use Rattle.transport.specs.declared.reassembly.Assembly.{Assembly}
use Rattle.std.specs.Prelude.{None, Some, Ok, Err}
use Rattle.transport.specs.Answers.{Answered}
use Rattle.transport.specs.declared.reassembly.Answer.TheVariants.{Ignored, Started, More, Done, Broken}
use Rattle.transport.proofs.FitLaws.{FitAssembly, fits_exactly}
use Rattle.transport.proofs.KindLaws.{kind_single, kind_first, kind_next, kind_other}
use Rattle.transport.proofs.Outcomes.{single_ignored, single_taken, first_low, first_high, first_taken, next_broken, next_short, next_taken}
use Rattle.transport.proofs.Steps.{step_unfit, step_length, step_nad, step_kind, step_next, step_other}
use Rattle.transport.proofs.Tests.{order, whether}

-- a state that refusal 3 spares: nothing is open, or a message that fits
abbrev pub Fit : State → Type 0
Fit None = Unit {0}
Fit (Some m) = FitAssembly m

pub fit_exactly : (s : State) → (fits s ≡ true) ↔ Fit s
unfolding fits
fit_exactly None = ((λ e. tt), (λ u. refl))
fit_exactly (Some m) = fits_exactly m

-- a NAD that is listened to: not 0, and the open one where a message is open
abbrev pub Heard : State → ℕ → Type 0
Heard None nad = nad ≡ 0 → ⊥
Heard (Some m) nad = (nad ≡ 0 → ⊥) × (nad ≡ m.nad)

heard_yes : (s : State) (nad : ℕ) → Heard s nad → listens s nad ≡ true
unfolding listens
heard_yes None nad h = rw (ne_eqb nad 0 h)
heard_yes (Some m) nad h = rw (ne_eqb nad 0 h.0, eq-eqb nad m.nad h.1)

deaf_0 : (s : State) (nad : ℕ) → nad ≡ 0 → listens s nad ≡ false
unfolding listens
deaf_0 None nad e = rw (eq-eqb nad 0 e)
deaf_0 (Some m) nad e = rw (eq-eqb nad 0 e)

deaf_other : (m : Assembly) (nad : ℕ) → (nad ≡ m.nad → ⊥) → listens (Some m) nad ≡ false
unfolding listens
deaf_other m nad n = simp (ne_eqb nad m.nad n, and-false)

-- ---- the cases

-- "Ignored: NAD 0; PCI 0, 7..15 or 48 and above; a first length below 7 or above the buffer; a single length above the buffer; a
-- next frame with none open; another NAD than the open one"
pub data WhyIgnored (s : State) (f b : List ℕ) : Type 0 where
  nad_0 : get_or f 0 0 ≡ 0 → WhyIgnored s f b
  no_kind : (get_or f 1 0 ≡ 0) ⊎ ((7 ≤ get_or f 1 0) × (get_or f 1 0 ≤ 15)) ⊎ (48 ≤ get_or f 1 0) → WhyIgnored s f b
  first_below : 16 ≤ get_or f 1 0 → get_or f 1 0 ≤ 31 → 256 * (get_or f 1 0 - 16) + get_or f 2 0 < 7 → WhyIgnored s f b
  first_above : 16 ≤ get_or f 1 0 → get_or f 1 0 ≤ 31 → length b < 256 * (get_or f 1 0 - 16) + get_or f 2 0 → WhyIgnored s f b
  single_above : 1 ≤ get_or f 1 0 → get_or f 1 0 ≤ 6 → length b < get_or f 1 0 → WhyIgnored s f b
  none_open : 32 ≤ get_or f 1 0 → get_or f 1 0 ≤ 47 → s ≡ None → WhyIgnored s f b
  other_nad : (m : Assembly) → s ≡ Some m → (get_or f 0 0 ≡ m.nad → ⊥) → WhyIgnored s f b

-- a single frame, of 1 to 6 bytes, that the buffer holds
pub record Single (s : State) (f b : List ℕ) : Type 0 where
  pub heard : Heard s (get_or f 0 0)
  pub low : 1 ≤ get_or f 1 0
  pub high : get_or f 1 0 ≤ 6
  pub room : get_or f 1 0 ≤ length b

-- a first frame with a length from 7 up to the buffer's
pub record First (s : State) (f b : List ℕ) : Type 0 where
  pub heard : Heard s (get_or f 0 0)
  pub low : 16 ≤ get_or f 1 0
  pub high : get_or f 1 0 ≤ 31
  pub least : 7 ≤ 256 * (get_or f 1 0 - 16) + get_or f 2 0
  pub room : 256 * (get_or f 1 0 - 16) + get_or f 2 0 ≤ length b

-- a next frame of the open NAD with the counter due
pub record Due (s : State) (f : List ℕ) (m : Assembly) : Type 0 where
  pub is_open : s ≡ Some m
  pub same : get_or f 0 0 ≡ m.nad
  pub counter : get_or f 1 0 ≡ 32 + m.counter

-- a next frame of the open NAD with another counter
pub record Wrong (s : State) (f : List ℕ) (m : Assembly) : Type 0 where
  pub is_open : s ≡ Some m
  pub same : get_or f 0 0 ≡ m.nad
  pub low : 32 ≤ get_or f 1 0
  pub high : get_or f 1 0 ≤ 47
  pub counter : get_or f 1 0 ≡ 32 + m.counter → ⊥

-- when each answer is given to a frame of eight bytes in a state that fits
abbrev pub When : State → List ℕ → List ℕ → Answered → Type 0
When s f b (Ok Ignored) = WhyIgnored s f b
When s f b (Ok Started) = First s f b
When s f b (Ok More) = (m : Assembly) × Due s f m × (m.length ≤ length b) × (m.count + 6 < m.length)
When s f b (Ok (Done n)) =
    (Single s f b × (n ≡ get_or f 1 0))
    ⊎ ((m : Assembly) × Due s f m × (m.length ≤ length b) × (m.length ≤ m.count + 6) × (n ≡ m.length))
When s f b (Ok Broken) = (m : Assembly) × Wrong s f m
When s f b (Err r) = (m : Assembly) × Due s f m × (length b < m.length) × (r ≡ record { number = 2; place = 0 })

-- what a next frame with the counter due does
module _ (m : Assembly) (f b : List ℕ) (fit : FitAssembly m) (eight : length f ≡ 8) (same : get_or f 0 0 ≡ m.nad) where
  to_message : 32 ≤ get_or f 1 0 → get_or f 1 0 ≤ 47 → step (Some m) f b ≡ message_outcome m f b
  unfolding next_outcome
  to_message l h =
      step_next (Some m) f b ((fit_exactly (Some m)).1 fit) eight
      (heard_yes (Some m) (get_or f 0 0) ((λ z. fit.nad_not_0 (sym same ∙ z)), same)) (kind_next (get_or f 1 0) l h)

  module _ (due : get_or f 1 0 ≡ 32 + m.counter) where
    due_low : 32 ≤ get_or f 1 0
    due_low = omega arith

    due_high : get_or f 1 0 ≤ 47
    due_high = omega (arith, fit.counter_is)

    to_continued : m.length ≤ length b → step (Some m) f b ≡ continued m f
    to_continued r = to_message due_low due_high ∙ next_taken m f b due r

    to_short : length b < m.length → step (Some m) f b ≡ step_to (Some m) (Err (record { number = 2; place = 0 }))
    to_short r = to_message due_low due_high ∙ next_short m f b due r

module _ (s : State) (f b : List ℕ) (fit : Fit s) (eight : length f ≡ 8) where
  good : fits s ≡ true
  good = (fit_exactly s).1 fit

  -- ---- what each answer leaves

  if_heard : (listens s (get_or f 0 0) ≡ true → step s f b ≡ step_to s (Ok Ignored)) → step s f b ≡ step_to s (Ok Ignored)
  if_heard g = whether (listens s (get_or f 0 0)) g (step_nad s f b good eight)

  -- an ignored frame hands back the state and delivers nothing
  pub ignored_leaves : WhyIgnored s f b → step s f b ≡ step_to s (Ok Ignored)
  unfolding next_outcome
  ignored_leaves (nad_0 e) = step_nad s f b good eight (deaf_0 s (get_or f 0 0) e)
  ignored_leaves (no_kind h) = if_heard (λ t. step_other s f b good eight t (kind_other (get_or f 1 0) h))
  ignored_leaves (first_below l h q) =
      if_heard (λ t. step_kind s f b good eight t first (kind_first (get_or f 1 0) l h) refl ∙ first_low s f b q)
  ignored_leaves (first_above l h q) =
      if_heard (λ t. step_kind s f b good eight t first (kind_first (get_or f 1 0) l h) refl
      ∙ order 7 (256 * (get_or f 1 0 - 16) + get_or f 2 0) (λ x. first_high s f b x q) (λ x. first_low s f b x))
  ignored_leaves (single_above l h q) =
      if_heard (λ t. step_kind s f b good eight t single (kind_single (get_or f 1 0) l h) refl ∙ single_ignored s f b q)
  ignored_leaves (none_open l h e) = if_heard (λ t. step_next s f b good eight t (kind_next (get_or f 1 0) l h) ∙ rw e)
  ignored_leaves (other_nad m e n) = step_nad s f b good eight (rw e (deaf_other m (get_or f 0 0) n))

  -- a single frame is done, and closes what was open
  pub single_leaves : Single s f b
      → step s f b ≡ record { taken = record { state = None; answer = Ok (Done (get_or f 1 0)) }; place = 0; bytes = take (get_or f 1 0) (drop 2 f) }
  unfolding single_step
  single_leaves c =
      step_kind s f b good eight (heard_yes s (get_or f 0 0) c.heard) single (kind_single (get_or f 1 0) c.low c.high) refl
      ∙ single_taken s f b c.room

  -- a first frame opens a message of its NAD and length, with five bytes there and counter 1 due
  pub first_leaves : First s f b
      → step s f b
      ≡ record {
        taken = record {
          state = Some (record { nad = get_or f 0 0; length = 256 * (get_or f 1 0 - 16) + get_or f 2 0; count = 5; counter = 1 });
          answer = Ok Started;
        };
        place = 0;
        bytes = take 5 (drop 3 f);
      }
  unfolding first_step
  first_leaves c =
      step_kind s f b good eight (heard_yes s (get_or f 0 0) c.heard) first (kind_first (get_or f 1 0) c.low c.high) refl
      ∙ first_taken s f b c.least c.room

  module _ (m : Assembly) where
    -- a next frame that leaves some bytes to come: six bytes more, and the counter that follows, 0 after 15
    pub more_leaves : Due s f m → m.length ≤ length b → m.count + 6 < m.length
        → step s f b
        ≡ record {
          taken = record {
            state = Some (record { nad = m.nad; length = m.length; count = m.count + 6; counter = (m.counter + 1) % 16 });
            answer = Ok More;
          };
          place = m.count;
          bytes = take 6 (drop 2 f);
        }
    unfolding continued reached bytes_due
    more_leaves d r l =
        let e : min 6 (m.length - m.count) ≡ 6 = omega arith in
        rw d.is_open
        (to_continued m f b (rw d.is_open at fit) eight d.same d.counter r ∙ rw (e, lt-ltb (m.count + 6) m.length l))

    -- the last next frame delivers the rest, and closes the message
    pub last_leaves : Due s f m → m.length ≤ length b → m.length ≤ m.count + 6
        → step s f b
        ≡ record {
          taken = record { state = None; answer = Ok (Done m.length) };
          place = m.count;
          bytes = take (m.length - m.count) (drop 2 f);
        }
    unfolding continued reached bytes_due
    last_leaves d r l =
        let e : min 6 (m.length - m.count) ≡ m.length - m.count = omega arith in
        rw d.is_open
        (to_continued m f b (rw d.is_open at fit) eight d.same d.counter r
        ∙ rw (e, le-ltb (m.count + (m.length - m.count)) m.length (omega arith)))

    -- a wrong counter closes the message and delivers nothing
    pub broken_leaves : Wrong s f m → step s f b ≡ step_to None (Ok Broken)
    broken_leaves w =
        rw w.is_open (to_message m f b (rw w.is_open at fit) eight w.same w.low w.high ∙ next_broken m f b w.counter)

    -- a buffer shorter than the open message changes nothing
    pub short_leaves : Due s f m → length b < m.length → step s f b ≡ step_to s (Err (record { number = 2; place = 0 }))
    short_leaves d r = rw d.is_open (to_short m f b (rw d.is_open at fit) eight d.same d.counter r)

-- ---- every frame has its case

by_nad : {A : Type 0} (s : State) (f b : List ℕ) → (WhyIgnored s f b → A) → (Heard s (get_or f 0 0) → A) → A
by_nad None f b deaf hears = elim (ℕ_discrete (get_or f 0 0) 0) [ yes p ↦ deaf (nad_0 p) | no p ↦ hears p ]
by_nad (Some m) f b deaf hears =
    elim (ℕ_discrete (get_or f 0 0) 0) [
      | yes p ↦ deaf (nad_0 p)
      | no p ↦ elim (ℕ_discrete (get_or f 0 0) m.nad) [ yes q ↦ hears (p, q) | no q ↦ deaf (other_nad m refl q) ]
    ]

module _ (s : State) (f b : List ℕ) (fit : Fit s) (eight : length f ≡ 8) where
  ignored_case : WhyIgnored s f b → When s f b (step s f b).taken.answer
  ignored_case w = rw (ignored_leaves s f b fit eight w) w

  single_case : Single s f b → When s f b (step s f b).taken.answer
  single_case c = rw (single_leaves s f b fit eight c) (inl (c, refl))

  first_case : First s f b → When s f b (step s f b).taken.answer
  first_case c = rw (first_leaves s f b fit eight c) c

  due_case : (m : Assembly) → Due s f m → When s f b (step s f b).taken.answer
  due_case m d =
      order m.length (length b)
      (λ r. order m.length (m.count + 6)
      (λ k. rw (last_leaves s f b fit eight m d r k) (inr (m, d, r, k, refl)))
      (λ k. rw (more_leaves s f b fit eight m d r k) (m, d, r, k)))
      (λ r. rw (short_leaves s f b fit eight m d r) (m, d, r, refl))

  wrong_case : (m : Assembly) → Wrong s f m → When s f b (step s f b).taken.answer
  wrong_case m w = rw (broken_leaves s f b fit eight m w) (m, w)

next_case : (s : State) (f b : List ℕ) → Fit s → length f ≡ 8 → Heard s (get_or f 0 0) → 32 ≤ get_or f 1 0 → get_or f 1 0 ≤ 47
    → When s f b (step s f b).taken.answer
next_case None f b fit eight heard l h = ignored_case None f b fit eight (none_open l h refl)
next_case (Some m) f b fit eight heard l h =
    elim (ℕ_discrete (get_or f 1 0) (32 + m.counter)) [
      | yes e ↦ due_case (Some m) f b fit eight m (record { is_open = refl; same = heard.1; counter = e })
      | no n ↦ wrong_case (Some m) f b fit eight m (record { is_open = refl; same = heard.1; low = l; high = h; counter = n })
    ]

module _ (s : State) (f b : List ℕ) (fit : Fit s) (eight : length f ≡ 8) where
  abbrev pci : ℕ
  pci = get_or f 1 0

  abbrev told : ℕ
  told = 256 * (get_or f 1 0 - 16) + get_or f 2 0

  ignored : WhyIgnored s f b → When s f b (step s f b).taken.answer
  ignored = ignored_case s f b fit eight

  every_case : When s f b (step s f b).taken.answer
  every_case =
      by_nad s f b ignored
      (λ heard. order pci 0 (λ h. ignored (no_kind (inl (omega arith))))
      (λ h₀. order pci 6
      (λ h. order pci (length b)
      (λ r. single_case s f b fit eight (record { heard = heard; low = h₀; high = h; room = r }))
      (λ r. ignored (single_above h₀ h r)))
      (λ h₁. order pci 15 (λ h. ignored (no_kind (inr (inl (h₁, h)))))
      (λ h₂. order pci 31
      (λ h. order 7 told
      (λ l. order told (length b)
      (λ r. first_case s f b fit eight (record { heard = heard; low = h₂; high = h; least = l; room = r }))
      (λ r. ignored (first_above h₂ h r)))
      (λ l. ignored (first_below h₂ h l)))
      (λ h₃. order pci 47 (next_case s f b fit eight heard h₃)
      (λ h₄. ignored (no_kind (inr (inr h₄)))))))))

  answers : (a : Answered) → When s f b a → (step s f b).taken.answer ≡ a
  answers (Ok Ignored) w = rw (ignored_leaves s f b fit eight w)
  answers (Ok Started) w = rw (first_leaves s f b fit eight w)
  answers (Ok More) w = rw (more_leaves s f b fit eight w.0 w.1 w.2 w.3)
  answers (Ok (Done n)) w =
      ⊎_elim (λ c. rw (single_leaves s f b fit eight c.0, c.1))
      (λ c. rw (last_leaves s f b fit eight c.0 c.1 c.2 c.3, c.4)) w
  answers (Ok Broken) w = rw (broken_leaves s f b fit eight w.0 w.1)
  answers (Err r) w = rw (short_leaves s f b fit eight w.0 w.1 w.2, w.3)

  -- ---- each answer, exactly when

  answer_exactly : (a : Answered) → ((step s f b).taken.answer ≡ a) ↔ When s f b a
  answer_exactly a = ((λ e. rw e at every_case), answers a)

  -- ignored: exactly in the paper's seven cases
  pub ignored_exactly : ((step s f b).taken.answer ≡ Ok Ignored) ↔ WhyIgnored s f b
  ignored_exactly = answer_exactly (Ok Ignored)

  -- started: exactly at a first frame with a length from 7 up to the buffer's
  pub started_exactly : ((step s f b).taken.answer ≡ Ok Started) ↔ First s f b
  started_exactly = answer_exactly (Ok Started)

  -- more: exactly at a next frame with the counter due that does not bring the last byte
  pub more_exactly : ((step s f b).taken.answer ≡ Ok More)
      ↔ ((m : Assembly) × Due s f m × (m.length ≤ length b) × (m.count + 6 < m.length))
  more_exactly = answer_exactly (Ok More)

  -- done with the length: exactly at a single frame, and at the next frame that brings the last byte
  pub done_exactly : (n : ℕ) → ((step s f b).taken.answer ≡ Ok (Done n))
      ↔ ((Single s f b × (n ≡ get_or f 1 0))
      ⊎ ((m : Assembly) × Due s f m × (m.length ≤ length b) × (m.length ≤ m.count + 6) × (n ≡ m.length)))
  done_exactly n = answer_exactly (Ok (Done n))

  -- broken: exactly at a next frame of the open NAD with a wrong counter
  pub broken_exactly : ((step s f b).taken.answer ≡ Ok Broken) ↔ ((m : Assembly) × Wrong s f m)
  broken_exactly = answer_exactly (Ok Broken)

-- ---- refusals

-- 2, 3 and 11, each exactly when its row applies, and with no place
module _ (s : State) (f b : List ℕ) where
  pub take_refused_exactly : (r : Refusal) → ((step s f b).taken.answer ≡ Err r)
      ↔ (((Fit s → ⊥) × (r ≡ record { number = 3; place = 0 }))
      ⊎ (Fit s × (length f ≡ 8 → ⊥) × (r ≡ record { number = 11; place = 0 }))
      ⊎ (Fit s × (length f ≡ 8) × ((m : Assembly) × Due s f m × (length b < m.length) × (r ≡ record { number = 2; place = 0 }))))
  take_refused_exactly r = (
    (λ e. whether (fits s)
        (λ t.
        let fit = (fit_exactly s).0 t in
        elim (ℕ_discrete (length f) 8) [
          | yes l ↦ inr (inr (fit, l, (answer_exactly s f b fit l (Err r)).0 e))
          | no l ↦ let q = rw (step_length s f b t l) at e in inr (inl (fit, l, cc))
        ])
        (λ t.
        let q = rw (step_unfit s f b t) at e in
        inl ((λ fit. let u = (fit_exactly s).1 fit in let z : ◌≡◌ {A = ℕ} 0 1 = cc in omega arith), cc))),
    ⊎_elim
        (λ h. whether (fits s) (λ t. absurd (h.0 ((fit_exactly s).0 t))) (λ t. rw (step_unfit s f b t, h.1)))
        (⊎_elim
        (λ h. rw (step_length s f b ((fit_exactly s).1 h.0) h.1, h.2))
        (λ h. (answer_exactly s f b h.0 h.1 (Err r)).1 h.2)),
  )
