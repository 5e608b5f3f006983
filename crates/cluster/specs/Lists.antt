-- Document 01, "The cluster table": the members of a list in order, and the entries of a schedule.
use Rattle.std.specs.Prelude.{ℕ, zero, suc, ◌-◌, Bool, true, false, cond, ◌&&◌, List, [], ◌∷◌, ltb, eqb}
use Rattle.cluster.specs.Table.{member_count, member_list, member_frame, entry_count, entry_schedule}

-- the first of the n numbers from k on at which the test holds; the number behind them where it holds at none
unfoldable pub first_from : (ℕ → Bool) → ℕ → ℕ → ℕ
first_from test k zero = k
first_from test k (suc n) = cond (test k) k (first_from test (suc k) n)

-- the frames of list l among the n members from member m on
unfoldable pub members_from : List ℕ → ℕ → ℕ → ℕ → List ℕ
members_from t l m zero = []
members_from t l m (suc n) =
    cond (eqb (member_list t m) l) (member_frame t m ∷ members_from t l (suc m) n) (members_from t l (suc m) n)

-- the frames of a list; "Member order is priority order"
unfoldable pub members : List ℕ → ℕ → List ℕ
members t l = members_from t l 0 (member_count t)

-- the first member of list l from member m on; where there is none, the number of members, or m where that is more
unfoldable pub next_member : List ℕ → ℕ → ℕ → ℕ
next_member t l m = first_from (λ k. eqb (member_list t k) l) m (member_count t - m)

-- a frame is one of some frames
unfoldable pub is_one_of : ℕ → List ℕ → Bool
is_one_of f [] = false
is_one_of f (g ∷ gs) = cond (eqb g f) true (is_one_of f gs)

-- the member that a frame is; the number of members where it is in no list
unfoldable pub member_of : List ℕ → ℕ → ℕ
member_of t f = first_from (λ m. eqb (member_frame t m) f) 0 (member_count t)

-- the frames ahead of a frame in its list: those of the same list among the members before it
unfoldable pub frames_ahead : List ℕ → ℕ → List ℕ
frames_ahead t f = members_from t (member_list t (member_of t f)) 0 (member_of t f)

-- the first entry of a schedule, its entry 0; the number of entries where there is none
unfoldable pub first_entry : List ℕ → ℕ → ℕ
first_entry t n = first_from (λ e. eqb (entry_schedule t e) n) 0 (entry_count t)

-- "the next entry follows, cyclically"
unfoldable pub next_entry : List ℕ → ℕ → ℕ
next_entry t e =
    cond (ltb (suc e) (entry_count t) && eqb (entry_schedule t (suc e)) (entry_schedule t e))
    (suc e)
    (first_entry t (entry_schedule t e))
