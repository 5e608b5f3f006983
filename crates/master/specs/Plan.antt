-- Document 01, "Select" and "Tick": the wait, the current entry and the requested schedule from call to call.
use Rattle.std.specs.Prelude.{ℕ, ◌-◌, Bool, List, ltb}
use Rattle.cluster.specs.Table.{entry_delay}
use Rattle.cluster.specs.Lists.{first_entry, next_entry}
use Rattle.master.specs.declared.state.Plan.{Plan}
use Rattle.std.specs.Prelude.{Some, None, Option}

-- "Select asks for a schedule"; "The last request before that counts"
abbrev pub asking : Plan → ℕ → Plan
asking p n = record { wait = p.wait; current = p.current; requested = Some n }

-- "If the wait is above 1"
abbrev pub waits : Plan → Bool
waits p = ltb 1 p.wait

-- "it falls by one"
abbrev pub waited : Plan → Plan
waited p = record { wait = p.wait - 1; current = p.current; requested = p.requested }

-- "the requested schedule begins", "at its entry 0", "or the next entry follows, cyclically"
abbrev pub entry_due : List ℕ → Option ℕ → Option ℕ → Option ℕ
entry_due t (Some n) c = Some (first_entry t n)
entry_due t None None = None
entry_due t None (Some e) = Some (next_entry t e)

-- "The wait becomes the entry's delay."
abbrev pub begun : List ℕ → ℕ → Plan
begun t e = record { wait = entry_delay t e; current = Some e; requested = None }
