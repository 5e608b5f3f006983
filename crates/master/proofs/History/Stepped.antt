-- One more call: the state and the bytes after it are what the history says, its answer is the one that the history gives, and a list's slot is lawful.
use mathlib.Core.List.{List}
use Prim.Native.Nat.{ℕ}
use Rattle.master.specs.Seq.{Seq, ◌▹◌}
use Rattle.master.specs.Calls.{Call, Answer, ◌⇒◌}
use Rattle.master.specs.Run.{Held}
use Rattle.master.specs.Schedule.{Scheduled, schedule}
use Rattle.master.specs.Replies.{Replies}
use Rattle.master.proofs.History.Progress.{Lawful}
use Rattle.master.proofs.History.Agrees.{Agrees}

pub record Stepped (t : List ℕ) (h : Seq Scheduled) (c : Call) (a : Answer c) (x : Held) : Type 0 where
  pub agrees : Agrees t (h ▹ schedule t h (c ⇒ a)) x
  pub replies : Replies t h c a
  pub lawful : Lawful t h (schedule t h (c ⇒ a))
