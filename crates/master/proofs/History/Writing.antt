-- An accepted write: the state and the bytes after it are what the history says.
use Prim.Native.Nat.{ℕ, ◌<◌}
use mathlib.Core.Path.{◌≡◌}
use mathlib.Core.Bool.{true}
use mathlib.Core.List.{List}
use Rattle.cluster.specs.Check.{RightTable}
use Rattle.cluster.specs.Table.{signal_count}
use Rattle.master.specs.Fits.{state_fits}
use Rattle.master.specs.Write.{marked}
use Rattle.master.specs.Seq.{Seq, ◌▹◌}
use Rattle.master.specs.Run.{Held, held}
use Rattle.master.specs.Acts.{wrote}
use Rattle.master.specs.Schedule.{Scheduled, act, plan_by, plan_after}
use Rattle.master.specs.History.{closes, succeeds}
use Rattle.master.specs.Answering.{message_after, counted_after}
use Rattle.master.proofs.History.FramesAre.{frames_wrote}
use Rattle.master.proofs.History.TransferIs.{transfer_wrote}
use Rattle.master.proofs.History.Agrees.{Agrees}
use Rattle.master.proofs.History.ReceivedAre.{received_quiet}
use Rattle.master.specs.Put.{Value, with_value}

pub agrees_wrote : (t : List ℕ) → RightTable t → (h : Seq Scheduled) (x : Held) → Agrees t h x → (y : Scheduled) (s : ℕ) (v : Value) → act y ≡ wrote s v
    → s < signal_count t → state_fits t (marked t s x.state) ≡ true
    → Agrees t (h ▹ y) (held (marked t s x.state) (with_value t x.bytes s v))
unfolding closes succeeds plan_after plan_by message_after counted_after marked
agrees_wrote t ok h x is y s v a hs f = record {
  fits = f;
  frames = frames_wrote t h x.state.pending x.bytes is.frames y ok s v hs a;
  transfer = transfer_wrote t h x.state.transfer is.transfer y s v a;
  plan_is = rw a is.plan_is;
  message_is = rw a is.message_is;
  status_is = rw a is.status_is;
  received_are = received_quiet t h x.state.received is.received_are y (rw a);
}
