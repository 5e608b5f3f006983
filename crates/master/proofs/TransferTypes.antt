-- What the types of a transfer know by their ghost fields.
use Prim.Native.Nat.{◌≤◌, ◌<◌}
use mathlib.Core.Path.{◌≡◌}
use mathlib.Core.Bool.{true}
use native.Mathlib.Omega.{arith}
use Rattle.master.specs.declared.closing.InTransfer.{InTransfer}
use Rattle.master.specs.declared.transfer.Known.{Known}
use Rattle.master.specs.Fits.{frame_there, message_fits}
use Rattle.master.specs.Transfers.{is_open, open_identifier, open_length}
use Rattle.master.proofs.Admitted.{fits_clauses, open_identifier_lem, open_length_low, open_length_high, open_count}

module _ (known : Known) where
  pub known_identifier : open_identifier known.t.words.now known.opened < 64
  known_identifier = open_identifier_lem known.t.words.now known.t.right known.opened known.there

  pub known_low : is_open known.opened ≡ true → 1 ≤ open_length known.t.words.now known.opened
  known_low = open_length_low known.t.words.now known.t.right known.opened known.there

  pub known_high : open_length known.t.words.now known.opened ≤ 8
  known_high = open_length_high known.t.words.now known.t.right known.opened known.there

module _ (x : InTransfer) where
  pub transfer_there : frame_there x.t.words.now x.state.transfer.opened ≡ true
  transfer_there = (fits_clauses x.t.words.now x.state x.fits).frame_there_lem

  pub transfer_message : message_fits x.state.message ≡ true
  transfer_message = (fits_clauses x.t.words.now x.state x.fits).message_fits_lem

  pub transfer_length : open_length x.t.words.now x.state.transfer.opened ≤ 8
  transfer_length = open_length_high x.t.words.now x.t.right x.state.transfer.opened transfer_there

  -- at most eight bytes have passed
  pub transfer_count : x.state.transfer.count ≤ 8
  transfer_count =
      let count = open_count x.t.words.now x.state (fits_clauses x.t.words.now x.state x.fits).count_fits_lem x.opened in
      omega (arith, count, transfer_length)
