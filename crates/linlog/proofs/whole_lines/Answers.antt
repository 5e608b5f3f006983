-- One step of a log in parts; the report of a part is no refusal.
use Rattle.std.proofs.Common.{◌*◌, ◌≤◌, length, take, refl, arith, length-take-le}
use Rattle.buslog.specs.Row.{longest_row}
use Rattle.buslog.proofs.ReportLaws.{put_within}
use Rattle.linlog.proofs.PartLaws.{is_reported, step}
use Rattle.linlog.proofs.whole_lines.Goals as goal

pub unwrap-written-requires : goal.unwrap-written-requires
unwrap-written-requires c =
    let few : longest_row * length (take c.args.n c.args.text.now) ≤ length c.args.out.now =
    omega (arith, length-take-le c.args.n c.args.text.now c.requires, c.told-text, c.told-out) in
    rw (c.write.ensures.leaves.handed, is_reported c.args.log.number c.table-table.result _ c.args.out.now few c.table-table.ensures)

pub shared_ref_as_front-write_out : goal.shared_ref_as_front-write_out
shared_ref_as_front-write_out c =
    let left = rw c.unwrap-written.ensures at c.write.ensures.leaves in
    omega (arith, put_within _ _ _ _ _ _ _ left, c.write.auto.out, c.told-out)

pub returns : goal.returns
returns c =
    let few : longest_row * length (take c.args.n c.args.text.now) ≤ length c.args.out.now =
    omega (arith, length-take-le c.args.n c.args.text.now c.requires, c.told-text, c.told-out) in
    step c.args.log _ _ (take c.args.n c.args.text.now) c.args.out.now _ _ few
    c.table-table.ensures
    (rw c.unwrap-written.ensures at c.write.ensures.leaves) _ _ refl c.keep.ensures
